-- What is read of a pin group without its timing groups and what is not read of it: all but its timing is the same.
use Rattle.std.proofs.Common.{◌≡◌, ℕ, Bool, true, false, not, ◌&&◌, ◌||◌, ◌==◌, List, [], ◌∷◌, ◌++◌, length, map}
use Rattle.std.proofs.Common.{Option, Some, None, if◌then◌else◌, refl, sym, ap, ◌∙◌, codes, min, arith}
use Rattle.std.specs.Prelude.{flat_map, bytes_eq, is_some, is_none, unwrap_or, option_map, option_to_list}
use Rattle.std.specs.Option.{option_map_or}
use Rattle.std.specs.List.{cons_option}
use Rattle.std.proofs.lemmas.List.Elements.{filter_map-append}
use Rattle.liberty_groups.specs.declared.tree.Value.{Value}
use Rattle.liberty_groups.specs.declared.tree.Item.{Item, out-Item}
use Rattle.liberty_groups.specs.declared.tree.Item.TheOpen.{Group-F}
use Rattle.liberty_groups.specs.declared.tree.Item.TheViews.{out-roll-Group, outs-Simple}
use Rattle.liberty_groups.specs.declared.tree.Group.{Group}
use Rattle.liberty_groups.specs.Attributes.{Attribute, simple_named, group_named, attributes_named, groups_named, last_or}
use Rattle.liberty_groups.specs.Attributes.{attribute_of}
use Rattle.cell_machine.specs.declared.pins.Direction.{Direction}
use Rattle.cell_machine.specs.declared.pins.Direction.TheVariants as direction
use Rattle.cell_machine.specs.CellRules.{is_input_pin}
use Rattle.cell_machine.specs.Delay.{lesser, least}
use Rattle.cell_machine.proofs.LeastLemmas.{lesser_none, lesser_assoc, least_append}
use Rattle.timing_arcs.specs.declared.subject.Subject.{Subject}
use Rattle.timing_arcs.specs.Timing as timing
use Rattle.cell_attributes.specs.declared.vocabulary.Class.{Class}
use Rattle.cell_attributes.specs.declared.declarations.Role.TheVariants.{Bearer, Plain}
use Rattle.cell_attributes.specs.States.{StateName, states_in}
use Rattle.cell_attributes.specs.Vocabulary.{Vocabulary, is_bound, class_as, entry_with, pin_entry, pin_entries, internal_class}
use Rattle.cell_attributes.specs.Declarations.{Declared, is_internal, says, declared_pin, declared_in, declared_state}
use Rattle.cell_attributes.specs.Groups.{is_pin, is_state, offsets_of}
use Rattle.cell_attributes.specs.Pins.{direction_as, direction_of, pins_in}
use Rattle.cell_attributes.specs.Scans.{place_or, place_unless, is_output_group, direction_in, three_state_in}
use Rattle.cell_attributes.specs.Scans.{bank_in, left_out_in, no_function_in}
use Rattle.cell_attributes.specs.Outputs.{node_as, output_with, pin_text_as, pin_text}
use Rattle.core_groups.specs.Outputs.{is_three_state}
use Rattle.cell_reader.specs.Written as written
use Rattle.three_state_cells.specs.PinAttributes.{counted_names, refusing_names, statement_of, counted, refusing, refusing_of}
use Rattle.three_state_cells.specs.PinAttributes.{without_text, read_attributes, untimed}

-- The statements of attributes that a group is made of.
abbrev none : List Attribute
none = []

neither : (b : Bool) → none ≡ (if b then none else none)
neither true = refl
neither false = refl

of_statement : (name other : List ℕ) (o : Option Attribute)
    → attributes_named name (statement_of other o) ≡ (if bytes_eq other name then option_to_list o else [])
of_statement name other None = neither (bytes_eq other name)
of_statement name other (Some a) =
    ap (λ one. cons_option (simple_named name one) []) (outs-Simple other (record { bytes = a.text; quoted = true } ∷ []) a.at)
    ∙ by (bytes_eq other name)
  where
    by : (b : Bool) → cons_option (if b then Some a else None) [] ≡ (if b then a ∷ [] else [])
    by true = refl
    by false = refl

abbrev among : List ℕ → (List ℕ → Option Attribute) → List (List ℕ) → List Attribute
among name told names = flat_map (λ other. if bytes_eq other name then option_to_list (told other) else []) names

of_statements : (name : List ℕ) (told : List ℕ → Option Attribute) (names : List (List ℕ))
    → attributes_named name (flat_map (λ other. statement_of other (told other)) names) ≡ among name told names
of_statements name told [] = refl
of_statements name told (other ∷ names) =
    filter_map-append (λ item. simple_named name (out-Item item)) (statement_of other (told other))
    (flat_map (λ other. statement_of other (told other)) names)
    ∙ (λ i. of_statement name other (told other) i ++ of_statements name told names i)

no_group : (name other : List ℕ) (o : Option Attribute) → groups_named name (statement_of other o) ≡ []
no_group name other None = refl
no_group name other (Some a) =
    ap (λ one. cons_option (group_named name one) []) (outs-Simple other (record { bytes = a.text; quoted = true } ∷ []) a.at)

no_groups : (name : List ℕ) (told : List ℕ → Option Attribute) (names : List (List ℕ))
    → groups_named name (flat_map (λ other. statement_of other (told other)) names) ≡ []
no_groups name told [] = refl
no_groups name told (other ∷ names) =
    filter_map-append (λ item. group_named name (out-Item item)) (statement_of other (told other))
    (flat_map (λ other. statement_of other (told other)) names)
    ∙ (λ i. no_group name other (told other) i ++ no_groups name told names i)

-- one of them
one_counted : (o : Option Attribute) → last_or None (((option_to_list o ++ []) ++ []) ++ []) ≡ o
one_counted None = refl
one_counted (Some a) = refl

one_refusing : (o : Option ℕ)
    → least (map (λ (a : Attribute). a.at) ((option_to_list (option_map without_text o) ++ []) ++ [])) ≡ o
one_refusing None = refl
one_refusing (Some at) = refl

some_last : (a : Attribute) (others : List Attribute) → is_some (last_or (Some a) others) ≡ true
some_last a [] = refl
some_last a (b ∷ others) = some_last b others

-- Of all statements of a name those are left that count: the one at the least offset, and the last one.
abbrev places : List Attribute → List ℕ
places all = map (λ (a : Attribute). a.at) all

abbrev first_and_last : Option ℕ → Option Attribute → List Attribute
first_and_last at last = (option_to_list (option_map without_text at) ++ []) ++ option_to_list last

last_told : (at : Option ℕ) (last : Option Attribute) → is_some last ≡ true → last_or None (first_and_last at last) ≡ last
last_told at None h = absurd cc
last_told None (Some a) h = refl
last_told (Some at) (Some a) h = refl

same_last : (all : List Attribute) → last_or None (first_and_last (least (places all)) (last_or None all)) ≡ last_or None all
same_last [] = refl
same_last (a ∷ others) = last_told (least (places (a ∷ others))) (last_or (Some a) others) (some_last a others)

least_told : (at : Option ℕ) (last : Option Attribute)
    → least (places (first_and_last at last)) ≡ lesser at (option_map (λ (a : Attribute). a.at) last)
least_told None None = refl
least_told None (Some a) = refl
least_told (Some at) None = refl
least_told (Some at) (Some a) = refl

min_again : (x : ℕ) → min x x ≡ x
min_again x = omega arith

pub again : (a : Option ℕ) → lesser a a ≡ a
again None = refl
again (Some x) = ap Some (min_again x)

last_among : (one : Option Attribute) (all : List Attribute)
    → lesser (lesser (option_map (λ (a : Attribute). a.at) one) (least (places all)))
    (option_map (λ (a : Attribute). a.at) (last_or one all))
    ≡ lesser (option_map (λ (a : Attribute). a.at) one) (least (places all))
last_among one [] =
    let at : Option ℕ = option_map (λ (a : Attribute). a.at) one in
    ap (λ o. lesser o at) (lesser_none at) ∙ (again at ∙ sym (lesser_none at))
last_among one (a ∷ all) =
    let at : Option ℕ = option_map (λ (a : Attribute). a.at) one in
    lesser_assoc at (least (places (a ∷ all))) (option_map (λ (a : Attribute). a.at) (last_or (Some a) all))
    ∙ ap (lesser at) (last_among (Some a) all)

same_least : (all : List Attribute) → least (places (first_and_last (least (places all)) (last_or None all))) ≡ least (places all)
same_least all = least_told (least (places all)) (last_or None all) ∙ last_among None all

abbrev pub shape : Group → Group-F Item Group
shape group = record { name = group.name; arguments = group.arguments; items = read_attributes group; at = group.at }

-- The limits of the widths of pulses and of the period, which stand in attributes.
abbrev pub attribute_numbers : Subject → Group → List ℕ
attribute_numbers s pin =
    timing.bad_attribute s (timing.pulse_high s pin)
    ++ (timing.bad_attribute s (timing.pulse_low s pin) ++ timing.bad_attribute s (timing.least_period s pin))

module _ (group : Group) where
  same_name : (untimed group).name ≡ group.name
  same_name = ap (λ (one : Group-F Item Group). one.name) (out-roll-Group (shape group))

  pub same_arguments : (untimed group).arguments ≡ group.arguments
  same_arguments = ap (λ (one : Group-F Item Group). one.arguments) (out-roll-Group (shape group))

  pub same_at : (untimed group).at ≡ group.at
  same_at = ap (λ (one : Group-F Item Group). one.at) (out-roll-Group (shape group))

  kept_items : (untimed group).items ≡ read_attributes group
  kept_items = ap (λ (one : Group-F Item Group). one.items) (out-roll-Group (shape group))

  abbrev floats : Option Attribute
  floats = attribute_of group (codes "three_state")

  abbrev all_named : List ℕ → List Attribute
  all_named name =
      (among name (attribute_of group) counted_names ++ among name (refusing_of group) refusing_names)
      ++ (if bytes_eq (codes "three_state") name then option_to_list floats else [])

  named : (name : List ℕ) → attributes_named name (untimed group).items ≡ all_named name
  named name =
      ap (attributes_named name) kept_items
      ∙ (filter_map-append (λ item. simple_named name (out-Item item))
      (flat_map (counted group) counted_names ++ flat_map (refusing group) refusing_names)
      (counted group (codes "three_state"))
      ∙ (λ i. (filter_map-append (λ item. simple_named name (out-Item item)) (flat_map (counted group) counted_names)
      (flat_map (refusing group) refusing_names)
      ∙ (λ j. of_statements name (attribute_of group) counted_names j ++ of_statements name (refusing_of group) refusing_names j)) i
      ++ of_statement name (codes "three_state") floats i))

  same_direction_told : attribute_of (untimed group) (codes "direction") ≡ attribute_of group (codes "direction")
  same_direction_told = ap (last_or None) (named (codes "direction")) ∙ one_counted (attribute_of group (codes "direction"))

  same_function : attribute_of (untimed group) (codes "function") ≡ attribute_of group (codes "function")
  same_function = ap (last_or None) (named (codes "function")) ∙ one_counted (attribute_of group (codes "function"))

  same_state_function : attribute_of (untimed group) (codes "state_function") ≡ attribute_of group (codes "state_function")
  same_state_function =
      ap (last_or None) (named (codes "state_function")) ∙ one_counted (attribute_of group (codes "state_function"))

  same_node : attribute_of (untimed group) (codes "internal_node") ≡ attribute_of group (codes "internal_node")
  same_node = ap (last_or None) (named (codes "internal_node")) ∙ one_counted (attribute_of group (codes "internal_node"))

  same_high : attribute_of (untimed group) (codes "min_pulse_width_high") ≡ attribute_of group (codes "min_pulse_width_high")
  same_high =
      ap (last_or None) (named (codes "min_pulse_width_high"))
      ∙ one_counted (attribute_of group (codes "min_pulse_width_high"))

  same_low : attribute_of (untimed group) (codes "min_pulse_width_low") ≡ attribute_of group (codes "min_pulse_width_low")
  same_low =
      ap (last_or None) (named (codes "min_pulse_width_low"))
      ∙ one_counted (attribute_of group (codes "min_pulse_width_low"))

  same_period : attribute_of (untimed group) (codes "min_period") ≡ attribute_of group (codes "min_period")
  same_period = ap (last_or None) (named (codes "min_period")) ∙ one_counted (attribute_of group (codes "min_period"))

  pub same_floats : attribute_of (untimed group) (codes "three_state") ≡ floats
  same_floats =
      ap (last_or None) (named (codes "three_state")) ∙ same_last (attributes_named (codes "three_state") group.items)

  pub same_is_pin : is_pin (untimed group) ≡ is_pin group
  same_is_pin = λ i. bytes_eq (same_name i) (codes "pin") && not (length (same_arguments i) == 0)

  pub same_is_state : is_state (untimed group) ≡ is_state group
  same_is_state =
      λ i. bytes_eq (same_name i) (codes "ff")
      || (bytes_eq (same_name i) (codes "latch") || bytes_eq (same_name i) (codes "statetable"))

  pub same_bank : bank_in (untimed group) ≡ bank_in group
  unfolding bank_in
  same_bank =
      λ i. if bytes_eq (same_name i) (codes "bus")
      || (bytes_eq (same_name i) (codes "bundle")
      || (bytes_eq (same_name i) (codes "ff_bank") || bytes_eq (same_name i) (codes "latch_bank")))
      then same_at i ∷ [] else []

  same_direction : direction_of (untimed group) ≡ direction_of group
  same_direction = ap direction_as same_direction_told

  pub same_directions : direction_in (untimed group) ≡ direction_in group
  unfolding direction_in
  same_directions =
      λ i. place_unless (place_or (same_at i) (same_direction_told i)) (direction_as (same_direction_told i))

  -- the least offset of those that refuse
  same_place : (name : List ℕ)
      → all_named name ≡ (option_to_list (refusing_of group name) ++ []) ++ []
      → least (offsets_of name (untimed group)) ≡ least (offsets_of name group)
  same_place name e =
      ap (λ l. least (map (λ (a : Attribute). a.at) l)) (named name ∙ e) ∙ one_refusing (least (offsets_of name group))

  pub same_three_states : least (three_state_in (untimed group)) ≡ least (three_state_in group)
  unfolding three_state_in
  same_three_states =
      ap (λ l. least (places l)) (named (codes "three_state")) ∙ same_least (attributes_named (codes "three_state") group.items)

  pub same_left_out : least (left_out_in (untimed group)) ≡ least (left_out_in group)
  unfolding left_out_in
  same_left_out =
      all_parts (untimed group)
      ∙ ((λ i. lesser (same_place (codes "clocked_on_also") refl i)
      (lesser (same_place (codes "enable_also") refl i) (same_place (codes "input_map") refl i)))
      ∙ sym (all_parts group))
    where
      all_parts : (one : Group)
          → least (offsets_of (codes "clocked_on_also") one
          ++ (offsets_of (codes "enable_also") one ++ offsets_of (codes "input_map") one))
          ≡ lesser (least (offsets_of (codes "clocked_on_also") one))
          (lesser (least (offsets_of (codes "enable_also") one)) (least (offsets_of (codes "input_map") one)))
      all_parts one =
          least_append (offsets_of (codes "clocked_on_also") one)
          (offsets_of (codes "enable_also") one ++ offsets_of (codes "input_map") one)
          ∙ ap (lesser (least (offsets_of (codes "clocked_on_also") one)))
          (least_append (offsets_of (codes "enable_also") one) (offsets_of (codes "input_map") one))

  pub same_no_function : no_function_in (untimed group) ≡ no_function_in group
  unfolding no_function_in
  same_no_function =
      λ i. if is_output_group (direction_as (same_direction_told i))
      && (is_none (same_function i)
      && (is_none (same_state_function i) && is_none (same_node i)))
      then same_at i ∷ [] else []

  text_by : (v : Vocabulary) (o : Option Direction) → pin_text_as v (untimed group) o ≡ pin_text_as v group o
  text_by v None = refl
  text_by v (Some direction.Input) = refl
  text_by v (Some direction.Output) =
      λ i. output_with v (same_state_function i) (same_node i)
      (same_function i)
  text_by v (Some direction.Internal) = ap (node_as v) same_node

  pub same_text : (v : Vocabulary) → pin_text v (untimed group) ≡ pin_text v group
  same_text v = ap (pin_text_as v (untimed group)) same_direction ∙ text_by v (direction_of group)

  pub same_pins : pins_in (untimed group) ≡ pins_in group
  same_pins =
      λ i. map (λ (value : Value). record { name = value.bytes; direction = unwrap_or (same_direction i) direction.Input })
      (same_arguments i)

  class_by : (states : List StateName) (name : List ℕ) (o : Option Direction)
      → class_as states (untimed group) name o ≡ class_as states group name o
  class_by states name None = refl
  class_by states name (Some direction.Input) = refl
  class_by states name (Some direction.Output) = refl
  class_by states name (Some direction.Internal) = ap (internal_class states name) same_node

  entry_by : (name : List ℕ) (class : Class) → entry_with (untimed group) name class ≡ entry_with group name class
  entry_by name class =
      λ i. record {
        name = name;
        class = class;
        target =
            (if is_bound class then option_map_or (λ (a : Attribute). a.text) (same_node i) name
            else name);
      }

  same_entry : (states : List StateName) (value : Value) → pin_entry states (untimed group) value ≡ pin_entry states group value
  same_entry states value =
      ap (λ o. entry_with (untimed group) value.bytes (class_as states (untimed group) value.bytes o)) same_direction
      ∙ (ap (entry_with (untimed group) value.bytes) (class_by states value.bytes (direction_of group))
      ∙ entry_by value.bytes (class_as states group value.bytes (direction_of group)))

  pub same_entries : (states : List StateName) → pin_entries states (untimed group) ≡ pin_entries states group
  same_entries states = λ i. map (λ value. same_entry states value i) (same_arguments i)

  abbrev else_declared : Group → List Declared
  else_declared one = if is_state one then flat_map (declared_state one.at) (states_in one) else []

  pub same_declared : is_pin group ≡ true → declared_in (untimed group) ≡ declared_in group
  same_declared e =
      ap (λ b. if b then map (declared_pin (untimed group)) (untimed group).arguments else else_declared (untimed group))
      (same_is_pin ∙ e)
      ∙ ((λ i. map (λ (value : Value). record {
        name = value.bytes;
        role =
            (if is_internal (same_direction i) && says value.bytes (same_node i) then Bearer else Plain);
        at = same_at i;
      }) (same_arguments i))
      ∙ sym (ap (λ b. if b then map (declared_pin group) group.arguments else else_declared group) e))

  pub same_floating : is_three_state (untimed group) ≡ is_three_state group
  unfolding is_three_state
  same_floating =
      λ i. same_is_pin i && (is_output_group (same_direction i) && is_some (same_floats i))

  -- nothing of its timing groups is left
  pub no_timings : timing.timing_groups (untimed group) ≡ []
  no_timings =
      ap (groups_named (codes "timing")) kept_items
      ∙ (filter_map-append (λ item. group_named (codes "timing") (out-Item item))
      (flat_map (counted group) counted_names ++ flat_map (refusing group) refusing_names)
      (counted group (codes "three_state"))
      ∙ (λ i. (filter_map-append (λ item. group_named (codes "timing") (out-Item item)) (flat_map (counted group) counted_names)
      (flat_map (refusing group) refusing_names)
      ∙ (λ j. no_groups (codes "timing") (attribute_of group) counted_names j
      ++ no_groups (codes "timing") (refusing_of group) refusing_names j)) i
      ++ no_group (codes "timing") (codes "three_state") floats i))

  pub no_malformed : (s : Subject) → timing.malformed_at s (untimed group) ≡ []
  no_malformed s = ap (flat_map (timing.malformed_in s)) no_timings

  pub no_unknown : (s : Subject) → timing.unknown_names_at s (untimed group) ≡ []
  no_unknown s = ap (flat_map (timing.unknown_in s)) no_timings

  pub no_own : (s : Subject) → written.own_conditions_of s (untimed group) ≡ []
  no_own s = ap (flat_map (written.own_in s)) no_timings

  limit : (s : Subject) (name : List ℕ) → attribute_of (untimed group) name ≡ attribute_of group name
      → timing.limit_attribute s (untimed group) name ≡ timing.limit_attribute s group name
  limit s name same = ap (λ o. if is_input_pin s.pins s.place then o else None) same

  pub kept_numbers : (s : Subject) → timing.numbers_at s (untimed group) ≡ attribute_numbers s group
  kept_numbers s =
      ap (λ l. flat_map (timing.bad_numbers_in s) l ++ attribute_numbers s (untimed group)) no_timings
      ∙ (λ i. timing.bad_attribute s (limit s (codes "min_pulse_width_high") same_high i)
      ++ (timing.bad_attribute s (limit s (codes "min_pulse_width_low") same_low i)
      ++ timing.bad_attribute s (limit s (codes "min_period") same_period i)))
