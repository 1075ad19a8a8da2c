-- A pin group with one name, which is like another group in its statements and its offset: all that is read of it is the same.
use Rattle.std.proofs.Common.{◌≡◌, ℕ, true, false, not, ◌&&◌, ◌||◌, ◌==◌, List, [], ◌∷◌, ◌++◌, length, map, Option, Some, None}
use Rattle.std.proofs.Common.{if◌then◌else◌, refl, sym, ap, ◌∙◌, codes}
use Rattle.std.specs.Prelude.{flat_map, bytes_eq, is_some, is_none, unwrap_or, Ok, Err}
use Rattle.std.specs.Option.{option_map_or}
use Rattle.liberty_groups.specs.declared.tree.Value.{Value}
use Rattle.liberty_groups.specs.declared.tree.Item.{Item}
use Rattle.liberty_groups.specs.declared.tree.Item.TheOpen.{Group-F}
use Rattle.liberty_groups.specs.declared.tree.Item.TheViews.{out-roll-Group}
use Rattle.liberty_groups.specs.declared.tree.Group.{Group, roll-Group}
use Rattle.liberty_groups.specs.Attributes.{Attribute, attributes_named, groups_named, last_or, attribute_of}
use Rattle.cell_machine.specs.declared.checks.CheckKind.TheVariants as kind
use Rattle.cell_machine.specs.declared.checks.Edge.TheVariants.{Any, Rise, Fall}
use Rattle.cell_machine.specs.declared.groups.StateGroup.{StateGroup}
use Rattle.cell_machine.specs.declared.pins.Direction.{Direction}
use Rattle.cell_machine.specs.declared.pins.Direction.TheVariants as direction
use Rattle.cell_machine.specs.declared.pins.Pin.{Pin}
use Rattle.cell_machine.specs.CellRules.{is_input_pin}
use Rattle.cell_machine.specs.Delay.{least}
use Rattle.timing_arcs.specs.declared.fault.TimingFault.TheVariants as fault
use Rattle.timing_arcs.specs.declared.subject.Subject.{Subject}
use Rattle.timing_arcs.specs.declared.subject.PinTiming.{PinTiming}
use Rattle.timing_arcs.specs.Making.{checks_in}
use Rattle.timing_arcs.specs.Merging.{merged, merged_at}
use Rattle.timing_arcs.specs.Timing as timing
use Rattle.cell_reader.specs.PinTimings.{Answer, arc_at_of, type_at, left_out_in}
use Rattle.cell_reader.specs.Refusals.{met, first_refusal}
use Rattle.cell_reader.specs.declared.refusal.Reason.TheVariants as reason
use Rattle.cell_reader.specs.declared.refusal.Refusal.{Refusal}
use Rattle.cell_reader.specs.Written as written
use Rattle.cell_attributes.specs.Vocabulary.{Entry, Vocabulary, is_bound, class_as, entry_with, pin_entry, pin_entries}
use Rattle.cell_attributes.specs.States.{StateName}
use Rattle.cell_attributes.specs.declared.vocabulary.Class.{Class}
use Rattle.cell_attributes.specs.declared.declarations.Role.TheVariants.{Bearer, Plain}
use Rattle.cell_attributes.specs.Declarations.{Declared, is_internal, says, declared_pin, declared_in, declared_state}
use Rattle.cell_attributes.specs.Groups.{is_pin, is_state, is_bank}
use Rattle.cell_attributes.specs.States.{states_in}
use Rattle.cell_attributes.specs.Vocabulary.{internal_class}
use Rattle.cell_attributes.specs.Pins.{direction_as, direction_of, pin_as, pins_in, owner_as, owners_in}
use Rattle.cell_attributes.specs.Scans.{place_or, place_unless, is_output_group, is_missing, direction_in, three_state_in}
use Rattle.cell_attributes.specs.Scans.{bank_in, left_out_in as statements_left_out, no_function_in}
use Rattle.cell_attributes.specs.Outputs.{node_as, output_with, pin_text_as, pin_text}
use Rattle.cell_attributes.specs.Building.{output_pin, output_in}
use Rattle.cell_attributes.specs.Limits.{wide_text, wide_output}
use Rattle.core_groups.specs.Outputs.{is_three_state}
use Rattle.core_groups.specs.DriverGroups.{driver_item, driver_pin}
use Rattle.three_state_cells.specs.Refusals.{wrong_delays}

abbrev shape : Group → Value → Group-F Item Group
shape group value = record { name = codes "pin"; arguments = value ∷ []; items = group.items; at = group.at }

abbrev pub single : Group → Value → Group
single group value = roll-Group (record { name = codes "pin"; arguments = value ∷ []; items = group.items; at = group.at })

-- What is read of a pin's timing hangs on its statements alone.
abbrev attribute_in : List Item → List ℕ → Option Attribute
attribute_in items name = last_or None (attributes_named name items)

abbrev pub timings_in : List Item → List Group
timings_in items = groups_named (codes "timing") items

abbrev limit_in : Subject → List Item → List ℕ → Option Attribute
limit_in s items name = if is_input_pin s.pins s.place then attribute_in items name else None

abbrev pub numbers_in : Subject → List Item → List ℕ
numbers_in s items =
    flat_map (timing.bad_numbers_in s) (timings_in items)
    ++ (timing.bad_attribute s (limit_in s items (codes "min_pulse_width_high"))
    ++ (timing.bad_attribute s (limit_in s items (codes "min_pulse_width_low"))
    ++ timing.bad_attribute s (limit_in s items (codes "min_period"))))

abbrev check_at_in : Subject → List Item → List ℕ
check_at_in s items =
    flat_map (λ (group : Group). timing.at_each group.at (checks_in s group)) (timings_in items)
    ++ (timing.attribute_check_at s kind.Width Rise Fall (limit_in s items (codes "min_pulse_width_high"))
    ++ (timing.attribute_check_at s kind.Width Fall Rise (limit_in s items (codes "min_pulse_width_low"))
    ++ timing.attribute_check_at s kind.Period Any Any (limit_in s items (codes "min_period"))))

abbrev timing_in : Subject → List Item → PinTiming
timing_in s items = record {
  checks =
      flat_map (checks_in s) (timings_in items)
      ++ (timing.attribute_checks s kind.Width Rise Fall (limit_in s items (codes "min_pulse_width_high"))
      ++ (timing.attribute_checks s kind.Width Fall Rise (limit_in s items (codes "min_pulse_width_low"))
      ++ timing.attribute_checks s kind.Period Any Any (limit_in s items (codes "min_period"))));
  arcs = merged (flat_map (timing.placed_arcs_in s) (timings_in items));
  left_out = timing.left_out_from s 0 items;
  check_at = check_at_in s items;
  arc_at = merged_at (flat_map (timing.placed_arcs_in s) (timings_in items));
  wide = least (flat_map (timing.wide_in s) (timings_in items));
}

abbrev pub answer_in : Subject → List Item → Answer
answer_in s items =
    timing.unless_at fault.Malformed (least (flat_map (timing.malformed_in s) (timings_in items)))
    (timing.unless_at fault.UnknownName (least (flat_map (timing.unknown_in s) (timings_in items)))
    (timing.unless_at fault.OwnCondition (least (flat_map (timing.own_in s) (timings_in items)))
    (timing.unless_at fault.Number (least (numbers_in s items)) (Ok (timing_in s items)))))

abbrev pub wrong_in : Subject → List Item → Option Refusal
wrong_in s items =
    first_refusal
    (met reason.UnknownName (flat_map (timing.unknown_in s) (timings_in items)) ∷ met reason.Number (numbers_in s items) ∷ [])

abbrev driver_shape : Group → Group-F Item Group
driver_shape group = record {
  name = group.name;
  arguments = group.arguments;
  items = map driver_item (timings_in group.items);
  at = group.at;
}

pub driver_items : (group : Group) → (driver_pin group).items ≡ map driver_item (timings_in group.items)
unfolding driver_pin
driver_items group = ap (λ (one : Group-F Item Group). one.items) (out-roll-Group (driver_shape group))

module _ (group : Group) (value : Value) where
  pub same_items : (single group value).items ≡ group.items
  same_items = ap (λ (one : Group-F Item Group). one.items) (out-roll-Group (shape group value))

  pub same_at : (single group value).at ≡ group.at
  same_at = ap (λ (one : Group-F Item Group). one.at) (out-roll-Group (shape group value))

  pub its_name : (single group value).arguments ≡ value ∷ []
  its_name = ap (λ (one : Group-F Item Group). one.arguments) (out-roll-Group (shape group value))

  pub is_called_pin : bytes_eq (single group value).name (codes "pin") ≡ true
  is_called_pin = ap (λ (one : Group-F Item Group). bytes_eq one.name (codes "pin")) (out-roll-Group (shape group value))

  pub is_one_pin : is_pin (single group value) ≡ true
  is_one_pin = ap (λ (one : Group-F Item Group). bytes_eq one.name (codes "pin") && not (length one.arguments == 0))
      (out-roll-Group (shape group value))

  pub is_no_state : is_state (single group value) ≡ false
  is_no_state =
      ap (λ (one : Group-F Item Group). bytes_eq one.name (codes "ff")
      || (bytes_eq one.name (codes "latch") || bytes_eq one.name (codes "statetable")))
      (out-roll-Group (shape group value))

  is_no_bank : is_bank (single group value) ≡ false
  is_no_bank =
      ap
      (λ (one : Group-F Item Group). bytes_eq one.name (codes "bus")
      || (bytes_eq one.name (codes "bundle") || (bytes_eq one.name (codes "ff_bank") || bytes_eq one.name (codes "latch_bank"))))
      (out-roll-Group (shape group value))

  pub no_bank_in : bank_in (single group value) ≡ []
  unfolding bank_in
  no_bank_in = ap (λ b. if b then (single group value).at ∷ [] else []) is_no_bank

  -- its attributes, its direction and its text
  pub same_attribute : (name : List ℕ) → attribute_of (single group value) name ≡ attribute_of group name
  same_attribute name = ap (λ items. attribute_in items name) same_items

  pub same_direction : direction_of (single group value) ≡ direction_of group
  same_direction = ap direction_as (same_attribute (codes "direction"))

  text_by : (v : Vocabulary) (o : Option Direction) → pin_text_as v (single group value) o ≡ pin_text_as v group o
  text_by v None = refl
  text_by v (Some direction.Input) = refl
  text_by v (Some direction.Output) =
      ap (λ items. output_with v (attribute_in items (codes "state_function")) (attribute_in items (codes "internal_node"))
      (attribute_in items (codes "function")))
      same_items
  text_by v (Some direction.Internal) = ap (node_as v) (same_attribute (codes "internal_node"))

  pub same_text : (v : Vocabulary) → pin_text v (single group value) ≡ pin_text v group
  same_text v = ap (pin_text_as v (single group value)) same_direction ∙ text_by v (direction_of group)

  -- its pin, its owner, its entry and what it declares
  same_pin : pin_as (single group value) value ≡ pin_as group value
  same_pin = ap (λ o. record { name = value.bytes; direction = unwrap_or o direction.Input }) same_direction

  pub its_pin : pins_in (single group value) ≡ pin_as group value ∷ []
  its_pin = ap (map (pin_as (single group value))) its_name ∙ ap (λ (pin : Pin). pin ∷ []) same_pin

  pub its_owner : owners_in (single group value) ≡ single group value ∷ []
  its_owner = ap (map (owner_as (single group value))) its_name

  class_by : (states : List StateName) (o : Option Direction)
      → class_as states (single group value) value.bytes o ≡ class_as states group value.bytes o
  class_by states None = refl
  class_by states (Some direction.Input) = refl
  class_by states (Some direction.Output) = refl
  class_by states (Some direction.Internal) = ap (internal_class states value.bytes) (same_attribute (codes "internal_node"))

  same_class : (states : List StateName)
      → class_as states (single group value) value.bytes (direction_of (single group value)) ≡ class_as states group value.bytes
      (direction_of group)
  same_class states = ap (class_as states (single group value) value.bytes) same_direction ∙ class_by states (direction_of group)

  entry_by : (class : Class) → entry_with (single group value) value.bytes class ≡ entry_with group value.bytes class
  entry_by class =
      ap
      (λ o. record {
        name = value.bytes;
        class = class;
        target =
            (if is_bound class then option_map_or (λ (a : Attribute). a.text) o value.bytes else value.bytes);
      })
      (same_attribute (codes "internal_node"))

  pub its_entry : (states : List StateName) → pin_entries states (single group value) ≡ pin_entry states group value ∷ []
  its_entry states =
      ap (map (pin_entry states (single group value))) its_name
      ∙ ap (λ (entry : Entry). entry ∷ [])
      (ap (entry_with (single group value) value.bytes) (same_class states)
      ∙ entry_by (class_as states group value.bytes (direction_of group)))

  same_declared : declared_pin (single group value) value ≡ declared_pin group value
  same_declared =
      ap
      (λ items. record {
        name = value.bytes;
        role = (if is_internal (direction_as (attribute_in items (codes "direction")))
            && says value.bytes (attribute_in items (codes "internal_node")) then Bearer else Plain);
        at = (single group value).at;
      })
      same_items
      ∙ ap
      (λ at. record {
        name = value.bytes;
        role = (if is_internal (direction_of group) && says value.bytes (attribute_of group (codes "internal_node")) then Bearer
            else Plain);
        at = at;
      })
      same_at

  pub its_declared : declared_in (single group value) ≡ declared_pin group value ∷ []
  its_declared =
      ap
      (λ b. if b then map (declared_pin (single group value)) (single group value).arguments
      else (if is_state (single group value)
      then flat_map (declared_state (single group value).at) (states_in (single group value)) else []))
      is_one_pin
      ∙ (ap (map (declared_pin (single group value))) its_name ∙ ap (λ (declared : Declared). declared ∷ []) same_declared)

  -- the offsets of what is wrong with it
  pub same_directions : direction_in (single group value) ≡ direction_in group
  unfolding direction_in
  same_directions =
      ap (λ at. place_unless (place_or at (attribute_of (single group value) (codes "direction")))
      (direction_of (single group value))) same_at
      ∙ ap (λ o. place_unless (place_or group.at o) (direction_as o)) (same_attribute (codes "direction"))

  pub same_three_states : three_state_in (single group value) ≡ three_state_in group
  unfolding three_state_in
  same_three_states = ap (λ items. map (λ (a : Attribute). a.at) (attributes_named (codes "three_state") items)) same_items

  pub same_left_out : statements_left_out (single group value) ≡ statements_left_out group
  unfolding statements_left_out
  same_left_out =
      ap (λ items. map (λ (a : Attribute). a.at) (attributes_named (codes "clocked_on_also") items)
      ++ (map (λ (a : Attribute). a.at) (attributes_named (codes "enable_also") items)
      ++ map (λ (a : Attribute). a.at) (attributes_named (codes "input_map") items)))
      same_items

  pub same_no_function : no_function_in (single group value) ≡ no_function_in group
  unfolding no_function_in
  same_no_function =
      ap (λ at. if is_output_group (direction_of (single group value))
      && (is_missing (codes "function") (single group value)
      && (is_missing (codes "state_function") (single group value) && is_missing (codes "internal_node") (single group value)))
      then at ∷ [] else [])
      same_at
      ∙ ap (λ items. if is_output_group (direction_as (attribute_in items (codes "direction")))
      && (is_none (attribute_in items (codes "function"))
      && (is_none (attribute_in items (codes "state_function")) && is_none (attribute_in items (codes "internal_node"))))
      then group.at ∷ [] else [])
      same_items

  pub same_wide_output : (v : Vocabulary) (pins : ℕ) (states : List StateGroup) (to : List ℕ)
      → wide_output v pins states to (single group value) ≡ wide_output v pins states to group
  unfolding wide_output
  same_wide_output v pins states to =
      ap (λ o. if is_output_group o then wide_text pins states to (pin_text v (single group value)) else []) same_direction
      ∙ ap (λ t. if is_output_group (direction_of group) then wide_text pins states to t else []) (same_text v)

  -- its outputs
  pub same_output : (v : Vocabulary) (pins : ℕ) (states : List StateGroup) (to : List ℕ) (pin : ℕ)
      → output_in v pins states to pin (single group value) ≡ output_in v pins states to pin group
  same_output v pins states to pin =
      ap (λ o. if is_output_group o then output_pin pins states to pin (pin_text v (single group value)) ∷ [] else [])
      same_direction
      ∙ ap (λ t. if is_output_group (direction_of group) then output_pin pins states to pin t ∷ [] else []) (same_text v)

  pub same_floating : is_pin group ≡ true → is_three_state (single group value) ≡ is_three_state group
  unfolding is_three_state
  same_floating e =
      ap (λ b. b && (is_output_group (direction_of (single group value))
      && is_some (attribute_of (single group value) (codes "three_state")))) (is_one_pin ∙ sym e)
      ∙ ap (λ items. is_pin group && (is_output_group (direction_as (attribute_in items (codes "direction")))
      && is_some (attribute_in items (codes "three_state")))) same_items

  -- its timing
  module _ (s : Subject) where
    pub same_malformed : timing.malformed_at s (single group value) ≡ timing.malformed_at s group
    same_malformed = ap (λ items. flat_map (timing.malformed_in s) (timings_in items)) same_items

    pub same_unknown : timing.unknown_names_at s (single group value) ≡ timing.unknown_names_at s group
    same_unknown = ap (λ items. flat_map (timing.unknown_in s) (timings_in items)) same_items

    pub same_own : written.own_conditions_of s (single group value) ≡ written.own_conditions_of s group
    same_own = ap (λ items. flat_map (written.own_in s) (timings_in items)) same_items

    pub same_wide : written.wide_conditions_of s (single group value) ≡ written.wide_conditions_of s group
    same_wide = ap (λ items. flat_map (written.wide_in s) (timings_in items)) same_items

    pub same_numbers : timing.numbers_at s (single group value) ≡ timing.numbers_at s group
    same_numbers = ap (numbers_in s) same_items

    pub same_check_at : timing.check_at_of s (single group value) ≡ timing.check_at_of s group
    same_check_at = ap (check_at_in s) same_items

    pub same_arc_at : arc_at_of s (single group value) ≡ arc_at_of s group
    same_arc_at = ap (λ items. merged_at (flat_map (timing.placed_arcs_in s) (timings_in items))) same_items

    pub same_answer : timing.reading_answer s (single group value) ≡ timing.reading_answer s group
    same_answer = ap (answer_in s) same_items

  pub same_left_out_timing : (pin : ℕ) (answer : Answer)
      → left_out_in pin (single group value) answer ≡ left_out_in pin group answer
  same_left_out_timing pin (Ok timing) =
      ap (λ items. map (λ place. record { pin = pin; kind = type_at items place }) timing.left_out) same_items
  same_left_out_timing pin (Err e) = refl

  -- its delays, where it may float
  same_driver_items : (driver_pin (single group value)).items ≡ (driver_pin group).items
  same_driver_items =
      driver_items (single group value)
      ∙ (ap (λ items. map driver_item (timings_in items)) same_items ∙ sym (driver_items group))

  pub same_wrong_delays_of : (s : Subject) → wrong_delays s (single group value) ≡ wrong_delays s group
  same_wrong_delays_of s = ap (wrong_in s) same_driver_items

  pub same_driver_answer : (s : Subject)
      → timing.reading_answer s (driver_pin (single group value)) ≡ timing.reading_answer s (driver_pin group)
  same_driver_answer s = ap (answer_in s) same_driver_items
