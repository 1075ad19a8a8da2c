-- A three-state output without its timing groups stands in the core as it does whole without its timing groups; and the outputs
-- for three-state outputs are as they are without.
use Rattle.std.proofs.Common.{◌≡◌, ℕ, Bool, true, false, not, ◌||◌, List, [], ◌∷◌, ◌++◌, map, codes, Option, Some, None}
use Rattle.std.proofs.Common.{if◌then◌else◌, refl, sym, ap, ◌∙◌}
use Rattle.std.specs.Prelude.{flat_map, bytes_eq, option_map}
use Rattle.std.specs.List.{list_any, cons_option}
use Rattle.std.proofs.lemmas.List.Elements.{filter-append}
use Rattle.std.proofs.lemmas.Slice.Eq.{bytes_eq-Decides}
use Rattle.std.proofs.lemmas.Bool.{not-true as not_true}
use Rattle.liberty_groups.specs.declared.tree.Value.{Value}
use Rattle.liberty_groups.specs.declared.tree.Item.{Item, out-Item}
use Rattle.liberty_groups.specs.declared.tree.Item.TheOpen.{Item-F, Group-F}
use Rattle.liberty_groups.specs.declared.tree.Item.TheOpen as layer
use Rattle.liberty_groups.specs.declared.tree.Item.TheVariants as made
use Rattle.liberty_groups.specs.declared.tree.Item.TheViews.{outs-Simple, out-roll-Group}
use Rattle.liberty_groups.specs.declared.tree.Group.{Group, roll-Group}
use Rattle.liberty_groups.specs.Attributes.{Attribute, simple_named, group_named, attributes_named, groups_named, text_of}
use Rattle.liberty_groups.specs.Attributes.{last_or}
use Rattle.liberty_groups.specs.Attributes.{attribute_of}
use Rattle.cell_machine.specs.CellRules.{is_input_pin}
use Rattle.cell_machine.specs.Delay.{least}
use Rattle.cell_machine.specs.declared.checks.CheckKind.TheVariants as kind
use Rattle.cell_machine.specs.declared.checks.Edge.TheVariants.{Any, Rise, Fall}
use Rattle.timing_arcs.specs.declared.subject.Subject.{Subject}
use Rattle.timing_arcs.specs.Making.{checks_in}
use Rattle.timing_arcs.specs.Merging.{merged_at}
use Rattle.timing_arcs.specs.Timing as timing
use Rattle.cell_reader.specs.PinTimings.{arc_at_of}
use Rattle.core_groups.specs.CoreGroups.{stays_in_core, core_pin, one_value, enable_function, enable_statements}
use Rattle.core_groups.proofs.Statements.{not_false, attributes_kept}
use Rattle.three_state_cells.specs.PinAttributes.{counted_names, refusing_names, statement, statement_of, without_text, untimed}
use Rattle.three_state_cells.specs.Trimmed.{is_timing, is_timed}
use Rattle.three_state_cells.proofs.CorePins.{core_as, enable_as}
use Rattle.three_state_cells.proofs.Cores.{kept}
use Rattle.three_state_cells.proofs.CoreOwners.{stay, enable_group}
use Rattle.three_state_cells.proofs.Untimed.{shape}

-- What is read of statements.
abbrev told_by : (List ℕ → List Attribute) → List Item
told_by named =
    (flat_map (λ (name : List ℕ). statement_of name (last_or None (named name))) counted_names
    ++ flat_map (λ (name : List ℕ). statement_of name
    (option_map without_text (least (map (λ (a : Attribute). a.at) (named name))))) refusing_names)
    ++ statement_of (codes "three_state") (last_or None (named (codes "three_state")))

abbrev none : Option Attribute
none = None

abbrev reading : List Item → List Item
reading items = told_by (λ name. attributes_named name items)

abbrev read_as : Group-F Item Group → Group
read_as one = roll-Group (record { name = one.name; arguments = one.arguments; items = reading one.items; at = one.at })

-- The attributes of statements that stay.
pub gone : (name : List ℕ) → bytes_eq (codes "three_state") name ≡ false → (one : Item-F Item Group) → stays_in_core one ≡ false
    → simple_named name one ≡ None
gone name e (layer.Simple n value at) h =
    let named : n ≡ codes "three_state" =
    (bytes_eq-Decides n (codes "three_state")).0 (not_false (bytes_eq n (codes "three_state")) h) in
    ap (λ m. if bytes_eq m name then Some (record { text = text_of value; at = at }) else None) named
    ∙ ap (λ b. if b then Some (record { text = text_of value; at = at }) else None) e
gone name e (layer.Complex n arguments at) h = refl
gone name e (layer.Inner group) h = refl

stays_unnamed : (y : Item-F Item Group) → stays_in_core y ≡ true → simple_named (codes "three_state") y ≡ None
stays_unnamed (layer.Simple n value at) e =
    ap (λ b. if b then Some (record { text = text_of value; at = at }) else None)
    (not_true (bytes_eq n (codes "three_state")) e)
stays_unnamed (layer.Complex n arguments at) e = refl
stays_unnamed (layer.Inner group) e = refl

none_floats : (items : List Item) → attributes_named (codes "three_state") (stay items) ≡ []
none_floats [] = refl
none_floats (one ∷ items) = by (stays_in_core (out-Item one)) refl (none_floats items)
  where
    by : (b : Bool) → stays_in_core (out-Item one) ≡ b → attributes_named (codes "three_state") (stay items) ≡ []
        → attributes_named (codes "three_state") (if b then one ∷ stay items else stay items) ≡ []
    by true e h = λ i. cons_option (stays_unnamed (out-Item one) e i) (h i)
    by false e h = h

of_name : (name : List ℕ) (items : List Item)
    → attributes_named name (stay items) ≡ (if bytes_eq (codes "three_state") name then [] else attributes_named name items)
of_name name items = by (bytes_eq (codes "three_state") name) refl
  where
    by : (b : Bool) → bytes_eq (codes "three_state") name ≡ b
        → attributes_named name (stay items) ≡ (if b then [] else attributes_named name items)
    by true e =
        ap (λ n. attributes_named n (stay items)) (sym ((bytes_eq-Decides (codes "three_state") name).0 e)) ∙ none_floats items
    by false e = attributes_kept name stays_in_core (gone name e) items

-- The statements that are made stay but for `three_state`.
statement_stays : (name : List ℕ) (o : Option Attribute)
    → stay (statement_of name o) ≡ (if bytes_eq name (codes "three_state") then [] else statement_of name o)
statement_stays name None = by (bytes_eq name (codes "three_state"))
  where
    by : (b : Bool) → stay [] ≡ (if b then [] else statement_of name None)
    by true = refl
    by false = refl
statement_stays name (Some a) =
    ap (λ one. if stays_in_core one then statement name a ∷ [] else [])
    (outs-Simple name (record { bytes = a.text; quoted = true } ∷ []) a.at)
    ∙ by (bytes_eq name (codes "three_state"))
  where
    by : (b : Bool) → (if not b then statement name a ∷ [] else []) ≡ (if b then [] else statement_of name (Some a))
    by true = refl
    by false = refl

statements_stay : (told : List ℕ → Option Attribute) (names : List (List ℕ))
    → stay (flat_map (λ name. statement_of name (told name)) names)
    ≡ flat_map (λ name. if bytes_eq name (codes "three_state") then [] else statement_of name (told name)) names
statements_stay told [] = refl
statements_stay told (name ∷ names) =
    filter-append (λ item. stays_in_core (out-Item item)) (statement_of name (told name))
    (flat_map (λ name. statement_of name (told name)) names)
    ∙ (λ i. statement_stays name (told name) i ++ statements_stay told names i)

reading_stays : (items : List Item) → reading (stay items) ≡ stay (reading items)
reading_stays items =
    let last : List ℕ → Option Attribute = λ name. last_or None (attributes_named name items) in
    let first : List ℕ → Option Attribute =
    λ name. option_map without_text (least (map (λ (a : Attribute). a.at) (attributes_named name items))) in
    let counted : List Item = flat_map (λ name. statement_of name (last name)) counted_names in
    let refusing : List Item = flat_map (λ name. statement_of name (first name)) refusing_names in
    (λ i. told_by (λ name. of_name name items i))
    ∙ sym
    (filter-append (λ item. stays_in_core (out-Item item)) (counted ++ refusing)
    (statement_of (codes "three_state") (last (codes "three_state")))
    ∙ (λ i. (filter-append (λ item. stays_in_core (out-Item item)) counted refusing
    ∙ (λ j. statements_stay last counted_names j ++ statements_stay first refusing_names j)) i
    ++ statement_stays (codes "three_state") (last (codes "three_state")) i))

pub untimed_core : (group : Group) → untimed (core_pin group) ≡ core_pin (untimed group)
untimed_core group =
    ap read_as (out-roll-Group (core_as group))
    ∙ (ap (λ items. roll-Group (record { name = group.name; arguments = group.arguments; items = items; at = group.at }))
    (reading_stays group.items)
    ∙ sym (ap kept (out-roll-Group (shape group))))

-- The outputs for three-state outputs.
module _ (number : ℕ) (floats : Attribute) where
  abbrev enable : Group
  enable = enable_group number floats

  abbrev direction_values : List Value
  direction_values = one_value (codes "output")

  abbrev function_values : List Value
  function_values = one_value (enable_function floats.text)

  abbrev picked : List ℕ → List ℕ → List Value → Option Attribute
  picked name word values = if bytes_eq word name then Some (record { text = text_of values; at = floats.at }) else None

  its_items : enable.items ≡ enable_statements floats
  its_items = ap (λ (one : Group-F Item Group). one.items) (out-roll-Group (enable_as number floats))

  by_layers : {A : Type 0} (f : Item-F Item Group → Item-F Item Group → A)
      → f (out-Item (made.Simple (codes "direction") direction_values floats.at))
      (out-Item (made.Simple (codes "function") function_values floats.at))
      ≡ f (layer.Simple (codes "direction") direction_values floats.at) (layer.Simple (codes "function") function_values floats.at)
  by_layers f = λ i.
      f (outs-Simple (codes "direction") direction_values floats.at i) (outs-Simple (codes "function") function_values floats.at i)

  pub its_attributes : (name : List ℕ) → attributes_named name enable.items
      ≡ cons_option (picked name (codes "direction") direction_values)
      (cons_option (picked name (codes "function") function_values) [])
  its_attributes name =
      ap (attributes_named name) its_items
      ∙ by_layers (λ one other. cons_option (simple_named name one) (cons_option (simple_named name other) []))

  no_timings : timing.timing_groups enable ≡ []
  no_timings =
      ap (groups_named (codes "timing")) its_items
      ∙ by_layers (λ one other. cons_option (group_named (codes "timing") one) (cons_option (group_named (codes "timing") other) []))

  pub enable_untimed : is_timed enable ≡ false
  enable_untimed =
      ap (list_any (λ item. is_timing (out-Item item))) its_items
      ∙ by_layers (λ one other. is_timing one || (is_timing other || false))

  pub untimed_enable : untimed enable ≡ enable
  untimed_enable =
      ap (λ (one : Group-F Item Group). roll-Group (record {
        name = one.name;
        arguments = one.arguments;
        items = reading enable.items;
        at = one.at;
      })) (out-roll-Group (enable_as number floats))
      ∙ ap (λ items. roll-Group (record {
        name = codes "pin";
        arguments = (enable_as number floats).arguments;
        items = items;
        at = floats.at;
      })) (λ i. told_by (λ name. its_attributes name i))

  -- It makes no checks and no arcs.
  no_limit : (s : Subject) (name : List ℕ) → attribute_of enable name ≡ None → timing.limit_attribute s enable name ≡ None
  no_limit s name e = ap (λ o. if is_input_pin s.pins s.place then o else None) e ∙ by (is_input_pin s.pins s.place)
    where
      by : (b : Bool) → (if b then none else none) ≡ none
      by true = refl
      by false = refl

  pub no_checks : (s : Subject) → timing.check_at_of s enable ≡ []
  no_checks s = λ i.
      flat_map (λ (group : Group). timing.at_each group.at (checks_in s group)) (no_timings i)
      ++ (timing.attribute_check_at s kind.Width Rise Fall
      (no_limit s (codes "min_pulse_width_high") (ap (last_or None) (its_attributes (codes "min_pulse_width_high"))) i)
      ++ (timing.attribute_check_at s kind.Width Fall Rise
      (no_limit s (codes "min_pulse_width_low") (ap (last_or None) (its_attributes (codes "min_pulse_width_low"))) i)
      ++ timing.attribute_check_at s kind.Period Any Any
      (no_limit s (codes "min_period") (ap (last_or None) (its_attributes (codes "min_period"))) i)))

  pub no_arcs : (s : Subject) → arc_at_of s enable ≡ []
  no_arcs s = ap (λ groups. merged_at (flat_map (timing.placed_arcs_in s) groups)) no_timings
