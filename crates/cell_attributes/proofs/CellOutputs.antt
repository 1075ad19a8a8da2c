-- The outputs of a cell of which nothing is refused keep the rules of cells.
use Rattle.std.proofs.Common.{◌≡◌, ℕ, ◌+◌, ◌≤◌, Bool, true, false, ◌&&◌, List, [], ◌∷◌, ◌++◌, length, map, refl, sym, ◌∙◌, ap}
use Rattle.std.proofs.Common.{subst, IsTrue, Option, Some, None, Result, Ok, Err, inl, inr, nat_lt, nat_le, slice_index}
use Rattle.std.specs.Prelude.{flat_map, codes, bytes_eq, is_none, unwrap_or, if◌then◌else◌}
use Rattle.std.specs.List.{list_all, list_any}
use Rattle.std.proofs.lemmas.Bool.{cases_Bool, and_from, and_parts, or_from, ltb-false}
use Rattle.std.proofs.lemmas.List.Folds.{flat_map-map}
use Rattle.std.proofs.lemmas.Slice.Eq.{bytes_eq-Decides}
use Rattle.liberty_groups.specs.declared.tree.Value.{Value}
use Rattle.liberty_groups.specs.declared.tree.Group.{Group}
use Rattle.bool_functions.specs.declared.tree.Node.{Node as Tree}
use Rattle.bool_functions.specs.declared.faults.FunctionFault.{FunctionFault}
use Rattle.bool_functions.specs.declared.faults.FunctionFault.TheVariants as fault
use Rattle.bool_functions.specs.Tree.{names_of}
use Rattle.bool_functions.specs.Support.{support_of}
use Rattle.bool_functions.specs.NameList.{number_of}
use Rattle.bool_functions.specs.FunctionText.{reading_of}
use Rattle.cell_machine.specs.declared.groups.StateGroup.{StateGroup}
use Rattle.cell_machine.specs.declared.outputs.OutputPin.{OutputPin}
use Rattle.cell_machine.specs.declared.pins.Direction.{Direction}
use Rattle.cell_machine.specs.declared.pins.Direction.TheVariants as direction
use Rattle.cell_machine.specs.declared.pins.Pin.{Pin}
use Rattle.cell_machine.specs.CellRules.{is_output, output_pins_from, are_groups_from, is_output_of}
use Rattle.liberty_groups.specs.Attributes.{Attribute, attribute_of}
use Rattle.cell_attributes.specs.declared.vocabulary.Class.{Class}
use Rattle.cell_attributes.specs.declared.texts.Scope.{Scope}
use Rattle.cell_attributes.specs.declared.texts.Scope.TheVariants as scope
use Rattle.cell_attributes.specs.declared.texts.Text.{Text}
use Rattle.cell_attributes.specs.declared.texts.Text.TheVariants as text
use Rattle.cell_attributes.specs.declared.state_readings.StateReading.{StateReading}
use Rattle.cell_attributes.specs.Groups.{pin_groups, state_groups}
use Rattle.cell_attributes.specs.Pins.{direction_of, pin_as, pins_in, pins_of, owner_as, owners_in, owners_of}
use Rattle.cell_attributes.specs.States.{StateName, arguments_of, states_in, states_of}
use Rattle.cell_attributes.specs.Scans.{is_output_group, is_missing, no_function_in}
use Rattle.cell_attributes.specs.Vocabulary.{Vocabulary, vocabulary}
use Rattle.cell_attributes.specs.Texts.{is_coupled, class_at, use_at, has_unknown, has_coupled, judged_tree, judged, text_as}
use Rattle.cell_attributes.specs.Texts.{is_node_class, node_at, malformed_at, unknown_at, coupled_at}
use Rattle.cell_attributes.specs.StateReadings.{state_reading}
use Rattle.cell_attributes.specs.Outputs.{output_with, output_text, pin_text_as, pin_text}
use Rattle.cell_attributes.specs.Limits.{wide_text, wide_output}
use Rattle.cell_attributes.specs.Building.{function_of, groups_in, groups_from, sources_of, output_pin, output_in, outputs_from}
use Rattle.cell_attributes.specs.CellLaws.{numbers_of, groups_of, outputs_of, OutputsKeepRules}
use Rattle.cell_attributes.proofs.Distinct.{nil_parts, no_place}
use Rattle.cell_attributes.proofs.Members.{all_map}
use Rattle.cell_attributes.proofs.Numbering.{state_flags, NumberIs, numbers_are}
use Rattle.cell_attributes.proofs.TextNames.{text_names, is_absent, IsSound, names_of_written, absent_text, function_apart}
use Rattle.cell_attributes.proofs.TextNames.{state_function_apart, is_value_number, names_values, function_names_are}
use Rattle.cell_attributes.proofs.TextNames.{state_function_names_are, node_names_are}
use Rattle.cell_attributes.proofs.CellGroups.{pins_distinct, groups_keep_rules}
use Rattle.cell_attributes.proofs.GroupCount.{flags_with}
use Rattle.cell_attributes.proofs.SourceRules.{has_second, group_flags, output_keeps_rules}

-- Second variables of groups and of the states that they are for.

group_flags_append : (xs ys : List StateGroup) → group_flags (xs ++ ys) ≡ group_flags xs ++ group_flags ys
group_flags_append [] ys = refl
group_flags_append (x ∷ xs) ys = ap (λ bs. has_second x.kind ∷ bs) (group_flags_append xs ys)

state_flags_append : (xs ys : List StateName) → state_flags (xs ++ ys) ≡ state_flags xs ++ state_flags ys
state_flags_append [] ys = refl
state_flags_append (x ∷ xs) ys = ap (λ bs. state_flags (x ∷ []) ++ bs) (state_flags_append xs ys)

-- a state group has a second variable where its state has one
same_flags :
    (to : List ℕ) (reading : Group → StateReading) (groups : List Group)
    → group_flags (groups_from to groups (map reading groups)) ≡ state_flags (flat_map states_in groups)
same_flags to reading [] = refl
same_flags to reading (group ∷ groups) =
    group_flags_append (groups_in to group (reading group)) (groups_from to groups (map reading groups))
    ∙ ap (λ bs. bs ++ group_flags (groups_from to groups (map reading groups)))
    (flags_with to group (reading group) (arguments_of group))
    ∙ ap (λ bs. state_flags (states_in group) ++ bs) (same_flags to reading groups)
    ∙ sym (state_flags_append (states_in group) (flat_map states_in groups))

-- Texts of outputs.

never_any : (p : ℕ → Bool) (xs : List ℕ) → ((x : ℕ) → p x ≡ false) → list_any p xs ≡ false
never_any p [] h = refl
never_any p (x ∷ xs) h = or_from (p x) (list_any p xs) (h x) (never_any p xs h)

tree_apart : (classes : List Class) (s : Scope) (at : ℕ) (f : Tree) → has_coupled classes s f ≡ false
    → coupled_at (judged_tree classes s at f) ≡ []
tree_apart classes s at f h =
    elim (cases_Bool (has_unknown classes s f)) [ inl e ↦ rw e refl | inr e ↦ rw (e, h) refl ]

judged_apart :
    (classes : List Class) (s : Scope) (at : ℕ) (r : Result Tree FunctionFault)
    → ((i : ℕ) → is_coupled (use_at classes s i) ≡ false)
    → coupled_at (judged classes s at r) ≡ []
judged_apart classes s at (Ok f) h = tree_apart classes s at f (never_any (λ i. is_coupled (use_at classes s i)) (support_of f) h)
judged_apart classes s at (Err fault.TooLong) h = refl
judged_apart classes s at (Err (fault.Malformed n)) h = refl
judged_apart classes s at (Err (fault.UnknownName n)) h = refl
judged_apart classes s at (Err fault.Memory) h = refl

text_apart :
    (v : Vocabulary) (s : Scope) (attribute : Option Attribute) → ((i : ℕ) → is_coupled (use_at v.classes s i) ≡ false)
    → coupled_at (text_as v s attribute) ≡ []
text_apart v s None h = refl
text_apart v s (Some attribute) h = judged_apart v.classes s attribute.at (reading_of v.names attribute.text) h

node_apart : (classes : List Class) (at : ℕ) (number : Option ℕ) → coupled_at (node_at classes at number) ≡ []
node_apart classes at None = refl
node_apart classes at (Some i) =
    elim (cases_Bool (is_node_class (class_at classes i))) [ inl e ↦ rw e refl | inr e ↦ rw e refl ]

node_is_there : (classes : List Class) (at : ℕ) (number : Option ℕ) → is_absent (node_at classes at number) ≡ false
node_is_there classes at None = refl
node_is_there classes at (Some i) =
    elim (cases_Bool (is_node_class (class_at classes i))) [ inl e ↦ rw e refl | inr e ↦ rw e refl ]

output_apart : (v : Vocabulary) (state internal function : Option Attribute)
    → coupled_at (output_with v state internal function) ≡ []
output_apart v (Some state) internal function =
    text_apart v scope.StateFunction (Some state) (λ i. state_function_apart (class_at v.classes i))
output_apart v None (Some internal) function = node_apart v.classes internal.at (number_of v.names internal.text)
output_apart v None None function = text_apart v scope.Function function (λ i. function_apart (class_at v.classes i))

output_is_there :
    (v : Vocabulary) (state internal function : Option Attribute)
    → is_none function && (is_none state && is_none internal) ≡ false
    → is_absent (output_with v state internal function) ≡ false
output_is_there v (Some state) internal function h = absent_text v scope.StateFunction (Some state)
output_is_there v None (Some internal) function h = node_is_there v.classes internal.at (number_of v.names internal.text)
output_is_there v None None (Some function) h = absent_text v scope.Function (Some function)
output_is_there v None None None h = absurd cc

-- an output of which the lack of a function is not refused has a text
has_text : (v : Vocabulary) (pin : Group) → is_output_group (direction_of pin) ≡ true → no_function_in pin ≡ []
    → is_absent (output_text v pin) ≡ false
unfolding no_function_in
has_text v pin o h =
    let lacks : Bool = is_missing (codes "function") pin
    && (is_missing (codes "state_function") pin && is_missing (codes "internal_node") pin) in
    let e : is_output_group (direction_of pin) && lacks ≡ false = no_place (is_output_group (direction_of pin) && lacks) pin.at h
    in
    let k : lacks ≡ false = sym (ap (λ b. b && lacks) o) ∙ e in
    output_is_there v (attribute_of pin (codes "state_function")) (attribute_of pin (codes "internal_node"))
    (attribute_of pin (codes "function")) k

text_of_output : (v : Vocabulary) (group : Group) (d : Option Direction) → is_output_group d ≡ true
    → pin_text_as v group d ≡ output_text v group
text_of_output v group None h = absurd cc
text_of_output v group (Some direction.Input) h = absurd cc
text_of_output v group (Some direction.Output) h = refl
text_of_output v group (Some direction.Internal) h = absurd cc

-- a written text whose support is not too wide
narrow_text :
    (pins : ℕ) (groups : List StateGroup) (to : List ℕ) (t : Text) → IsSound t → is_absent t ≡ false
    → wide_text pins groups to t ≡ []
    → length (sources_of pins groups (function_of to t)) ≤ 10
narrow_text pins groups to text.Absent s a h = absurd cc
narrow_text pins groups to (text.Reads f at) s a h =
    let e : nat_lt 10 (length (sources_of pins groups (function_of to (text.Reads f at)))) ≡ false =
    no_place (nat_lt 10 (length (sources_of pins groups (function_of to (text.Reads f at))))) at h in
    ltb-false 10 (length (sources_of pins groups (function_of to (text.Reads f at)))) e
narrow_text pins groups to (text.Malformed at) s a h = let k = s.well_formed in absurd cc
narrow_text pins groups to (text.Unknown at) s a h = let k = s.known in absurd cc
narrow_text pins groups to (text.Coupled at) s a h = let k = s.apart in absurd cc

not_wide :
    (v : Vocabulary) (pins : ℕ) (groups : List StateGroup) (to : List ℕ) (owner : Group)
    → is_output_group (direction_of owner) ≡ true
    → wide_output v pins groups to owner ≡ [] → wide_text pins groups to (pin_text v owner) ≡ []
unfolding wide_output
not_wide v pins groups to owner o h = sym (ap (λ b. if b then wide_text pins groups to (pin_text v owner) else []) o) ∙ h

-- Outputs.

module _
    (states : List StateName) (pins : List Pin) (v : Vocabulary) (to : List ℕ) (groups : List StateGroup)
    (numbers : (i : ℕ) → NumberIs states pins v.names i (slice_index to i) (class_at v.classes i))
    (flags : group_flags groups ≡ state_flags states)
    (kept : IsTrue (are_groups_from pins (length pins) groups)) where
  output_names_are : (state internal function : Option Attribute)
      → IsTrue (names_values (state_flags states) pins to (output_with v state internal function))
  output_names_are (Some state) internal function = state_function_names_are states pins v to numbers (Some state)
  output_names_are None (Some internal) function = node_names_are states pins v to numbers internal
  output_names_are None None function = function_names_are states pins v to numbers function

  values_of_text :
      (t : Text) → IsSound t → is_absent t ≡ false → IsTrue (names_values (state_flags states) pins to t)
      → IsTrue (list_all (is_value_number (group_flags groups) pins) (names_of (function_of to t)))
  values_of_text t s a h =
      subst (λ xs. IsTrue (list_all (is_value_number (group_flags groups) pins) xs)) (sym (names_of_written to t s a))
      (subst (λ fs. IsTrue (list_all (is_value_number fs pins) (map (slice_index to) (text_names t)))) (sym flags)
      (all_map (is_value_number (state_flags states) pins) (slice_index to) (text_names t) h))

  output_holds :
      (p : ℕ) (owner : Group) → is_output_group (direction_of owner) ≡ true → malformed_at (pin_text v owner) ≡ []
      → unknown_at (pin_text v owner) ≡ []
      → no_function_in owner ≡ [] → wide_output v (length pins) groups to owner ≡ []
      → IsTrue (is_output_of pins groups (output_pin (length pins) groups to p (pin_text v owner)))
  output_holds p owner o a b c d =
      let same : pin_text v owner ≡ output_text v owner = text_of_output v owner (direction_of owner) o in
      let sound : IsSound (output_text v owner) = record {
        well_formed = subst (λ t. malformed_at t ≡ []) same a;
        known = subst (λ t. unknown_at t ≡ []) same b;
        apart = output_apart v (attribute_of owner (codes "state_function")) (attribute_of owner (codes "internal_node"))
            (attribute_of owner (codes "function"));
      } in
      let there : is_absent (output_text v owner) ≡ false = has_text v owner o c in
      let wide : wide_text (length pins) groups to (output_text v owner) ≡ [] =
      subst (λ t. wide_text (length pins) groups to t ≡ []) same (not_wide v (length pins) groups to owner o d) in
      subst (λ t. IsTrue (is_output_of pins groups (output_pin (length pins) groups to p t))) (sym same)
      (output_keeps_rules pins groups (function_of to (output_text v owner)) p kept
      (values_of_text (output_text v owner) sound there
      (output_names_are (attribute_of owner (codes "state_function")) (attribute_of owner (codes "internal_node"))
      (attribute_of owner (codes "function"))))
      (narrow_text (length pins) groups to (output_text v owner) sound there wide))

  outputs_hold :
      (p : ℕ) (owners : List Group) → flat_map (λ (g : Group). malformed_at (pin_text v g)) owners ≡ []
      → flat_map (λ (g : Group). unknown_at (pin_text v g)) owners ≡ []
      → flat_map no_function_in owners ≡ [] → flat_map (wide_output v (length pins) groups to) owners ≡ []
      → IsTrue (list_all (is_output_of pins groups) (outputs_from v (length pins) groups to p owners))
  outputs_hold p [] a b c d = refl
  outputs_hold p (owner ∷ owners) a b c d =
      let pa = nil_parts (malformed_at (pin_text v owner)) (flat_map (λ (g : Group). malformed_at (pin_text v g)) owners) a in
      let pb = nil_parts (unknown_at (pin_text v owner)) (flat_map (λ (g : Group). unknown_at (pin_text v g)) owners) b in
      let pc = nil_parts (no_function_in owner) (flat_map no_function_in owners) c in
      let pd = nil_parts (wide_output v (length pins) groups to owner) (flat_map (wide_output v (length pins) groups to) owners) d
      in
      let later = outputs_hold (p + 1) owners pa.1 pb.1 pc.1 pd.1 in
      elim (cases_Bool (is_output_group (direction_of owner))) [
        | inl o ↦
            let made : output_in v (length pins) groups to p owner ≡ output_pin (length pins) groups to p
            (pin_text v owner) ∷ [] =
            ap (λ b. if b then output_pin (length pins) groups to p (pin_text v owner) ∷ [] else []) o in
            subst (λ xs. IsTrue (list_all (is_output_of pins groups)
            (xs ++ outputs_from v (length pins) groups to (p + 1) owners))) (sym made)
            (and_from (is_output_of pins groups (output_pin (length pins) groups to p (pin_text v owner))) _
            (output_holds p owner o pa.0 pb.0 pc.0 pd.0) later)
        | inr o ↦
            let made : output_in v (length pins) groups to p owner ≡ [] =
            ap (λ b. if b then output_pin (length pins) groups to p (pin_text v owner) ∷ [] else []) o in
            subst (λ xs. IsTrue (list_all (is_output_of pins groups)
            (xs ++ outputs_from v (length pins) groups to (p + 1) owners))) (sym made) later
      ]

-- Owners of pins.

owners_empty : (h : Group → List ℕ) (group : Group) (values : List Value) (rest : List Group) → h group ≡ []
    → flat_map h rest ≡ [] → flat_map h (map (owner_as group) values ++ rest) ≡ []
owners_empty h group [] rest e k = k
owners_empty h group (value ∷ values) rest e k = ap (λ xs. xs ++ flat_map h (map (owner_as group) values ++ rest)) e
    ∙ owners_empty h group values rest e k

-- what no pin group has, no owner of a pin has
all_owners_empty : (h : Group → List ℕ) (groups : List Group) → flat_map h groups ≡ []
    → flat_map h (flat_map owners_in groups) ≡ []
all_owners_empty h [] k = refl
all_owners_empty h (group ∷ groups) k =
    let parts = nil_parts (h group) (flat_map h groups) k in
    owners_empty h group group.arguments (flat_map owners_in groups) parts.0 (all_owners_empty h groups parts.1)

-- the numbers of outputs
same_output : (d : Option Direction) → is_output (unwrap_or d direction.Input) ≡ is_output_group d
same_output None = refl
same_output (Some direction.Input) = refl
same_output (Some direction.Output) = refl
same_output (Some direction.Internal) = refl

module _ (v : Vocabulary) (pins : ℕ) (groups : List StateGroup) (to : List ℕ) where
  -- one number for each output pin, in order
  numbers_in_group :
      (group : Group) (owners : List Group) (more : List Pin)
      → ((k : ℕ) → map (λ (output : OutputPin). output.pin) (outputs_from v pins groups to k owners) ≡ output_pins_from k more)
      → (values : List Value) (k : ℕ)
      → map (λ (output : OutputPin). output.pin) (outputs_from v pins groups to k (map (owner_as group) values ++ owners))
      ≡ output_pins_from k (map (pin_as group) values ++ more)
  numbers_in_group group owners more later [] k = later k
  numbers_in_group group owners more later (value ∷ values) k =
      let rest = numbers_in_group group owners more later values (k + 1) in
      elim (cases_Bool (is_output_group (direction_of group))) [
        | inl o ↦
            let q : is_output (unwrap_or (direction_of group) direction.Input) ≡ true = same_output (direction_of group) ∙ o in
            rw (o, q) (ap (λ xs. k ∷ xs) rest)
        | inr o ↦
            let q : is_output (unwrap_or (direction_of group) direction.Input) ≡ false = same_output (direction_of group) ∙ o in
            rw (o, q) rest
      ]

  numbers_of_outputs :
      (pin_list : List Group) (k : ℕ)
      → map (λ (output : OutputPin). output.pin) (outputs_from v pins groups to k (flat_map owners_in pin_list))
      ≡ output_pins_from k (flat_map pins_in pin_list)
  numbers_of_outputs [] k = refl
  numbers_of_outputs (group ∷ pin_list) k =
      numbers_in_group group (flat_map owners_in pin_list) (flat_map pins_in pin_list)
      (numbers_of_outputs pin_list) group.arguments k

pub outputs_keep_rules : OutputsKeepRules
outputs_keep_rules cell none =
    let kept = (and_parts (nat_le (length (groups_of cell)) 16)
    (are_groups_from (pins_of cell) (length (pins_of cell)) (groups_of cell)) (groups_keep_rules cell none)).1 in
    let read : flat_map (λ (g : Group). malformed_at (pin_text (vocabulary cell) g)) (pin_groups cell) ≡ [] =
    sym (flat_map-map malformed_at (pin_text (vocabulary cell)) (pin_groups cell)) ∙ none.texts_read in
    let known : flat_map (λ (g : Group). unknown_at (pin_text (vocabulary cell) g)) (pin_groups cell) ≡ [] =
    sym (flat_map-map unknown_at (pin_text (vocabulary cell)) (pin_groups cell)) ∙ none.texts_known in
    let order : map (λ (output : OutputPin). output.pin) (outputs_of cell) ≡ output_pins_from 0 (pins_of cell) =
    numbers_of_outputs (vocabulary cell) (length (pins_of cell)) (groups_of cell) (numbers_of cell) (pin_groups cell) 0 in
    and_from (bytes_eq (map (λ (output : OutputPin). output.pin) (outputs_of cell)) (output_pins_from 0 (pins_of cell)))
    (list_all (is_output_of (pins_of cell) (groups_of cell)) (outputs_of cell))
    ((bytes_eq-Decides (map (λ (output : OutputPin). output.pin) (outputs_of cell)) (output_pins_from 0 (pins_of cell))).1 order)
    (outputs_hold (states_of cell) (pins_of cell) (vocabulary cell) (numbers_of cell) (groups_of cell)
    (numbers_are cell (pins_distinct cell none))
    (same_flags (numbers_of cell) (state_reading (vocabulary cell) (length (pins_of cell))) (state_groups cell))
    kept 0 (owners_of cell)
    (all_owners_empty (λ (g : Group). malformed_at (pin_text (vocabulary cell) g)) (pin_groups cell) read)
    (all_owners_empty (λ (g : Group). unknown_at (pin_text (vocabulary cell) g)) (pin_groups cell) known)
    (all_owners_empty no_function_in (pin_groups cell) none.driven)
    none.narrow_outputs)
