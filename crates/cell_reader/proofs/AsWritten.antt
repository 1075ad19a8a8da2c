-- What is told of a text by what is wrong with it first is all that is wrong with it, where it names nothing unknown.
use Rattle.std.proofs.Common.{◌≡◌, ℕ, suc, Bool, true, false, List, [], ◌∷◌, ◌++◌, length, map, refl, sym, ◌∙◌, ap, Option, Some}
use Rattle.std.proofs.Common.{None, Result, Ok, Err, arith}
use Rattle.std.specs.Prelude.{◌&&◌, ◌==◌, nat_lt, flat_map, codes, if◌then◌else◌}
use Rattle.std.specs.Option.{option_map_or}
use Rattle.std.specs.List.{list_any, list_all}
use Rattle.std.proofs.lemmas.Bool.Decides.{nat_tests}
use Rattle.liberty_groups.specs.declared.tree.Group.{Group}
use Rattle.bool_functions.specs.declared.tree.Node.{Node}
use Rattle.bool_functions.specs.declared.faults.FunctionFault.{FunctionFault}
use Rattle.bool_functions.specs.declared.faults.FunctionFault.TheVariants as fault
use Rattle.bool_functions.specs.Support.{support_of}
use Rattle.bool_functions.specs.Tree.{value_of}
use Rattle.bool_functions.specs.FunctionText.{reading_of}
use Rattle.cell_machine.specs.Names.{has}
use Rattle.cell_machine.specs.CellRules.{is_input_pin}
use Rattle.timing_arcs.specs.declared.subject.Subject.{Subject}
use Rattle.timing_arcs.specs.declared.condition.Condition.{Condition}
use Rattle.timing_arcs.specs.declared.condition.Condition.TheVariants.{Always, Never, Where, Unknown}
use Rattle.liberty_groups.specs.Attributes.{Attribute, attribute_of, place_of}
use Rattle.timing_arcs.specs.RelatedPins.{inputs_of, is_read}
use Rattle.timing_arcs.specs.Conditions.{constant_or, condition_as, condition_in, condition_of, has_unknown as has_unknown_name}
use Rattle.timing_arcs.specs.Conditions.{named_pins, names_one, is_wide}
use Rattle.timing_arcs.specs.Timing.{timing_groups, unknown_related_in, unknown_condition_in, unknown_in as unknown_timing_in}
use Rattle.timing_arcs.specs.Timing.{own_in as own_told, wide_in as wide_told, unknown_names_at, own_conditions_at, wide_at}
use Rattle.cell_attributes.specs.declared.texts.Scope.{Scope}
use Rattle.cell_attributes.specs.declared.texts.Scope.TheVariants as scope
use Rattle.cell_attributes.specs.declared.state_readings.StateReading.{StateReading}
use Rattle.cell_attributes.specs.declared.texts.Text.TheVariants as text
use Rattle.cell_attributes.specs.States.{arguments_of, is_table}
use Rattle.cell_attributes.specs.Vocabulary.{Vocabulary}
use Rattle.cell_attributes.specs.Texts.{use_at, is_coupled, has_unknown, has_coupled, judged, text_as, unknown_at, coupled_at}
use Rattle.cell_attributes.specs.Texts.{text_support}
use Rattle.cell_attributes.specs.TextFaults.{unknown_in, coupled_in}
use Rattle.cell_attributes.specs.StateReadings.{data_name, control_name, holds_state, input_words, numbers_of, own_scope}
use Rattle.cell_attributes.specs.StateReadings.{pins_among, reading_of_table, reading_of_texts, state_reading}
use Rattle.cell_attributes.specs.Limits.{no_support_in, wide_support_in}
use Rattle.cell_attributes.proofs.Distinct.{nil_parts}
use Rattle.cell_attributes.proofs.GroupRules.{none_in}
use Rattle.cell_reader.specs.Written.{numbers_read, count_read, own_written, own_in, own_conditions_of, wide_written, wide_in}
use Rattle.cell_reader.specs.Written.{wide_conditions_of, coupled_written, coupled_texts, coupled_of, names_in_text}
use Rattle.cell_reader.specs.Written.{names_in_texts, written_support, no_support_of, wide_support_of}

-- Conditions.

never_zero : (n : ℕ) → (suc n == 0) ≡ false
never_zero n = grind (arith, nat_tests)

named_by : (f : Node) (value : Bool) (xs : List ℕ) → support_of f ≡ xs
    → named_pins (if length xs == 0 then (if value then Always else Never) else Where f) ≡ xs
named_by f true [] e = refl
named_by f false [] e = refl
named_by f value (x ∷ xs) e =
    ap (λ b. named_pins (if b then (if value then Always else Never) else Where f)) (never_zero (length xs)) ∙ e

named_of_tree :
    (f : Node) (at : ℕ) (known : Bool)
    → (if has_unknown_name (if known then constant_or f else Unknown) then at ∷ [] else []) ≡ []
    → named_pins (if known then constant_or f else Unknown) ≡ support_of f
named_of_tree f at true h = named_by f (value_of [] f) (support_of f) refl
named_of_tree f at false h = absurd cc

own_read :
    (subject : Subject) (pins : List ℕ) (read : Bool) (bytes : List ℕ) (at : ℕ) (r : Result Node FunctionFault)
    → (if read && has_unknown_name (condition_as subject r) then at ∷ [] else []) ≡ []
    → (if read && names_one pins (condition_as subject r) then at ∷ [] else [])
    ≡ (if read && list_any (has pins) (numbers_read subject.names bytes r) then at ∷ [] else [])
own_read subject pins false bytes at r h = refl
own_read subject pins true bytes at (Ok f) h =
    ap (λ (xs : List ℕ). if list_any (has pins) xs then at ∷ [] else [])
    (named_of_tree f at (list_all (is_input_pin subject.pins) (support_of f)) h)
own_read subject pins true bytes at (Err (fault.UnknownName n)) h = absurd cc
own_read subject pins true bytes at (Err _) h = refl

wide_read :
    (subject : Subject) (read : Bool) (bytes : List ℕ) (at : ℕ) (r : Result Node FunctionFault)
    → (if read && has_unknown_name (condition_as subject r) then at ∷ [] else []) ≡ []
    → (if read && is_wide (condition_as subject r) then at ∷ [] else []) ≡ (if read && nat_lt 10 (count_read bytes r) then at ∷ []
    else [])
wide_read subject false bytes at r h = refl
wide_read subject true bytes at (Ok f) h =
    ap (λ (xs : List ℕ). if nat_lt 10 (length xs) then at ∷ [] else [])
    (named_of_tree f at (list_all (is_input_pin subject.pins) (support_of f)) h)
wide_read subject true bytes at (Err (fault.UnknownName n)) h = absurd cc
wide_read subject true bytes at (Err _) h = refl

nothing_there : (b c : Bool) → (if b && c then place_of None else []) ≡ []
nothing_there true true = refl
nothing_there true false = refl
nothing_there false c = refl

-- A group whose condition names nothing unknown.

told_written :
    (subject : Subject) (group : Group) (told : Condition → Bool) (written : Option Attribute → List ℕ) → written None ≡ []
    → ((a : Attribute) → (if is_read subject group && has_unknown_name (condition_in subject a.text) then a.at ∷ [] else []) ≡ []
    → (if is_read subject group && told (condition_in subject a.text) then a.at ∷ [] else []) ≡ written (Some a))
    → unknown_timing_in subject group ≡ []
    → (if is_read subject group && told (condition_of subject group) then place_of (attribute_of group (codes "when")) else [])
    ≡ written (attribute_of group (codes "when"))
unfolding condition_of
told_written subject group told written none some h =
    let k = (nil_parts (unknown_related_in subject group) (unknown_condition_in subject group) h).1 in
    by_attribute (attribute_of group (codes "when")) k where
      by_attribute :
          (o : Option Attribute)
          → (if is_read subject group && has_unknown_name
          (option_map_or (λ (a : Attribute). condition_in subject a.text) o Always) then place_of o else []) ≡ []
          → (if is_read subject group && told (option_map_or (λ (a : Attribute). condition_in subject a.text) o Always)
          then place_of o else []) ≡ written o
      by_attribute None k = nothing_there (is_read subject group) (told Always) ∙ sym none
      by_attribute (Some a) k = some a k

own_same : (subject : Subject) (group : Group) → unknown_timing_in subject group ≡ []
    → own_told subject group ≡ own_in subject group
unfolding condition_in
own_same subject group =
    told_written subject group (names_one (subject.place ∷ inputs_of subject group)) (own_written subject group) refl
    (λ a. own_read subject (subject.place ∷ inputs_of subject group) (is_read subject group) a.text a.at
    (reading_of subject.names a.text))

wide_same : (subject : Subject) (group : Group) → unknown_timing_in subject group ≡ []
    → wide_told subject group ≡ wide_in subject group
unfolding condition_in
wide_same subject group =
    told_written subject group is_wide (wide_written subject group) refl
    (λ a. wide_read subject (is_read subject group) a.text a.at (reading_of subject.names a.text))

-- All groups of some.
same_groups :
    (unknown told all : Group → List ℕ) → ((group : Group) → unknown group ≡ [] → told group ≡ all group)
    → (groups : List Group) → flat_map unknown groups ≡ [] → flat_map told groups ≡ flat_map all groups
same_groups unknown told all same [] h = refl
same_groups unknown told all same (group ∷ groups) h =
    let parts = nil_parts (unknown group) (flat_map unknown groups) h in
    ap (λ xs. xs ++ flat_map told groups) (same group parts.0)
    ∙ ap (λ xs. all group ++ xs) (same_groups unknown told all same groups parts.1)

pub own_conditions_same : (subject : Subject) (pin : Group) → unknown_names_at subject pin ≡ []
    → own_conditions_at subject pin ≡ own_conditions_of subject pin
own_conditions_same subject pin h =
    same_groups (unknown_timing_in subject) (own_told subject) (own_in subject) (own_same subject) (timing_groups pin) h

pub wide_conditions_same : (subject : Subject) (pin : Group) → unknown_names_at subject pin ≡ []
    → wide_at subject pin ≡ wide_conditions_of subject pin
wide_conditions_same subject pin h =
    same_groups (unknown_timing_in subject) (wide_told subject) (wide_in subject) (wide_same subject) (timing_groups pin) h

-- Texts of state groups.

coupled_by :
    (at : ℕ) (f : Node) (unknown coupled : Bool)
    → unknown_at (if unknown then text.Unknown at else (if coupled then text.Coupled at else text.Reads f at)) ≡ []
    → coupled_at (if unknown then text.Unknown at else (if coupled then text.Coupled at else text.Reads f at)) ≡ (if coupled
    then at ∷ [] else [])
coupled_by at f true coupled h = absurd cc
coupled_by at f false true h = refl
coupled_by at f false false h = refl

coupled_read :
    (v : Vocabulary) (s : Scope) (bytes : List ℕ) (at : ℕ) (r : Result Node FunctionFault)
    → unknown_at (judged v.classes s at r) ≡ []
    → coupled_at (judged v.classes s at r)
    ≡ (if list_any (λ i. is_coupled (use_at v.classes s i)) (numbers_read v.names bytes r) then at ∷ [] else [])
coupled_read v s bytes at (Ok f) h = coupled_by at f (has_unknown v.classes s f) (has_coupled v.classes s f) h
coupled_read v s bytes at (Err (fault.UnknownName n)) h = absurd cc
coupled_read v s bytes at (Err _) h = refl

coupled_text : (v : Vocabulary) (s : Scope) (o : Option Attribute) → unknown_at (text_as v s o) ≡ []
    → coupled_at (text_as v s o) ≡ coupled_written v s o
coupled_text v s None h = refl
coupled_text v s (Some a) h = coupled_read v s a.text a.at (reading_of v.names a.text) h

names_by :
    (at : ℕ) (f : Node) (unknown coupled : Bool)
    → unknown_at (if unknown then text.Unknown at else (if coupled then text.Coupled at else text.Reads f at)) ≡ []
    → coupled_at (if unknown then text.Unknown at else (if coupled then text.Coupled at else text.Reads f at)) ≡ []
    → text_support (if unknown then text.Unknown at else (if coupled then text.Coupled at else text.Reads f at)) ≡ support_of f
names_by at f true coupled h k = absurd cc
names_by at f false true h k = absurd cc
names_by at f false false h k = refl

names_read :
    (v : Vocabulary) (s : Scope) (bytes : List ℕ) (at : ℕ) (r : Result Node FunctionFault)
    → unknown_at (judged v.classes s at r) ≡ [] → coupled_at (judged v.classes s at r) ≡ []
    → text_support (judged v.classes s at r) ≡ numbers_read v.names bytes r
names_read v s bytes at (Ok f) h k = names_by at f (has_unknown v.classes s f) (has_coupled v.classes s f) h k
names_read v s bytes at (Err (fault.UnknownName n)) h k = absurd cc
names_read v s bytes at (Err _) h k = refl

names_text : (v : Vocabulary) (s : Scope) (o : Option Attribute) → unknown_at (text_as v s o) ≡ []
    → coupled_at (text_as v s o) ≡ [] → text_support (text_as v s o) ≡ names_in_text v o
names_text v s None h k = refl
names_text v s (Some a) h k = names_read v s a.text a.at (reading_of v.names a.text) h k

-- State groups.

joined_four : {A : Type 0} (a b c d w x y z : List A) → a ≡ w → b ≡ x → c ≡ y → d ≡ z
    → a ++ (b ++ (c ++ d)) ≡ w ++ (x ++ (y ++ z))
joined_four a b c d w x y z p q r s =
    ap (λ xs. xs ++ (b ++ (c ++ d))) p ∙ ap (λ xs. w ++ (xs ++ (c ++ d))) q ∙ ap (λ xs. w ++ (x ++ (xs ++ d))) r
    ∙ ap (λ xs. w ++ (x ++ (y ++ xs))) s

coupled_in_texts :
    (v : Vocabulary) (pins : ℕ) (group : Group) → unknown_in (reading_of_texts v pins group) ≡ []
    → coupled_in (reading_of_texts v pins group) ≡ coupled_texts v group
unfolding unknown_in coupled_in
coupled_in_texts v pins group h =
    let u = none_in None unknown_at (reading_of_texts v pins group) h in
    joined_four _ _ _ _ _ _ _ _
    (coupled_text v (own_scope v (arguments_of group)) (attribute_of group (data_name group)) u.one)
    (coupled_text v scope.Control (attribute_of group (control_name group)) u.two)
    (coupled_text v scope.Control (attribute_of group (codes "clear")) u.three)
    (coupled_text v scope.Control (attribute_of group (codes "preset")) u.four)

support_in_texts :
    (v : Vocabulary) (pins : ℕ) (group : Group) → unknown_in (reading_of_texts v pins group) ≡ []
    → coupled_in (reading_of_texts v pins group) ≡ []
    → (reading_of_texts v pins group).support ≡ pins_among pins (names_in_texts v group)
unfolding unknown_in coupled_in
support_in_texts v pins group h k =
    let u = none_in None unknown_at (reading_of_texts v pins group) h in
    let w = none_in None coupled_at (reading_of_texts v pins group) k in
    ap (pins_among pins)
    (joined_four _ _ _ _ _ _ _ _
    (names_text v (own_scope v (arguments_of group)) (attribute_of group (data_name group)) u.one w.one)
    (names_text v scope.Control (attribute_of group (control_name group)) u.two w.two)
    (names_text v scope.Control (attribute_of group (codes "clear")) u.three w.three)
    (names_text v scope.Control (attribute_of group (codes "preset")) u.four w.four))

pub coupled_same :
    (v : Vocabulary) (pins : ℕ) (group : Group) → unknown_in (state_reading v pins group) ≡ []
    → coupled_in (state_reading v pins group) ≡ coupled_of v pins group
coupled_same v pins group = by_table (is_table group) where
  by_table :
      (table : Bool) → unknown_in (if table then reading_of_table v pins group else reading_of_texts v pins group) ≡ []
      → coupled_in (if table then reading_of_table v pins group else reading_of_texts v pins group)
      ≡ (if table then coupled_in (reading_of_table v pins group) else coupled_texts v group)
  by_table true h = refl
  by_table false h = coupled_in_texts v pins group h

-- what is told of a group that holds a state and whose support passes this test
abbrev told_of : (ℕ → Bool) → Bool → ℕ → List ℕ → List ℕ
told_of wrong holds at support = if holds && wrong (length support) then at ∷ [] else []

support_same :
    (wrong : ℕ → Bool) (v : Vocabulary) (pins : ℕ) (group : Group)
    → unknown_in (state_reading v pins group) ≡ [] → coupled_in (state_reading v pins group) ≡ []
    → told_of wrong (state_reading v pins group).holds (state_reading v pins group).at (state_reading v pins group).support
    ≡ told_of wrong (holds_state group) group.at (written_support v pins group)
support_same wrong v pins group = by_table (is_table group) where
  by_table :
      (table : Bool) → unknown_in (if table then reading_of_table v pins group else reading_of_texts v pins group) ≡ []
      → coupled_in (if table then reading_of_table v pins group else reading_of_texts v pins group) ≡ []
      → told_of wrong (if table then reading_of_table v pins group else reading_of_texts v pins group).holds
      (if table then reading_of_table v pins group else reading_of_texts v pins group).at
      (if table then reading_of_table v pins group else reading_of_texts v pins group).support
      ≡ told_of wrong (holds_state group) group.at
      (if table then pins_among pins (numbers_of v (input_words (arguments_of group)))
      else pins_among pins (names_in_texts v group))
  by_table true h k = refl
  by_table false h k = ap (told_of wrong (holds_state group) group.at) (support_in_texts v pins group h k)

pub no_support_same :
    (v : Vocabulary) (pins : ℕ) (group : Group) → unknown_in (state_reading v pins group) ≡ []
    → coupled_in (state_reading v pins group) ≡ []
    → no_support_in (state_reading v pins group) ≡ no_support_of v pins group
unfolding no_support_in
no_support_same v pins group h k = support_same (λ n. n == 0) v pins group h k

pub wide_support_same :
    (v : Vocabulary) (pins : ℕ) (group : Group) → unknown_in (state_reading v pins group) ≡ []
    → coupled_in (state_reading v pins group) ≡ []
    → wide_support_in (state_reading v pins group) ≡ wide_support_of v pins group
unfolding wide_support_in
wide_support_same v pins group h k = support_same (λ n. nat_lt 8 n) v pins group h k

-- All state groups of some.

pub all_coupled_same :
    (v : Vocabulary) (pins : ℕ) (groups : List Group) → flat_map unknown_in (map (state_reading v pins) groups) ≡ []
    → flat_map coupled_in (map (state_reading v pins) groups) ≡ flat_map (coupled_of v pins) groups
all_coupled_same v pins [] h = refl
all_coupled_same v pins (group ∷ groups) h =
    let r = state_reading v pins group in
    let parts = nil_parts (unknown_in r) (flat_map unknown_in (map (state_reading v pins) groups)) h in
    ap (λ xs. xs ++ flat_map coupled_in (map (state_reading v pins) groups)) (coupled_same v pins group parts.0)
    ∙ ap (λ xs. coupled_of v pins group ++ xs) (all_coupled_same v pins groups parts.1)

-- of groups that name nothing unknown or coupled it is told what is written
abbrev pub IsAsWritten : (StateReading → List ℕ) → (Vocabulary → ℕ → Group → List ℕ) → Type 0
IsAsWritten told written =
    (v : Vocabulary) (pins : ℕ) (groups : List Group) → flat_map unknown_in (map (state_reading v pins) groups) ≡ []
    → flat_map coupled_in (map (state_reading v pins) groups) ≡ []
    → flat_map told (map (state_reading v pins) groups) ≡ flat_map (written v pins) groups

-- what each group tells that names nothing unknown or coupled is told of all
all_same :
    (told : StateReading → List ℕ) (written : Vocabulary → ℕ → Group → List ℕ)
    → ((v : Vocabulary) (pins : ℕ) (group : Group) → unknown_in (state_reading v pins group) ≡ []
    → coupled_in (state_reading v pins group) ≡ []
    → told (state_reading v pins group) ≡ written v pins group)
    → IsAsWritten told written
all_same told written same v pins [] h k = refl
all_same told written same v pins (group ∷ groups) h k =
    let r = state_reading v pins group in
    let first = nil_parts (unknown_in r) (flat_map unknown_in (map (state_reading v pins) groups)) h in
    let second = nil_parts (coupled_in r) (flat_map coupled_in (map (state_reading v pins) groups)) k in
    ap (λ xs. xs ++ flat_map told (map (state_reading v pins) groups)) (same v pins group first.0 second.0)
    ∙ ap (λ xs. written v pins group ++ xs) (all_same told written same v pins groups first.1 second.1)

pub all_no_support_same : IsAsWritten no_support_in no_support_of
all_no_support_same = all_same no_support_in no_support_of no_support_same

pub all_wide_support_same : IsAsWritten wide_support_in wide_support_of
all_wide_support_same = all_same wide_support_in wide_support_of wide_support_same
