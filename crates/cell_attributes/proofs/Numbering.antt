-- What the names of a cell's vocabulary are, and which numbers they have in the cell.
use Rattle.std.proofs.Common.{◌≡◌, ℕ, zero, suc, ◌+◌, ◌≤◌, Bool, true, false, ◌&&◌, ◌||◌, List, [], ◌∷◌, ◌++◌, length, map}
use Rattle.std.proofs.Common.{get_or, refl, sym, ◌∙◌, ap, subst, arith, IsTrue, Option, Some, None, inl, inr, nat_eq, slice_get}
use Rattle.std.proofs.Common.{slice_index}
use Rattle.std.specs.Prelude.{⊤, flat_map, codes, bytes_eq, is_some, unwrap_or, if◌then◌else◌}
use Rattle.std.specs.Option.{option_map_or}
use Rattle.std.specs.List.{list_any, AllByRecursion}
use Rattle.std.proofs.lemmas.Bool.{cases_Bool, and_from, or_cases, or_left, or_right, eq-eqb}
use Rattle.std.proofs.lemmas.List.Quantifiers.{position-Some}
use Rattle.std.proofs.lemmas.Slice.Eq.{bytes_eq-Decides}
use Rattle.bool_functions.specs.NameList.{number_of}
use Rattle.liberty_groups.specs.declared.tree.Value.{Value}
use Rattle.liberty_groups.specs.declared.tree.Group.{Group}
use Rattle.cell_machine.specs.declared.pins.Direction.{Direction}
use Rattle.cell_machine.specs.declared.pins.Direction.TheVariants as direction
use Rattle.cell_machine.specs.declared.pins.Pin.{Pin}
use Rattle.cell_machine.specs.CellRules.{is_input, is_input_pin, are_distinct}
use Rattle.liberty_groups.specs.Attributes.{Attribute, attribute_of}
use Rattle.cell_attributes.specs.declared.vocabulary.Class.{Class}
use Rattle.cell_attributes.specs.declared.vocabulary.Class.TheVariants.{Input, Driven, Alias, Shared, Node, Variable}
use Rattle.cell_attributes.specs.Groups.{pin_groups}
use Rattle.cell_attributes.specs.Pins.{direction_of, pin_as, pins_in, pins_of, pin_names}
use Rattle.cell_attributes.specs.States.{StateName, states_of}
use Rattle.cell_attributes.specs.Vocabulary.{Entry, is_node_as, is_node_named, is_node, internal_class, class_as, is_bound}
use Rattle.cell_attributes.specs.Vocabulary.{target_as, pin_entry, pin_entries, state_entries_as, state_entries, firsts_after}
use Rattle.cell_attributes.specs.Vocabulary.{vocabulary_of, entry_names, entry_classes, entry_targets, vocabulary}
use Rattle.cell_attributes.specs.Texts.{class_at}
use Rattle.cell_attributes.specs.Building.{is_second_name, number_in, number_as, numbers_from, cell_numbers}
use Rattle.cell_attributes.proofs.FirstNames.{pins_first}

-- Numbers of states.

abbrev pub has_second_name : Option (List ℕ) → Bool
has_second_name None = false
has_second_name (Some second) = true

-- for each state whether it has a second variable
abbrev pub state_flags : List StateName → List Bool
state_flags [] = []
state_flags (state ∷ states) = has_second_name state.second ∷ state_flags states

-- whether a number is that of a state or of a second variable, where the first state has the number m
abbrev pub is_variable : List Bool → ℕ → ℕ → Bool
is_variable [] m n = false
is_variable (b ∷ bs) m n = nat_eq n m || (b && nat_eq n (m + 1) || is_variable bs (m + 2) n)

-- whether a name is that of a state or of a second variable
abbrev pub is_found : List StateName → List ℕ → Bool
is_found [] name = false
is_found (state ∷ states) name = bytes_eq state.first name || (is_second_name name state.second || is_found states name)

second_is_there : (name : List ℕ) (second : Option (List ℕ)) → is_second_name name second ≡ true → has_second_name second ≡ true
second_is_there name None h = absurd cc
second_is_there name (Some second) h = refl

-- the number that is found for a name is that of a state or of a second variable
found_number :
    (states : List StateName) (m i : ℕ) (name : List ℕ) → IsTrue (is_found states name)
    → IsTrue (is_variable (state_flags states) m (unwrap_or (number_in states m name) i))
found_number [] m i name h = absurd cc
found_number (state ∷ states) m i name h =
    elim (cases_Bool (bytes_eq state.first name)) [
      | inl e ↦
          rw e
          (or_left (nat_eq m m) (has_second_name state.second && nat_eq m (m + 1) || is_variable (state_flags states) (m + 2) m)
          (eq-eqb m m refl))
      | inr e ↦
          let k : IsTrue (is_second_name name state.second || is_found states name) = rw e at h in
          elim (cases_Bool (is_second_name name state.second)) [
            | inl s ↦
                let there : has_second_name state.second ≡ true = second_is_there name state.second s in
                let same : nat_eq (m + 1) (m + 1) ≡ true = eq-eqb (m + 1) (m + 1) refl in
                rw (e, s)
                (or_right (nat_eq (m + 1) m)
                (has_second_name state.second && nat_eq (m + 1) (m + 1) || is_variable (state_flags states) (m + 2) (m + 1))
                (or_left (has_second_name state.second && nat_eq (m + 1) (m + 1))
                (is_variable (state_flags states) (m + 2) (m + 1))
                (and_from (has_second_name state.second) (nat_eq (m + 1) (m + 1)) there same)))
            | inr s ↦
                let l : IsTrue (is_found states name) = rw s at k in
                let later = found_number states (m + 2) i name l in
                let n : ℕ = unwrap_or (number_in states (m + 2) name) i in
                rw (e, s)
                (or_right (nat_eq n m) (has_second_name state.second && nat_eq n (m + 1)
                || is_variable (state_flags states) (m + 2) n)
                (or_right (has_second_name state.second && nat_eq n (m + 1)) (is_variable (state_flags states) (m + 2) n) later))
          ]
    ]

-- Entries.

-- what holds of an entry of a pin with this direction
abbrev PinEntryIs : List StateName → Direction → List ℕ → Class → Type 0
PinEntryIs states d target Input = IsTrue (is_input d)
PinEntryIs states d target Driven = ⊤
PinEntryIs states d target Alias = IsTrue (is_found states target)
PinEntryIs states d target Shared = IsTrue (is_found states target)
PinEntryIs states d target Node = ⊥
PinEntryIs states d target Variable = ⊥

-- what holds of an entry of a variable or node
abbrev StateEntryIs : List StateName → List ℕ → List ℕ → Class → Type 0
StateEntryIs states name target Input = ⊥
StateEntryIs states name target Driven = ⊥
StateEntryIs states name target Alias = ⊥
StateEntryIs states name target Shared = ⊥
StateEntryIs states name target Node = IsTrue (is_found states target)
StateEntryIs states name target Variable = IsTrue (is_found states target) × (target ≡ name)

abbrev IsStateEntry : List StateName → Entry → Type 0
IsStateEntry states e = StateEntryIs states e.name e.target e.class

node_named_is_found :
    (name first : List ℕ) (second : Option (List ℕ)) → is_node_as name first second ≡ true → bytes_eq first name ≡ true
node_named_is_found name first None h = h
node_named_is_found name first (Some second) h = absurd cc

node_is_found : (states : List StateName) (name : List ℕ) → is_node states name ≡ true → IsTrue (is_found states name)
node_is_found [] name h = absurd cc
node_is_found (state ∷ states) name h =
    elim (or_cases (is_node_named name state) (list_any (is_node_named name) states) h) [
      | inl e ↦
          or_left (bytes_eq state.first name) (is_second_name name state.second || is_found states name)
          (node_named_is_found name state.first state.second e)
      | inr e ↦
          or_right (bytes_eq state.first name) (is_second_name name state.second || is_found states name)
          (or_right (is_second_name name state.second) (is_found states name) (node_is_found states name e))
    ]

-- what a pin of this class stands for, where it names this
abbrev bound_target : List ℕ → Option Attribute → Class → List ℕ
bound_target name attribute class = if is_bound class then option_map_or (λ (a : Attribute). a.text) attribute name else name

internal_entry :
    (states : List StateName) (name : List ℕ) (attribute : Option Attribute)
    → PinEntryIs states direction.Internal (bound_target name attribute (internal_class states name attribute))
    (internal_class states name attribute)
internal_entry states name None = tt
internal_entry states name (Some attribute) =
    elim (cases_Bool (is_node states attribute.text)) [
      | inl e ↦
          let found : IsTrue (is_found states attribute.text) = node_is_found states attribute.text e in
          elim (cases_Bool (bytes_eq attribute.text name)) [ inl k ↦ rw (e, k) found | inr k ↦ rw (e, k) found ]
      | inr e ↦ rw e tt
    ]

entry_by_direction :
    (states : List StateName) (group : Group) (name : List ℕ) (d : Option Direction)
    → PinEntryIs states (unwrap_or d direction.Input) (target_as group name (class_as states group name d))
    (class_as states group name d)
entry_by_direction states group name None = refl
entry_by_direction states group name (Some direction.Input) = refl
entry_by_direction states group name (Some direction.Output) = tt
entry_by_direction states group name (Some direction.Internal) =
    internal_entry states name (attribute_of group (codes "internal_node"))

-- entry by entry what holds of entries of pins
abbrev ArePinEntries : List StateName → List Entry → List Pin → Type 0
ArePinEntries states [] [] = ⊤
ArePinEntries states [] (pin ∷ pins) = ⊥
ArePinEntries states (e ∷ es) [] = ⊥
ArePinEntries states (e ∷ es) (pin ∷ pins) = PinEntryIs states pin.direction e.target e.class × ArePinEntries states es pins

entries_append :
    (states : List StateName) (es fs : List Entry) (pins more : List Pin)
    → ArePinEntries states es pins → ArePinEntries states fs more → ArePinEntries states (es ++ fs) (pins ++ more)
entries_append states [] fs [] more h k = k
entries_append states [] fs (pin ∷ pins) more h k = absurd h
entries_append states (e ∷ es) fs [] more h k = absurd h
entries_append states (e ∷ es) fs (pin ∷ pins) more h k = (h.0, entries_append states es fs pins more h.1 k)

entries_in_group :
    (states : List StateName) (group : Group) (values : List Value)
    → ArePinEntries states (map (pin_entry states group) values) (map (pin_as group) values)
entries_in_group states group [] = tt
entries_in_group states group (value ∷ values) =
    (entry_by_direction states group value.bytes (direction_of group), entries_in_group states group values)

entries_of_pins :
    (states : List StateName) (groups : List Group)
    → ArePinEntries states (flat_map (pin_entries states) groups) (flat_map pins_in groups)
entries_of_pins states [] = tt
entries_of_pins states (group ∷ groups) =
    entries_append states (pin_entries states group) (flat_map (pin_entries states) groups) (pins_in group)
    (flat_map pins_in groups)
    (entries_in_group states group group.arguments) (entries_of_pins states groups)

recursion_append : {X : Type 0} (P : X → Type 0) (xs ys : List X) → AllByRecursion P xs → AllByRecursion P ys
    → AllByRecursion P (xs ++ ys)
recursion_append P [] ys h k = k
recursion_append P (x ∷ xs) ys h k = (h.0, recursion_append P xs ys h.1 k)

same_name : (name : List ℕ) → bytes_eq name name ≡ true
same_name name = (bytes_eq-Decides name name).1 refl

entries_of_state :
    (states : List StateName) (first : List ℕ) (second : Option (List ℕ)) → IsTrue (is_found states first)
    → ((name : List ℕ) → is_second_name name second ≡ true → IsTrue (is_found states name))
    → AllByRecursion (IsStateEntry states) (state_entries_as first second)
entries_of_state states first None h k = (h, tt)
entries_of_state states first (Some second) h k = ((h, refl), ((k second (same_name second), refl), tt))

entries_of_states :
    (states some : List StateName) → ((name : List ℕ) → IsTrue (is_found some name) → IsTrue (is_found states name))
    → AllByRecursion (IsStateEntry states) (flat_map state_entries some)
entries_of_states states [] h = tt
entries_of_states states (state ∷ some) h =
    recursion_append (IsStateEntry states) (state_entries state) (flat_map state_entries some)
    (entries_of_state states state.first state.second
    (h state.first
    (or_left (bytes_eq state.first state.first) (is_second_name state.first state.second || is_found some state.first)
    (same_name state.first)))
    (λ name e. h name
    (or_right (bytes_eq state.first name) (is_second_name name state.second || is_found some name)
    (or_left (is_second_name name state.second) (is_found some name) e))))
    (entries_of_states states some
    (λ name e. h name
    (or_right (bytes_eq state.first name) (is_second_name name state.second || is_found some name)
    (or_right (is_second_name name state.second) (is_found some name) e))))

firsts_keep : (P : Entry → Type 0) (known : List (List ℕ)) (es : List Entry) → AllByRecursion P es
    → AllByRecursion P (firsts_after known es)
firsts_keep P known [] h = tt
firsts_keep P known (e ∷ es) h =
    elim (cases_Bool (is_some (number_of known e.name))) [
      | inl k ↦ rw k (firsts_keep P known es h.1)
      | inr k ↦ rw k (h.0, firsts_keep P (known ++ e.name ∷ []) es h.1)
    ]

-- what holds of the entry with number i
abbrev EntryIs : List StateName → List Pin → ℕ → List ℕ → List ℕ → Class → Type 0
EntryIs states pins i name target Input = IsTrue (is_input_pin pins i)
EntryIs states pins i name target Driven = ⊤
EntryIs states pins i name target Alias = IsTrue (is_found states target)
EntryIs states pins i name target Shared = IsTrue (is_found states target)
EntryIs states pins i name target Node = IsTrue (is_found states target)
EntryIs states pins i name target Variable = IsTrue (is_found states target) × (target ≡ name) × (length pins ≤ i)

of_state :
    (states : List StateName) (i : ℕ) (name target : List ℕ) (class : Class)
    → StateEntryIs states name target class → EntryIs states [] i name target class
of_state states i name target Input h = absurd h
of_state states i name target Driven h = tt
of_state states i name target Alias h = absurd h
of_state states i name target Shared h = absurd h
of_state states i name target Node h = h
of_state states i name target Variable h = (h.0, h.1, omega arith)

of_pin :
    (states : List StateName) (pin : Pin) (pins : List Pin) (name target : List ℕ) (class : Class)
    → PinEntryIs states pin.direction target class → EntryIs states (pin ∷ pins) zero name target class
of_pin states pin pins name target Input h = h
of_pin states pin pins name target Driven h = tt
of_pin states pin pins name target Alias h = h
of_pin states pin pins name target Shared h = h
of_pin states pin pins name target Node h = absurd h
of_pin states pin pins name target Variable h = absurd h

of_later :
    (states : List StateName) (pin : Pin) (pins : List Pin) (i : ℕ) (name target : List ℕ) (class : Class)
    → EntryIs states pins i name target class → EntryIs states (pin ∷ pins) (suc i) name target class
of_later states pin pins i name target Input h = h
of_later states pin pins i name target Driven h = tt
of_later states pin pins i name target Alias h = h
of_later states pin pins i name target Shared h = h
of_later states pin pins i name target Node h = h
of_later states pin pins i name target Variable h =
    let far : length pins ≤ i = h.2 in (h.0, h.1, omega arith)

state_entry_at :
    (states : List StateName) (es : List Entry) (i : ℕ) (e : Entry) → AllByRecursion (IsStateEntry states) es
    → slice_get es i ≡ Some e
    → IsStateEntry states e
state_entry_at states [] i e h k = absurd cc
state_entry_at states (f ∷ es) zero e h k = let same : f ≡ e = cc in subst (λ x. IsStateEntry states x) same h.0
state_entry_at states (f ∷ es) (suc i) e h k = state_entry_at states es i e h.1 k

entry_at :
    (states : List StateName) (es fs : List Entry) (pins : List Pin) (i : ℕ) (e : Entry)
    → ArePinEntries states es pins → AllByRecursion (IsStateEntry states) fs → slice_get (es ++ fs) i ≡ Some e
    → EntryIs states pins i e.name e.target e.class
entry_at states [] fs [] i e h k l = of_state states i e.name e.target e.class (state_entry_at states fs i e k l)
entry_at states [] fs (pin ∷ pins) i e h k l = absurd h
entry_at states (f ∷ es) fs [] i e h k l = absurd h
entry_at states (f ∷ es) fs (pin ∷ pins) zero e h k l =
    let same : f ≡ e = cc in
    subst (λ (x : Entry). EntryIs states (pin ∷ pins) zero x.name x.target x.class) same
    (of_pin states pin pins f.name f.target f.class h.0)
entry_at states (f ∷ es) fs (pin ∷ pins) (suc i) e h k l =
    of_later states pin pins i e.name e.target e.class (entry_at states es fs pins i e h.1 k l)

-- Places of entries.

class_of_entry : (es : List Entry) (i : ℕ) (e : Entry) → slice_get es i ≡ Some e → class_at (entry_classes es) i ≡ e.class
class_of_entry [] i e h = absurd cc
class_of_entry (f ∷ es) zero e h = let same : f ≡ e = cc in ap (λ (x : Entry). x.class) same
class_of_entry (f ∷ es) (suc i) e h = class_of_entry es i e h

class_of_none : (es : List Entry) (i : ℕ) → slice_get es i ≡ None → class_at (entry_classes es) i ≡ Driven
class_of_none [] i h = refl
class_of_none (f ∷ es) zero h = absurd cc
class_of_none (f ∷ es) (suc i) h = class_of_none es i h

name_of_entry : (es : List Entry) (i : ℕ) (e : Entry) → slice_get es i ≡ Some e → get_or (entry_names es) i [] ≡ e.name
name_of_entry [] i e h = absurd cc
name_of_entry (f ∷ es) zero e h = let same : f ≡ e = cc in ap (λ (x : Entry). x.name) same
name_of_entry (f ∷ es) (suc i) e h = name_of_entry es i e h

number_at :
    (states : List StateName) (pins : ℕ) (classes : List Class) (k : ℕ) (es : List Entry) (i : ℕ) (e : Entry)
    → slice_get es i ≡ Some e
    → slice_index (numbers_from states pins classes k (entry_targets es)) i ≡ number_as states pins (k + i)
    (class_at classes (k + i)) e.target
number_at states pins classes k [] i e h = absurd cc
number_at states pins classes k (f ∷ es) zero e h =
    let same : f ≡ e = cc in
    let here : k ≡ k + zero = omega arith in
    ap (λ (x : Entry). number_as states pins k (class_at classes k) x.target) same
    ∙ ap (λ n. number_as states pins n (class_at classes n) e.target) here
number_at states pins classes k (f ∷ es) (suc i) e h =
    let there : k + 1 + i ≡ k + suc i = omega arith in
    number_at states pins classes (k + 1) es i e h ∙ ap (λ n. number_as states pins n (class_at classes n) e.target) there

-- What the name with number i is, where n is its number in the cell.
abbrev pub NumberIs : List StateName → List Pin → List (List ℕ) → ℕ → ℕ → Class → Type 0
NumberIs states pins names i n Input = (n ≡ i) × IsTrue (is_input_pin pins i)
NumberIs states pins names i n Driven = ⊤
NumberIs states pins names i n Alias = IsTrue (is_variable (state_flags states) (length pins) n)
NumberIs states pins names i n Shared = IsTrue (is_variable (state_flags states) (length pins) n)
NumberIs states pins names i n Node = IsTrue (is_variable (state_flags states) (length pins) n)
NumberIs states pins names i n Variable =
    IsTrue (is_variable (state_flags states) (length pins) n)
    × (length pins ≤ i)
    × ((name : List ℕ) → number_of names name ≡ Some i → n ≡ unwrap_or (number_in states (length pins) name) i)

number_is :
    (states : List StateName) (pins : List Pin) (names : List (List ℕ)) (i : ℕ) (name target : List ℕ) (class : Class)
    → ((other : List ℕ) → number_of names other ≡ Some i → other ≡ name) → EntryIs states pins i name target class
    → NumberIs states pins names i (number_as states (length pins) i class target) class
number_is states pins names i name target Input named h = (refl, h)
number_is states pins names i name target Driven named h = tt
number_is states pins names i name target Alias named h = found_number states (length pins) i target h
number_is states pins names i name target Shared named h = found_number states (length pins) i target h
number_is states pins names i name target Node named h = found_number states (length pins) i target h
number_is states pins names i name target Variable named h = (
  found_number states (length pins) i target h.0,
  h.2,
  λ other e. ap (λ x. unwrap_or (number_in states (length pins) x) i) (h.1 ∙ sym (named other e)),
)

-- the name that has a number is the name at that place
named_at :
    (es : List Entry) (i : ℕ) (e : Entry) → slice_get es i ≡ Some e → (other : List ℕ) → number_of (entry_names es) other ≡ Some i
    → other ≡ e.name
named_at es i e h other k =
    let found = position-Some (bytes_eq other) (entry_names es) i [] k in
    let same : bytes_eq other (get_or (entry_names es) i []) ≡ true = found.1 in
    (bytes_eq-Decides other (get_or (entry_names es) i [])).0 same ∙ name_of_entry es i e h

number_of_entry :
    (states : List StateName) (pins : List Pin) (es : List Entry) (i : ℕ) (found : Option Entry) → slice_get es i ≡ found
    → ((e : Entry) → slice_get es i ≡ Some e → EntryIs states pins i e.name e.target e.class)
    → NumberIs states pins (entry_names es) i
    (slice_index (numbers_from states (length pins) (entry_classes es) 0 (entry_targets es)) i) (class_at (entry_classes es) i)
number_of_entry states pins es i None h entries = rw (class_of_none es i h) tt
number_of_entry states pins es i (Some e) h entries =
    let here : 0 + i ≡ i = omega arith in
    let class : class_at (entry_classes es) i ≡ e.class = class_of_entry es i e h in
    let place : slice_index (numbers_from states (length pins) (entry_classes es) 0 (entry_targets es)) i
    ≡ number_as states (length pins) i e.class e.target =
    number_at states (length pins) (entry_classes es) 0 es i e h
    ∙ ap (λ n. number_as states (length pins) n (class_at (entry_classes es) n) e.target) here
    ∙ ap (λ c. number_as states (length pins) i c e.target) class in
    let whole = number_is states pins (entry_names es) i e.name e.target e.class (named_at es i e h) (entries e h) in
    subst (λ c. NumberIs states pins (entry_names es) i
    (slice_index (numbers_from states (length pins) (entry_classes es) 0 (entry_targets es)) i) c)
    (sym class)
    (subst (λ n. NumberIs states pins (entry_names es) i n e.class) (sym place) whole)

-- Where no name of a pin stands twice, each name of a cell's vocabulary has its number.
pub numbers_are :
    (cell : Group) → IsTrue (are_distinct (pin_names (pins_of cell))) → (i : ℕ)
    → NumberIs (states_of cell) (pins_of cell) (vocabulary cell).names i
    (slice_index (cell_numbers (states_of cell) (length (pins_of cell)) (vocabulary cell)) i)
    (class_at (vocabulary cell).classes i)
numbers_are cell distinct i =
    let states : List StateName = states_of cell in
    let first : List Entry = flat_map (pin_entries states) (pin_groups cell) in
    let later : List Entry = firsts_after (pin_names (pins_of cell)) (flat_map state_entries states) in
    let split : vocabulary_of states (pin_groups cell) ≡ first ++ later = pins_first states (pin_groups cell) distinct in
    number_of_entry states (pins_of cell) (vocabulary_of states (pin_groups cell)) i
    (slice_get (vocabulary_of states (pin_groups cell)) i) refl
    (λ e h. entry_at states first later (pins_of cell) i e (entries_of_pins states (pin_groups cell))
    (firsts_keep (IsStateEntry states) (pin_names (pins_of cell)) (flat_map state_entries states)
    (entries_of_states states states (λ name found. found)))
    (subst (λ es. slice_get es i ≡ Some e) split h))
