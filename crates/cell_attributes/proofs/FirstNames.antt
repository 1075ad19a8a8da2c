-- The first names of a cell's vocabulary are those of its pins, in order.
use Rattle.std.proofs.Common.{◌≡◌, ℕ, Bool, true, false, not, ◌||◌, List, [], ◌∷◌, ◌++◌, None, map, refl, sym, ◌∙◌, ap, subst}
use Rattle.std.proofs.Common.{IsTrue, append_assoc, append-nil}
use Rattle.std.specs.Prelude.{flat_map, bytes_eq}
use Rattle.std.specs.List.{list_all, list_any}
use Rattle.std.proofs.lemmas.Bool.{and_parts, and_from, or_parts, or_from, false_from_ne_true, not-true as not_true}
use Rattle.std.proofs.lemmas.List.{map-append}
use Rattle.std.proofs.lemmas.List.Folds.{list_any-append}
use Rattle.std.proofs.lemmas.Slice.Eq.{bytes_eq-Decides}
use Rattle.bool_functions.specs.NameList.{number_of}
use Rattle.bool_functions.proofs.NameLists.{position-none}
use Rattle.liberty_groups.specs.declared.tree.Value.{Value}
use Rattle.liberty_groups.specs.declared.tree.Group.{Group}
use Rattle.cell_machine.specs.declared.pins.Pin.{Pin}
use Rattle.cell_machine.specs.CellRules.{are_distinct}
use Rattle.cell_attributes.specs.Pins.{pin_as, pins_in, pin_names}
use Rattle.cell_attributes.specs.States.{StateName}
use Rattle.cell_attributes.specs.Vocabulary.{Entry, pin_entry, pin_entries, state_entries, firsts_after, vocabulary_of}
use Rattle.cell_attributes.specs.Vocabulary.{entry_names}

-- whether a name is not among these
abbrev is_new : List (List ℕ) → List ℕ → Bool
is_new known x = not (list_any (bytes_eq x) known)

-- names that are not one are not, the other way round
pub other_names : (x y : List ℕ) → bytes_eq x y ≡ false → bytes_eq y x ≡ false
other_names x y h =
    false_from_ne_true (bytes_eq y x)
    (λ k. let same : y ≡ x = (bytes_eq-Decides y x).0 k in
    let t : bytes_eq x y ≡ true = (bytes_eq-Decides x y).1 (sym same) in
    absurd (let u : true ≡ false = sym t ∙ h in cc))

-- new names stay new beside one that is none of them
still_new :
    (known : List (List ℕ)) (x : List ℕ) (ys : List (List ℕ)) → list_any (bytes_eq x) ys ≡ false
    → IsTrue (list_all (is_new known) ys) → IsTrue (list_all (is_new (known ++ x ∷ [])) ys)
still_new known x [] h k = refl
still_new known x (y ∷ ys) h k =
    let apart = or_parts (bytes_eq x y) (list_any (bytes_eq x) ys) h in
    let parts = and_parts (is_new known y) (list_all (is_new known) ys) k in
    let none : list_any (bytes_eq y) (known ++ x ∷ []) ≡ false =
    list_any-append (bytes_eq y) known (x ∷ [])
    ∙ or_from (list_any (bytes_eq y) known) (bytes_eq y x || false) (not_true (list_any (bytes_eq y) known) parts.0)
    (or_from (bytes_eq y x) false (other_names x y apart.0) refl) in
    and_from (is_new (known ++ x ∷ []) y) (list_all (is_new (known ++ x ∷ [])) ys) (ap not none)
    (still_new known x ys apart.1 parts.1)

-- entries of new and distinct names all stay, in order
firsts_of_new :
    (known : List (List ℕ)) (es fs : List Entry) → IsTrue (are_distinct (entry_names es))
    → IsTrue (list_all (is_new known) (entry_names es))
    → firsts_after known (es ++ fs) ≡ es ++ firsts_after (known ++ entry_names es) fs
firsts_of_new known [] fs h k = ap (λ names. firsts_after names fs) (sym (append-nil known))
firsts_of_new known (e ∷ es) fs h k =
    let distinct = and_parts (not (list_any (bytes_eq e.name) (entry_names es))) (are_distinct (entry_names es)) h in
    let new = and_parts (is_new known e.name) (list_all (is_new known) (entry_names es)) k in
    let absent : number_of known e.name ≡ None =
    position-none (bytes_eq e.name) known (not_true (list_any (bytes_eq e.name) known) new.0) in
    let later = firsts_of_new (known ++ e.name ∷ []) es fs distinct.1
    (still_new known e.name (entry_names es) (not_true (list_any (bytes_eq e.name) (entry_names es)) distinct.0) new.1) in
    let front : firsts_after known (e ∷ (es ++ fs)) ≡ e ∷ firsts_after (known ++ e.name ∷ []) (es ++ fs) = rw absent refl in
    front ∙ ap (λ rest. e ∷ rest)
    (later ∙ ap (λ names. es ++ firsts_after names fs) (append_assoc known (e.name ∷ []) (entry_names es)))

names_in_group : (states : List StateName) (group : Group) (values : List Value)
    → entry_names (map (pin_entry states group) values) ≡ pin_names (map (pin_as group) values)
names_in_group states group [] = refl
names_in_group states group (value ∷ values) = ap (λ names. value.bytes ∷ names) (names_in_group states group values)

-- the entries of pins have the names of the pins
pub names_of_pins :
    (states : List StateName) (groups : List Group)
    → entry_names (flat_map (pin_entries states) groups) ≡ pin_names (flat_map pins_in groups)
names_of_pins states [] = refl
names_of_pins states (group ∷ groups) =
    map-append (λ (e : Entry). e.name) (pin_entries states group) (flat_map (pin_entries states) groups)
    ∙ ap (λ names. names ++ entry_names (flat_map (pin_entries states) groups)) (names_in_group states group group.arguments)
    ∙ ap (λ names. pin_names (pins_in group) ++ names) (names_of_pins states groups)
    ∙ sym (map-append (λ (pin : Pin). pin.name) (pins_in group) (flat_map pins_in groups))

all_new : (xs : List (List ℕ)) → IsTrue (list_all (is_new []) xs)
all_new [] = refl
all_new (x ∷ xs) = all_new xs

-- Where no name of a pin stands twice, the vocabulary begins with the entries of the pins.
pub pins_first :
    (states : List StateName) (groups : List Group) → IsTrue (are_distinct (pin_names (flat_map pins_in groups)))
    → vocabulary_of states groups
    ≡ flat_map (pin_entries states) groups
    ++ firsts_after (pin_names (flat_map pins_in groups)) (flat_map state_entries states)
pins_first states groups h =
    let names = names_of_pins states groups in
    let distinct : IsTrue (are_distinct (entry_names (flat_map (pin_entries states) groups))) =
    subst (λ x. IsTrue (are_distinct x)) (sym names) h in
    firsts_of_new [] (flat_map (pin_entries states) groups) (flat_map state_entries states) distinct
    (all_new (entry_names (flat_map (pin_entries states) groups)))
    ∙ ap (λ x. flat_map (pin_entries states) groups ++ firsts_after x (flat_map state_entries states)) names
