-- Where no declared name clashes, the names of a group's own variables have the numbers of its state.
use Rattle.std.proofs.Common.{◌≡◌, ℕ, suc, ◌+◌, ◌*◌, Bool, true, false, ◌&&◌, ◌||◌, List, [], ◌∷◌, ◌++◌, length, filter, refl}
use Rattle.std.proofs.Common.{sym, ◌∙◌, ap, subst, arith, Option, Some, None, inl, inr, append_assoc, append-nil, length-append}
use Rattle.std.specs.Prelude.{⊤, flat_map, codes, bytes_eq, if◌then◌else◌}
use Rattle.std.specs.List.{list_any}
use Rattle.std.proofs.lemmas.Bool.{cases_Bool, or_cases, or_parts, or_from, and_cases}
use Rattle.std.proofs.lemmas.List.Folds.{list_any-append}
use Rattle.std.proofs.lemmas.Slice.Eq.{bytes_eq-Decides}
use Rattle.liberty_groups.specs.declared.tree.Group.{Group}
use Rattle.cell_attributes.specs.declared.declarations.Role.TheVariants.{Plain}
use Rattle.cell_attributes.specs.Groups.{is_called, inner_groups, is_pin, is_state, state_groups}
use Rattle.cell_attributes.specs.States.{Arguments, StateName, arguments_of, is_table, variables, states_with, states_in}
use Rattle.cell_attributes.specs.States.{states_of}
use Rattle.cell_attributes.specs.Declarations.{Declared, clashes, clashes_after, declared_as, declared_state, declared_in}
use Rattle.cell_attributes.specs.Declarations.{declared_of}
use Rattle.cell_attributes.specs.Building.{is_second_name, number_in}
use Rattle.cell_attributes.proofs.Distinct.{nil_parts, no_place}
use Rattle.cell_attributes.proofs.FirstNames.{other_names}
use Rattle.cell_attributes.proofs.Numbering.{is_found}

clash_parts :
    (earlier xs ys : List Declared) → clashes_after earlier (xs ++ ys) ≡ []
    → (clashes_after earlier xs ≡ []) × (clashes_after (earlier ++ xs) ys ≡ [])
clash_parts earlier [] ys h = (refl, subst (λ e. clashes_after e ys ≡ []) (sym (append-nil earlier)) h)
clash_parts earlier (d ∷ xs) ys h =
    let here : List ℕ = if list_any (clashes d) earlier then d.at ∷ [] else [] in
    let parts = nil_parts here (clashes_after (earlier ++ d ∷ []) (xs ++ ys)) h in
    let later = clash_parts (earlier ++ d ∷ []) xs ys parts.1 in (
      ap (λ front. front ++ clashes_after (earlier ++ d ∷ []) xs) parts.0 ∙ later.0,
      subst (λ e. clashes_after e ys ≡ []) (append_assoc earlier (d ∷ []) xs) later.1,
    )

-- a name that shares with none, declared somewhere
abbrev plain : ℕ → List ℕ → Declared
plain at name = record { name = name; role = Plain; at = at }

unlike : (name first : List ℕ) → bytes_eq name first && true ≡ false → bytes_eq first name ≡ false
unlike name first h =
    elim (and_cases (bytes_eq name first) true h) [ inl e ↦ other_names name first e | inr e ↦ absurd cc ]

-- a plain name that clashes with none of some states is none of their names
unlike_states :
    (at place : ℕ) (name : List ℕ) (states : List StateName)
    → list_any (clashes (plain at name)) (flat_map (declared_state place) states) ≡ false
    → is_found states name ≡ false
unlike_states at place name [] h = refl
unlike_states at place name (state ∷ states) h =
    let split = list_any-append (clashes (plain at name)) (declared_state place state) (flat_map (declared_state place) states) in
    let parts = or_parts (list_any (clashes (plain at name)) (declared_state place state))
    (list_any (clashes (plain at name)) (flat_map (declared_state place) states)) (sym split ∙ h) in
    by state.first state.second parts.0 (unlike_states at place name states parts.1)
  where
    by :
        (first : List ℕ) (second : Option (List ℕ)) → list_any (clashes (plain at name)) (declared_as place first second) ≡ false
        → is_found states name ≡ false
        → (bytes_eq first name || (is_second_name name second || is_found states name)) ≡ false
    by first None k l =
        let one = or_parts (bytes_eq name first && true) false k in
        or_from (bytes_eq first name) (is_found states name) (unlike name first one.0) l
    by first (Some second) k l =
        let one = or_parts (bytes_eq name first && true) (bytes_eq name second && true || false) k in
        let two = or_parts (bytes_eq name second && true) false one.1 in
        or_from (bytes_eq first name) (bytes_eq second name || is_found states name) (unlike name first one.0)
        (or_from (bytes_eq second name) (is_found states name) (unlike name second two.0) l)

found_append : (xs ys : List StateName) (name : List ℕ) → is_found xs name ≡ false → is_found ys name ≡ false
    → is_found (xs ++ ys) name ≡ false
found_append [] ys name h k = k
found_append (x ∷ xs) ys name h k =
    let one = or_parts (bytes_eq x.first name) (is_second_name name x.second || is_found xs name) h in
    let two = or_parts (is_second_name name x.second) (is_found xs name) one.1 in
    or_from (bytes_eq x.first name) (is_second_name name x.second || is_found (xs ++ ys) name) one.0
    (or_from (is_second_name name x.second) (is_found (xs ++ ys) name) two.0 (found_append xs ys name two.1 k))

-- a name that is none of some states' has its number among those after them
number_after :
    (before after : List StateName) (m : ℕ) (name : List ℕ) → is_found before name ≡ false
    → number_in (before ++ after) m name ≡ number_in after (m + 2 * length before) name
number_after [] after m name h = ap (λ n. number_in after n name) (omega arith)
number_after (x ∷ before) after m name h =
    let one = or_parts (bytes_eq x.first name) (is_second_name name x.second || is_found before name) h in
    let two = or_parts (is_second_name name x.second) (is_found before name) one.1 in
    let more : m + 2 + 2 * length before ≡ m + 2 * suc (length before) = omega arith in
    rw (one.0, two.0) (number_after before after (m + 2) name two.1 ∙ ap (λ n. number_in after n name) more)

-- the numbers of the variables of a group whose state has the number n
abbrev pub OwnIn : List StateName → ℕ → ℕ → Bool → Option Arguments → Type 0
OwnIn states pins n table None = ⊤
OwnIn states pins n true (Some a) = ⊤
OwnIn states pins n false (Some a) =
    (number_in states pins a.first ≡ Some n) × (number_in states pins a.second ≡ Some (n + 1))

-- the same of all groups, where the first state has the number n
abbrev pub OwnNumbers : List StateName → ℕ → ℕ → List Group → Type 0
OwnNumbers states pins n [] = ⊤
OwnNumbers states pins n (group ∷ groups) =
    OwnIn states pins n (is_table group) (arguments_of group) × OwnNumbers states pins (n + 2 * length (states_in group)) groups

own_in :
    (states : List StateName) (pins at : ℕ) (before after : List StateName) (earlier : List Declared) (table : Bool)
    (arguments : Option Arguments)
    → ((name : List ℕ) → list_any (clashes (plain at name)) earlier ≡ false → is_found before name ≡ false)
    → clashes_after earlier (flat_map (declared_state at) (states_with table arguments)) ≡ []
    → states ≡ before ++ (states_with table arguments ++ after)
    → OwnIn states pins (pins + 2 * length before) table arguments
own_in states pins at before after earlier table None h k e = tt
own_in states pins at before after earlier true (Some a) h k e = tt
own_in states pins at before after earlier false (Some a) h k e =
    let first : Declared = plain at a.first in
    let second : Declared = plain at a.second in
    let one = nil_parts (if list_any (clashes first) earlier then at ∷ [] else [])
    (clashes_after (earlier ++ first ∷ []) (second ∷ [])) k in
    let two = nil_parts (if list_any (clashes second) (earlier ++ first ∷ []) then at ∷ [] else []) [] one.1 in
    let first_new : list_any (clashes first) earlier ≡ false = no_place (list_any (clashes first) earlier) at one.0 in
    let second_new : list_any (clashes second) (earlier ++ first ∷ []) ≡ false =
    no_place (list_any (clashes second) (earlier ++ first ∷ [])) at two.0 in
    let parts = or_parts (list_any (clashes second) earlier) (bytes_eq a.second a.first && true || false)
    (sym (list_any-append (clashes second) earlier (first ∷ [])) ∙ second_new) in
    let other : bytes_eq a.first a.second ≡ false =
    unlike a.second a.first (or_parts (bytes_eq a.second a.first && true) false parts.1).0 in
    let same_first : bytes_eq a.first a.first ≡ true = (bytes_eq-Decides a.first a.first).1 refl in
    let same_second : bytes_eq a.second a.second ≡ true = (bytes_eq-Decides a.second a.second).1 refl in
    let n : ℕ = pins + 2 * length before in
    let at_first : number_in (variables a ∷ after) n a.first ≡ Some n = rw same_first refl in
    let at_second : number_in (variables a ∷ after) n a.second ≡ Some (n + 1) = rw (other, same_second) refl in (
      ap (λ s. number_in s pins a.first) e
          ∙ (number_after before (variables a ∷ after) pins a.first (h a.first first_new) ∙ at_first),
      ap (λ s. number_in s pins a.second) e
          ∙ (number_after before (variables a ∷ after) pins a.second (h a.second parts.0) ∙ at_second),
    )

called_otherwise : (name word other : List ℕ) → bytes_eq name word ≡ true → bytes_eq word other ≡ false
    → bytes_eq name other ≡ false
called_otherwise name word other h k =
    subst (λ x. bytes_eq x other ≡ false) (sym ((bytes_eq-Decides name word).0 h)) k

-- a group that holds states is no pin
pub state_is_no_pin : (group : Group) → is_state group ≡ true → is_pin group ≡ false
state_is_no_pin group h =
    let name : bytes_eq group.name (codes "pin") ≡ false =
    elim (or_cases (is_called (codes "ff") group) (is_called (codes "latch") group || is_called (codes "statetable") group) h) [
      | inl e ↦ called_otherwise group.name (codes "ff") (codes "pin") e refl
      | inr e ↦
          elim (or_cases (is_called (codes "latch") group) (is_called (codes "statetable") group) e) [
            | inl k ↦ called_otherwise group.name (codes "latch") (codes "pin") k refl
            | inr k ↦ called_otherwise group.name (codes "statetable") (codes "pin") k refl
          ]
    ] in
    rw name refl

own_numbers :
    (states : List StateName) (pins : ℕ) (before : List StateName) (earlier : List Declared) (groups : List Group)
    → ((at : ℕ) (name : List ℕ) → list_any (clashes (plain at name)) earlier ≡ false → is_found before name ≡ false)
    → clashes_after earlier (flat_map declared_in groups) ≡ []
    → states ≡ before ++ flat_map states_in (filter is_state groups)
    → OwnNumbers states pins (pins + 2 * length before) (filter is_state groups)
own_numbers states pins before earlier [] h k e = tt
own_numbers states pins before earlier (group ∷ groups) h k e =
    let parts = clash_parts earlier (declared_in group) (flat_map declared_in groups) k in
    elim (cases_Bool (is_state group)) [
      | inl s ↦
          let no_pin : is_pin group ≡ false = state_is_no_pin group s in
          let declared : declared_in group ≡ flat_map (declared_state group.at) (states_in group) = rw (no_pin, s) refl in
          let after : List StateName = flat_map states_in (filter is_state groups) in
          let whole : states ≡ before ++ (states_in group ++ after) = rw s at e in
          let here : clashes_after earlier (flat_map (declared_state group.at) (states_in group)) ≡ [] =
          subst (λ ds. clashes_after earlier ds ≡ []) declared parts.0 in
          let own = own_in states pins group.at before after earlier (is_table group) (arguments_of group) (h group.at) here whole
          in
          let next : states ≡ (before ++ states_in group) ++ after = whole ∙ sym (append_assoc before (states_in group) after) in
          let later = own_numbers states pins (before ++ states_in group) (earlier ++ declared_in group) groups
          (λ at name none.
          let one = or_parts (list_any (clashes (plain at name)) earlier) (list_any (clashes (plain at name)) (declared_in group))
          (sym (list_any-append (clashes (plain at name)) earlier (declared_in group)) ∙ none) in
          found_append before (states_in group) name (h at name one.0)
          (unlike_states at group.at name (states_in group)
          (subst (λ ds. list_any (clashes (plain at name)) ds ≡ false) declared one.1)))
          parts.1 next in
          let count : length (before ++ states_in group) ≡ length before + length (states_in group) =
          length-append before (states_in group) in
          let place : pins + 2 * length (before ++ states_in group) ≡ pins + 2 * length before + 2 * length (states_in group) =
          omega arith in
          rw s (own, subst (λ n. OwnNumbers states pins n (filter is_state groups)) place later)
      | inr s ↦
          let whole : states ≡ before ++ flat_map states_in (filter is_state groups) = rw s at e in
          rw s
          (own_numbers states pins before (earlier ++ declared_in group) groups
          (λ at name none.
          h at name
          (or_parts (list_any (clashes (plain at name)) earlier) (list_any (clashes (plain at name)) (declared_in group))
          (sym (list_any-append (clashes (plain at name)) earlier (declared_in group)) ∙ none)).0)
          parts.1 whole)
    ]

-- Where no declared name of a cell clashes, each group's variables have the numbers of its own state.
pub own_numbers_of :
    (cell : Group) (pins : ℕ) → clashes_after [] (declared_of cell) ≡ []
    → OwnNumbers (states_of cell) pins pins (state_groups cell)
own_numbers_of cell pins h =
    let start : pins + 2 * 0 ≡ pins = omega arith in
    subst (λ n. OwnNumbers (states_of cell) pins n (state_groups cell)) start
    (own_numbers (states_of cell) pins [] [] (inner_groups cell.items) (λ at name none. refl) h refl)
