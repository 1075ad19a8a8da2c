-- The names with which a name that comes later clashes.
use Rattle.std.proofs.Common.{◌≡◌, ℕ, ◌+◌, ◌<◌, ◌≤◌, length, map, take, drop, get_or, Bool, true, false, not, ◌&&◌, ◌||◌, List}
use Rattle.std.proofs.Common.{[], ◌∷◌, ◌++◌, refl, sym, ◌∙◌, ap, subst, inl, inr, Option, Some, None}
use Rattle.std.specs.Prelude.{bytes_eq, is_some}
use Rattle.std.specs.List.{list_any}
use Rattle.std.proofs.lemmas.Bool.{cases_Bool}
use Rattle.std.proofs.lemmas.Slice.Eq.{bytes_eq-Decides}
use Rattle.std.proofs.lemmas.List.Folds.{list_any-append}
use Rattle.std.proofs.lemmas.List.{map-append, take_more, drop_more, drop_all}
use Rattle.cell_machine.specs.Delay.{lesser, least}
use Rattle.bool_functions.specs.NameList.{number_of, Adds}
use Rattle.bool_functions.proofs.NameLists.{position-none, position-some}
use Rattle.cell_attributes.specs.declared.declarations.Role.{Role}
use Rattle.cell_attributes.specs.Declarations.{Declared, may_share, clashes, clashes_after}
use Rattle.cell_attributes.specs.declared.declarations.Declared.{Declared as HeldName}
use Rattle.cell_attributes.specs.Shown.{shown_name}
use Rattle.cell_machine.proofs.LeastLemmas.{least_append, lesser_assoc, lesser_none}
use Rattle.cell_attributes.specs.KnownNames.{clashes_as, clash_in, IsAgainst}

is_some_from : (o : Option ℕ) → (o ≡ None → ⊥) → is_some o ≡ true
is_some_from None h = absurd (h refl)
is_some_from (Some x) h = refl

-- a name has a number where it is in the list
pub found_is : (names : List (List ℕ)) (name : List ℕ) → is_some (number_of names name) ≡ list_any (bytes_eq name) names
found_is names name =
    elim (cases_Bool (list_any (bytes_eq name) names)) [
      | inl e ↦ is_some_from (number_of names name) (position-some (bytes_eq name) names e) ∙ sym e
      | inr e ↦ ap is_some (position-none (bytes_eq name) names e) ∙ sym e
    ]

met_with : (b apart rest : Bool) → apart ≡ false → (b || false) ≡ ((b && not apart) || false)
met_with true apart rest h = rw h refl
met_with false apart rest h = refl

known_before : (b before : Bool) → (b ≡ true → before ≡ true) → before ≡ (before || (b || false))
known_before b true h = refl
known_before true false h = h refl
known_before false false h = refl

-- the list holds the name where adding it finds it there
is_there : (names : List (List ℕ)) (word : List ℕ) → (number_of names word ≡ None → ⊥) → list_any (bytes_eq word) names ≡ true
is_there names word h =
    elim (cases_Bool (list_any (bytes_eq word) names)) [
      | inl e ↦ e
      | inr e ↦ absurd (h (position-none (bytes_eq word) names e))
    ]

-- what adding a name to a list does to what the list holds
added_holds :
    (old new : List (List ℕ)) (word name : List ℕ) (number : Option ℕ)
    → Adds old word number new → list_any (bytes_eq name) new ≡ (list_any (bytes_eq name) old || (bytes_eq name word || false))
added_holds old new word name (Some i) added = ap (list_any (bytes_eq name)) added.2
    ∙ list_any-append (bytes_eq name) old (word ∷ [])
added_holds old new word name None added =
    ap (list_any (bytes_eq name)) added.1
    ∙ known_before (bytes_eq name word) (list_any (bytes_eq name) old)
    (λ e.
    let same : name ≡ word = (bytes_eq-Decides name word).0 e in
    subst (λ n. list_any (bytes_eq n) old ≡ true) (sym same) (is_there old word added.0))

-- a name that may not be shared with a name of this role is kept for it
pub kept :
    (role : Role) (one : Declared) (old new : List (List ℕ)) (number : Option ℕ)
    → may_share role one.role ≡ false → Adds old one.name number new → (earlier : List Declared)
    → IsAgainst role earlier old → IsAgainst role (earlier ++ one ∷ []) new
kept role one old new number apart added earlier against name =
    added_holds old new one.name name number added
    ∙ (ap (λ b. b || (bytes_eq name one.name || false)) (against name)
    ∙ (ap (λ b. list_any (clashes_as name role) earlier || b)
    (met_with (bytes_eq name one.name) (may_share role one.role) false apart)
    ∙ sym (list_any-append (clashes_as name role) earlier (one ∷ []))))

-- a name clashes where it is among the names with which one of its role clashes
pub is_clash :
    (one : Declared) (role : Role) (earlier : List Declared) (names : List (List ℕ))
    → one.role ≡ role → IsAgainst role earlier names → list_any (bytes_eq one.name) names ≡ list_any (clashes one) earlier
is_clash one role earlier names same against =
    subst (λ r. list_any (bytes_eq one.name) names ≡ list_any (clashes_as one.name r) earlier) (sym same) (against one.name)

-- one more of the names that stand before
pub more_names :
    (ds : List HeldName) (i : ℕ) (d : HeldName)
    → i < length ds → map shown_name (take (i + 1) ds) ≡ map shown_name (take i ds) ++ shown_name (get_or ds i d) ∷ []
more_names ds i d within = ap (map shown_name) (take_more ds i d within) ∙ map-append shown_name (take i ds) (get_or ds i d ∷ [])

-- one more turn of the loop over the names
pub clash_turn :
    (ds : List HeldName) (i : ℕ) (d : HeldName) (found at next : Option ℕ)
    → i < length ds → at ≡ least (clash_in (map shown_name (take i ds)) (shown_name (get_or ds i d))) → next ≡ lesser found at
    → lesser next (least (clashes_after (map shown_name (take (i + 1) ds)) (map shown_name (drop (i + 1) ds))))
    ≡ lesser found (least (clashes_after (map shown_name (take i ds)) (map shown_name (drop i ds))))
clash_turn ds i d found at next within here more =
    let one : Declared = shown_name (get_or ds i d) in
    let before : List Declared = map shown_name (take i ds) in
    let after : List Declared = map shown_name (drop (i + 1) ds) in
    rw (drop_more ds i d within)
    (rw (more_names ds i d within)
    (rw more
    (rw here
    (lesser_assoc found (least (clash_in before one)) (least (clashes_after (before ++ one ∷ []) after))
    ∙ ap (lesser found) (sym (least_append (clash_in before one) (clashes_after (before ++ one ∷ []) after)))))))

-- the loop over the names is over
pub clash_end :
    (ds : List HeldName) (i : ℕ) (found whole : Option ℕ)
    → length ds ≤ i → lesser found (least (clashes_after (map shown_name (take i ds)) (map shown_name (drop i ds)))) ≡ whole
    → found ≡ whole
clash_end ds i found whole past h =
    let none : drop i ds ≡ [] = drop_all i ds past in
    sym (lesser_none found)
    ∙ subst (λ rest. lesser found (least (clashes_after (map shown_name (take i ds)) (map shown_name rest))) ≡ whole) none h
