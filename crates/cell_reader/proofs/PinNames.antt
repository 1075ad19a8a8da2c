-- The names of the pins of a cell, added one by one.
use Rattle.std.proofs.Common.{◌≡◌, ℕ, ◌+◌, ◌<◌, Bool, true, false, not, ◌||◌, List, [], ◌∷◌, ◌++◌, length, take, drop, get_or}
use Rattle.std.proofs.Common.{refl, sym, ◌∙◌, ap, subst, IsTrue, Option, Some, None}
use Rattle.std.specs.Prelude.{bytes_eq}
use Rattle.std.specs.List.{list_any}
use Rattle.std.proofs.lemmas.Bool.{and_parts, or_from as or_false}
use Rattle.std.proofs.lemmas.List.Folds.{list_any-append}
use Rattle.std.proofs.lemmas.List.{map-append, take_more, drop_more, take-append-drop}
use Rattle.bool_functions.specs.NameList.{number_of, Adds}
use Rattle.bool_functions.proofs.NameLists.{position-none}
use Rattle.cell_machine.specs.declared.pins.Pin.{Pin}
use Rattle.cell_machine.specs.CellRules.{are_distinct}
use Rattle.cell_attributes.specs.Pins.{pin_names}
use Rattle.cell_attributes.proofs.Distinct.{bytes_unlike}

last_of_or : (a b c : Bool) → IsTrue (not (a || (b || c))) → b ≡ false
last_of_or true b c h = absurd cc
last_of_or false true c h = absurd cc
last_of_or false false c h = refl

-- a name of a list in which none stands twice is not before its place
not_before :
    (xs : List (List ℕ)) (x : List ℕ) (ys : List (List ℕ)) → IsTrue (are_distinct (xs ++ x ∷ ys))
    → list_any (bytes_eq x) xs ≡ false
not_before [] x ys h = refl
not_before (w ∷ xs) x ys h =
    let parts = and_parts (not (list_any (bytes_eq w) (xs ++ x ∷ ys))) (are_distinct (xs ++ x ∷ ys)) h in
    let apart : IsTrue (not (list_any (bytes_eq w) xs || (bytes_eq w x || list_any (bytes_eq w) ys))) =
    subst (λ b. IsTrue (not b)) (list_any-append (bytes_eq w) xs (x ∷ ys)) parts.0 in
    or_false (bytes_eq x w) (list_any (bytes_eq x) xs)
    (bytes_unlike x w (last_of_or (list_any (bytes_eq w) xs) (bytes_eq w x) (list_any (bytes_eq w) ys) apart))
    (not_before xs x ys parts.1)

added_last : (old new : List (List ℕ)) (name : List ℕ) (number : Option ℕ) → number_of old name ≡ None → Adds old name number new
    → new ≡ old ++ name ∷ []
added_last old new name (Some i) fresh added = added.2
added_last old new name None fresh added = absurd (added.0 fresh)

-- one more of the pins
pub one_more_name :
    (pins : List Pin) (i : ℕ) (d : Pin) (old new : List (List ℕ)) (number : Option ℕ)
    → i < length pins → IsTrue (are_distinct (pin_names pins)) → old ≡ pin_names (take i pins)
    → Adds old ((get_or pins i d).name) number new → new ≡ pin_names (take (i + 1) pins)
one_more_name pins i d old new number within distinct before added =
    let one : Pin = get_or pins i d in
    let whole : pins ≡ take i pins ++ one ∷ drop (i + 1) pins = sym (take-append-drop i pins)
    ∙ ap (λ rest. take i pins ++ rest) (drop_more pins i d within) in
    let names : pin_names pins ≡ pin_names (take i pins) ++ one.name ∷ pin_names (drop (i + 1) pins) =
    ap pin_names whole ∙ map-append (λ (pin : Pin). pin.name) (take i pins) (one ∷ drop (i + 1) pins) in
    let apart : list_any (bytes_eq one.name) (pin_names (take i pins)) ≡ false =
    not_before (pin_names (take i pins)) one.name (pin_names (drop (i + 1) pins))
    (subst (λ ns. IsTrue (are_distinct ns)) names distinct) in
    let fresh : number_of old one.name ≡ None = rw before (position-none (bytes_eq one.name) (pin_names (take i pins)) apart) in
    added_last old new one.name number fresh added
    ∙ (ap (λ ns. ns ++ one.name ∷ []) before
    ∙ (sym (map-append (λ (pin : Pin). pin.name) (take i pins) (one ∷ [])) ∙ ap pin_names (sym (take_more pins i d within))))
