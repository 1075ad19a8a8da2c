-- Texts that grow.
use Rattle.std.proofs.Common.{◌≡◌, ℕ, suc, ◌+◌, ◌<◌, List, [], ◌∷◌, ◌++◌, length, drop, get_or, sym, ap, ◌∙◌, add-one, drop-cons}
use Rattle.std.proofs.Common.{append_assoc}
use Rattle.std.specs.Prelude.{Some, slice_get}
use Rattle.std.specs.List.{flat_map}
use Rattle.std.proofs.lemmas.Option.{get_or_from_slice_get}

-- the texts of the names from a place on
names_at : (f : List ℕ → List ℕ) (names : List (List ℕ)) (place : ℕ) (name : List ℕ) → place < length names
    → slice_get names place ≡ Some name
    → flat_map f (drop place names) ≡ f name ++ flat_map f (drop (place + 1) names)
names_at f names place name h n =
    let first : get_or names place [] ≡ name = get_or_from_slice_get names place name [] n in
    let split : drop place names ≡ name ∷ drop (place + 1) names =
    rw (add-one) (drop-cons names place [] h ∙ ap (λ y. y ∷ drop (suc place) names) first) in
    ap (flat_map f) split

-- a text that grows by the first of what is left
pub grown_by_name : (f : List ℕ → List ℕ) (names : List (List ℕ)) (place : ℕ) (name text more whole : List ℕ)
    → place < length names → slice_get names place ≡ Some name
    → more ≡ text ++ f name → text ++ flat_map f (drop place names) ≡ whole → more ++ flat_map f (drop (place + 1) names) ≡ whole
grown_by_name f names place name text more whole h n e before =
    ap (λ t. t ++ flat_map f (drop (place + 1) names)) e ∙ append_assoc text (f name) (flat_map f (drop (place + 1) names))
    ∙ ap (λ t. text ++ t) (sym (names_at f names place name h n)) ∙ before
