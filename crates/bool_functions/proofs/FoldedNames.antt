-- Names that are looked up in a list by what they are folded to: in lower case, say, where case does not count.
use Rattle.std.proofs.Common.{◌≡◌, ℕ, Bool, true, false, ◌||◌, List, [], ◌∷◌, ◌++◌, map, position, Option, Some, None, is_some}
use Rattle.std.proofs.Common.{bytes_eq, refl, sym, ap, ◌∙◌}
use Rattle.std.specs.List.{list_any}
use Rattle.std.proofs.lemmas.List.{map-append}
use Rattle.std.proofs.lemmas.List.Folds.{list_any-append}
use Rattle.std.proofs.lemmas.Slice.Eq.{bytes_eq-Decides}
use Rattle.bool_functions.specs.NameList.{Adds}
use Rattle.bool_functions.proofs.NameLists.{position-none, position-some}

-- there is a place where the test holds exactly where it holds of one
pub some_position : {X : Type 0} (p : X → Bool) (xs : List X) → is_some (position p xs) ≡ list_any p xs
some_position p xs = by (list_any p xs) refl (position p xs) refl
  where
    by : (b : Bool) → list_any p xs ≡ b → (o : Option ℕ) → position p xs ≡ o → is_some o ≡ b
    by true e (Some i) f = refl
    by true e None f = absurd (position-some p xs e f)
    by false e (Some i) f = absurd (let g = position-none p xs e in cc)
    by false e None f = refl

-- two tests of which the second holds only where the first does
there_already : (a b : Bool) → (b ≡ true → a ≡ true) → a ≡ (a || b)
there_already true b h = refl
there_already false true h = absurd (let e = h refl in cc)
there_already false false h = refl

module _ (fold : List ℕ → List ℕ) where
  -- a name is among the first exactly where it is one of the others, folded
  abbrev pub HaveSame : List (List ℕ) → List (List ℕ) → Type 0
  HaveSame folded names = (x : List ℕ) → list_any (bytes_eq x) folded ≡ list_any (bytes_eq x) (map fold names)

  any_added : (names : List (List ℕ)) (name x : List ℕ)
      → list_any (bytes_eq x) (map fold (names ++ name ∷ []))
      ≡ (list_any (bytes_eq x) (map fold names) || list_any (bytes_eq x) (fold name ∷ []))
  any_added names name x = ap (list_any (bytes_eq x)) (map-append fold names (name ∷ []))
      ∙ list_any-append (bytes_eq x) (map fold names) (fold name ∷ [])

  -- a name is added folded, unless it is there
  pub added_same : (old new others : List (List ℕ)) (name : List ℕ) (found : Option ℕ) → Adds old (fold name) found new
      → HaveSame old others → HaveSame new (others ++ name ∷ [])
  added_same old new others name (Some i) a h = λ x.
      ap (list_any (bytes_eq x)) a.2 ∙ list_any-append (bytes_eq x) old (fold name ∷ [])
      ∙ ap (λ b. b || list_any (bytes_eq x) (fold name ∷ [])) (h x)
      ∙ sym (any_added others name x)
  added_same old new others name None a h = λ x.
      ap (list_any (bytes_eq x)) a.1
      ∙ there_already (list_any (bytes_eq x) old) (list_any (bytes_eq x) (fold name ∷ [])) (known x)
      ∙ ap (λ b. b || list_any (bytes_eq x) (fold name ∷ [])) (h x)
      ∙ sym (any_added others name x)
    where
      among : (b : Bool) → list_any (bytes_eq (fold name)) old ≡ b → list_any (bytes_eq (fold name)) old ≡ true
      among true e = e
      among false e = absurd (a.0 (position-none (bytes_eq (fold name)) old e))

      same_as : (x : List ℕ) (b : Bool) → bytes_eq x (fold name) ≡ b → (b || false) ≡ true
          → list_any (bytes_eq x) old ≡ true
      same_as x true e h =
          ap (λ (y : List ℕ). list_any (bytes_eq y) old) ((bytes_eq-Decides x (fold name)).0 e)
          ∙ among (list_any (bytes_eq (fold name)) old) refl
      same_as x false e h = absurd cc

      known : (x : List ℕ) → list_any (bytes_eq x) (fold name ∷ []) ≡ true → list_any (bytes_eq x) old ≡ true
      known x = same_as x (bytes_eq x (fold name)) refl
