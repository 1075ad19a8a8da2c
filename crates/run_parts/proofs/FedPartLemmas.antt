-- The parts that an input feeds, as their places are added.
use Rattle.std.proofs.Common.{◌≡◌, ℕ, Bool, true, false, ◌||◌, cond, List, [], ◌∷◌, ◌++◌, refl, ap, sym, ◌∙◌, Option, Some, None}
use Rattle.std.proofs.Common.{nat_eq}
use Rattle.std.proofs.lemmas.Bool.{eqb-true}
use Rattle.run_parts.specs.FedParts.{is_number, is_among}
use Rattle.run_parts.proofs.PlaceLemmas.{once-added, stays}

or-false : (b c : Bool) → c ≡ false → b ≡ (b || c)
or-false true c e = refl
or-false false c e = sym e

module _ {N : Type 0} (input : N → Option ℕ) (earlier : List N) (place n : ℕ) (list : List ℕ) (net : Option ℕ) where
  -- a net that is no input adds no place
  pub none-added : net ≡ None
      → list ++ cond (is_among input earlier n) (place ∷ []) []
      ≡ list ++ cond (is_among input earlier n || is_number n net) (place ∷ []) []
  none-added none =
      ap (λ c. list ++ cond c (place ∷ []) [])
      (or-false (is_among input earlier n) (is_number n net) (ap (is_number n) none))

  -- an input among the earlier nets adds none
  pub input-kept : (i : ℕ) → net ≡ Some i → is_among input earlier i ≡ true
      → list ++ cond (is_among input earlier n) (place ∷ []) []
      ≡ list ++ cond (is_among input earlier n || is_number n net) (place ∷ []) []
  input-kept i is found =
      ap (λ c. list ++ cond c (place ∷ []) [])
      (stays (is_among input earlier n) (nat_eq i n) (λ e. ap (is_among input earlier) (sym (eqb-true i n e)) ∙ found)
      ∙ ap (λ o. is_among input earlier n || is_number n o) (sym is))

  -- a new one adds one
  pub input-added : (i : ℕ) → net ≡ Some i → is_among input earlier i ≡ false
      → (list ++ cond (is_among input earlier n) (place ∷ []) []) ++ cond (nat_eq i n) (place ∷ []) []
      ≡ list ++ cond (is_among input earlier n || is_number n net) (place ∷ []) []
  input-added i is new =
      once-added list place (is_among input earlier n) (nat_eq i n)
      (λ e. ap (is_among input earlier) (sym (eqb-true i n e)) ∙ new)
      ∙ ap (λ o. list ++ cond (is_among input earlier n || is_number n o) (place ∷ []) []) (sym is)
