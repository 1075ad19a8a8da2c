-- Names of a word and numbers, by their places.
use Rattle.std.proofs.Common.{◌≡◌, ◌⊎◌, inl, inr, ℕ, zero, suc, ◌+◌, ◌<◌, ◌≤◌, List, [], ◌∷◌, length, get_or, refl, sym, ◌∙◌, ap}
use Rattle.std.proofs.Common.{arith}
use Rattle.std.proofs.lemmas.List.{length-append, get_or_append_left, get_or_push}
use Rattle.std.proofs.Math.Nat.{eq-or-lt_of_le}
use Rattle.driver_models.specs.Wires.{numbered}
use Rattle.driver_models.specs.Terminals.{all_numbered}

-- there are so many
pub count_is : (word : List ℕ) (n : ℕ) → length (all_numbered word n) ≡ n
count_is word zero = refl
count_is word (suc n) =
    let e = length-append (all_numbered word n) (numbered word (suc n) ∷ []) in
    let before = count_is word n in
    omega (arith, e, before)

-- the name at a place below the last one, or at the last one
at_place : (word : List ℕ) (n i : ℕ) → (i < n → numbered word (i + 1) ≡ get_or (all_numbered word n) i (numbered word (i + 1)))
    → (i ≡ n) ⊎ (i < n) → numbered word (i + 1) ≡ get_or (all_numbered word (suc n)) i (numbered word (i + 1))
at_place word n i before (inl e) =
    ap (numbered word) (omega (arith, e))
    ∙ sym (get_or_push (all_numbered word n) (numbered word (suc n)) (numbered word (i + 1)) i (count_is word n ∙ sym e))
at_place word n i before (inr below) =
    before below
    ∙ sym (get_or_append_left (all_numbered word n) (numbered word (suc n) ∷ []) (numbered word (i + 1)) i
    (let long = count_is word n in omega (arith, long, below)))

pub number_is : (word : List ℕ) (n i : ℕ) → i < n → numbered word (i + 1) ≡ get_or (all_numbered word n) i (numbered word (i + 1))
number_is word zero i h = absurd (omega (arith, h))
number_is word (suc n) i h = at_place word n i (λ below. number_is word n i below) (eq-or-lt_of_le (omega (arith, h)))

pub within : (word : List ℕ) (n i : ℕ) → i < n → i < length (all_numbered word n)
within word n i h = let long = count_is word n in omega (arith, long, h)

pub all_put : (word : List ℕ) (n i : ℕ) → n ≤ i → length (all_numbered word n) ≤ i
all_put word n i h = let long = count_is word n in omega (arith, long, h)
