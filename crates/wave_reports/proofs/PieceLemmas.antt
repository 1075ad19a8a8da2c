-- How a text that is cut at bytes of a kind begins, and where the last of them stands.
use Rattle.std.proofs.Common.{◌≡◌, ◌≢◌, ◌==◌, ℕ, ◌+◌, ◌<◌, ◌≤◌, Bool, true, false, cond, nat_lt, All, List, [], ◌∷◌, ◌++◌}
use Rattle.std.proofs.Common.{length, take, drop, get_or, Some, None, position, refl, sym, ap, subst, ◌∙◌, arith, length-drop}
use Rattle.std.proofs.Common.{take-append-drop}
use Rattle.std.proofs.lemmas.Bool.{cond-true, cond-false, eq-eqb, ne_eqb}
use Rattle.std.proofs.lemmas.Bool.Decides.{nat_tests}
use Rattle.std.proofs.lemmas.List.{drop_more, get_or-drop}
use Rattle.std.proofs.lemmas.List.Elements.{All-head, All-tail, All-from_get_or}
use Rattle.std.proofs.lemmas.List.Quantifiers.{position-Some}
use Rattle.std.proofs.lemmas.List.Splits.{slice_split_first, slice_split_none}
use Rattle.std.proofs.lemmas.List.Sums.{position_or_len_is, fails_before_first}
use Rattle.std.specs.List.{position_or_len}
use Rattle.wave_reports.specs.Pieces.{pieces, cut_last, cut_step}

-- the first piece ends at the first byte of the kind
pub piece_found : (at : ℕ) (xs : List ℕ) (i : ℕ) → position (λ b. b == at) xs ≡ Some i
    → pieces at xs ≡ take i xs ∷ pieces at (drop (i + 1) xs)
piece_found at xs i e =
    let p : ℕ → Bool = λ b. b == at in
    let (inside, passes, before) = position-Some p xs i 0 e in
    let here : position_or_len p xs ≡ i = position_or_len_is p xs i 0 (omega (arith, inside)) before (λ _. passes) in
    subst (λ n. pieces at xs ≡ take n xs ∷ pieces at (drop (n + 1) xs)) here
    (slice_split_first p xs 0 (omega (arith, here, inside)))

chosen_none : (b : Bool) (n : ℕ) → cond b (Some n) None ≡ None → b ≡ false
chosen_none true n e = absurd cc
chosen_none false n e = refl

-- and is all where there is none
pub last_piece : (at : ℕ) (xs : List ℕ) → position (λ b. b == at) xs ≡ None → pieces at xs ≡ xs ∷ []
last_piece at xs e =
    let p : ℕ → Bool = λ b. b == at in
    let none : nat_lt (position_or_len p xs) (length xs) ≡ false = chosen_none _ _ e in
    let past : length xs ≤ position_or_len p xs = grind (arith, nat_tests, none) in
    slice_split_none p xs
    (All-from_get_or (λ b. p b ≡ false) xs 0 (λ k below. fails_before_first p xs k 0 (omega (arith, below, past))))

-- the byte is none of the kind
abbrev IsNot : ℕ → ℕ → Type 0
IsNot at b = b ≢ at

cut_nowhere : (at : ℕ) (xs : List ℕ) → All (IsNot at) xs → cut_last at xs ≡ (None, xs)
unfolding cut_last
cut_nowhere at [] none = refl
cut_nowhere at (x ∷ xs) none =
    ap (λ r. cut_step at x r.0 r.1) (cut_nowhere at xs (All-tail (IsNot at) x xs none))
    ∙ cond-false _ _ _ (ne_eqb x at (All-head (IsNot at) x xs none))

cut_around : (at : ℕ) (xs ys : List ℕ) → All (IsNot at) ys → cut_last at (xs ++ at ∷ ys) ≡ (Some xs, ys)
unfolding cut_last
cut_around at [] ys none = ap (λ r. cut_step at at r.0 r.1) (cut_nowhere at ys none) ∙ cond-true _ _ _ (eq-eqb at at refl)
cut_around at (x ∷ xs) ys none = ap (λ r. cut_step at x r.0 r.1) (cut_around at xs ys none)

-- no byte of a text is of the kind
pub no_cut : (at : ℕ) (xs : List ℕ) → ((k : ℕ) → k < length xs → get_or xs k 0 ≢ at) → cut_last at xs ≡ (None, xs)
no_cut at xs none = cut_nowhere at xs (All-from_get_or (IsNot at) xs 0 none)

-- the last byte of the kind has this place
pub cut_at_last : (at : ℕ) (xs : List ℕ) (i : ℕ) → i < length xs → get_or xs i 0 ≡ at
    → ((k : ℕ) → i + 1 ≤ k → k < length xs → get_or xs k 0 ≢ at)
    → cut_last at xs ≡ (Some (take i xs), drop (i + 1) xs)
cut_at_last at xs i inside here after =
    let around : xs ≡ take i xs ++ at ∷ drop (i + 1) xs =
    sym (take-append-drop i xs) ∙ ap (λ l. take i xs ++ l) (drop_more xs i 0 inside ∙ ap (λ b. b ∷ drop (i + 1) xs) here) in
    let none : All (IsNot at) (drop (i + 1) xs) =
    All-from_get_or (IsNot at) (drop (i + 1) xs) 0
    (λ k below. subst (IsNot at) (sym (get_or-drop (i + 1) xs k 0))
    (after (i + 1 + k) (omega arith) (omega (arith, below, length-drop (i + 1) xs)))) in
    ap (cut_last at) around ∙ cut_around at (take i xs) (drop (i + 1) xs) none
