-- Numbers of cubes: two cubes of one number are equal, and a search among ascending numbers finds each.
use Rattle.std.proofs.Common.{◌≡◌, ◌≢◌, ℕ, zero, suc, ◌+◌, ◌*◌, ◌^◌, ◌<◌, ◌≤◌, true, false, ◌||◌, List, [], ◌∷◌, map, length}
use Rattle.std.proofs.Common.{get_or, drop, slice_get, Some, inl, inr, refl, sym, ◌∙◌, ap, arith, nat_eq}
use Rattle.std.specs.List.{list_any}
use Rattle.std.specs.List.Sorted.{IsBinarySearchResult}
use Rattle.std.specs.Ordering.{nat_cmp}
use Rattle.std.specs.Result.{is_ok}
use Rattle.std.specs.Prelude.{Result, Ok, Err}
use Rattle.std.proofs.Math.Nat.{pow-suc}
use Rattle.std.proofs.Math.Pow.{pow_mono}
use Rattle.std.proofs.lemmas.Bool.{cases_Bool, cases_lt, eq-eqb, ne_eqb}
use Rattle.std.proofs.lemmas.List.{drop_more}
use Rattle.std.proofs.lemmas.List.Sorted.{searched}
use Rattle.std.proofs.lemmas.Option.{get_or_from_slice_get}
use Rattle.trit_cubes.specs.declared.trits.Trit.{Trit}
use Rattle.udp_tables.specs.Edges.{same_cube, with_last}
use Rattle.udp_tables.specs.Pairs.{digit, number_of, AreNumbers}
use Rattle.udp_tables.proofs.PairLemmas.{same_cube-is, same_cube-self}

pub digit-some : (t : Trit) → 1 ≤ digit t
digit-some t = grind arith

pub digit-lt : (t : Trit) → digit t < 4
digit-lt t = grind arith

digit-is : (s t : Trit) → digit s ≡ digit t → s ≡ t
digit-is s t e = grind arith

-- two cubes of one number are equal
number-is : (c d : List Trit) → number_of c ≡ number_of d → c ≡ d
number-is [] [] e = refl
number-is [] (t ∷ d) e = absurd (omega (arith, e, digit-some t))
number-is (s ∷ c) [] e = absurd (omega (arith, e, digit-some s))
number-is (s ∷ c) (t ∷ d) e =
    let first : digit s ≡ digit t = omega (arith, e, digit-some s, digit-some t, digit-lt s, digit-lt t) in
    let rest : number_of c ≡ number_of d = omega (arith, e, first) in
    λ i. digit-is s t first i ∷ number-is c d rest i

number-same : (c d : List Trit) → nat_eq (number_of c) (number_of d) ≡ same_cube c d
number-same c d =
    elim (cases_Bool (same_cube c d)) [
      | inl e ↦ eq-eqb (number_of c) (number_of d) (ap number_of (same_cube-is c d e)) ∙ sym e
      | inr e ↦
          ne_eqb (number_of c) (number_of d)
          (λ g. let clash : false ≡ true = sym e ∙ ap (same_cube c) (sym (number-is c d g)) ∙ same_cube-self c in absurd cc)
          ∙ sym e
    ]

number-any : (d : List Trit) (cubes : List (List Trit))
    → list_any (nat_eq (number_of d)) (map number_of cubes) ≡ list_any (same_cube d) cubes
number-any d [] = refl
number-any d (c ∷ cubes) = λ i. number-same d c i || number-any d cubes i

-- the other cube of a pair by its number
pub paired-number :
    (other : Trit) (cubes : List (List Trit)) (numbers : List ℕ) (c : List Trit)
    → AreNumbers cubes numbers → list_any (nat_eq (number_of (with_last other c))) numbers ≡ list_any
    (same_cube (with_last other c)) cubes
paired-number other cubes numbers c are = are.same (number_of (with_last other c)) ∙ number-any (with_last other c) cubes

-- numbers fit a word
quad : (n : ℕ) → 2 ^ suc (suc n) ≡ 4 * 2 ^ n
quad n = omega (arith, pow-suc 2 (suc n), pow-suc 2 n)

number-lt : (c : List Trit) → number_of c < 2 ^ (2 * length c)
number-lt [] = omega arith
number-lt (t ∷ c) =
    let more : 2 * length (t ∷ c) ≡ suc (suc (2 * length c)) = omega arith in
    let wide : 2 ^ (2 * length (t ∷ c)) ≡ 4 * 2 ^ (2 * length c) = ap (λ n. 2 ^ n) more ∙ quad (2 * length c) in
    omega (arith, wide, number-lt c, digit-lt t)

pub number-below : (c : List Trit) → length c ≤ 10 → number_of c < 1048576
number-below c short =
    let twice : 2 * length c ≤ 20 = omega arith in
    let most : 2 ^ (2 * length c) ≤ 1048576 = pow_mono twice in
    omega (arith, number-lt c, most)

-- a cube with another last place
pub length-with : (t : Trit) (c : List Trit) → length (with_last t c) ≡ length c
length-with t [] = refl
length-with t (x ∷ []) = refl
length-with t (x ∷ y ∷ c) = ap suc (length-with t (y ∷ c))

get-with : (t : Trit) (c : List Trit) (i : ℕ) (x : Trit) → i + 1 < length c → slice_get c i ≡ Some x
    → slice_get (with_last t c) i ≡ Some x
get-with t [] i x l e = absurd (omega arith)
get-with t (y ∷ []) i x l e = absurd (omega arith)
get-with t (y ∷ z ∷ c) zero x l e = e
get-with t (y ∷ z ∷ c) (suc i) x l e = get-with t (z ∷ c) i x (omega arith) e

drop-last : (t : Trit) (c : List Trit) (k : ℕ) → length c ≡ k + 1 → drop k (with_last t c) ≡ t ∷ []
drop-last t [] k e = absurd (omega arith)
drop-last t (x ∷ []) zero e = refl
drop-last t (x ∷ []) (suc k) e = absurd (omega arith)
drop-last t (x ∷ y ∷ c) zero e = absurd (omega arith)
drop-last t (x ∷ y ∷ c) (suc k) e = drop-last t (y ∷ c) k (omega arith)

pub with-own : (t : Trit) (c : List Trit) (k : ℕ) → length c ≡ k + 1 → slice_get c k ≡ Some t → with_last t c ≡ c
with-own t [] k e f = absurd (omega arith)
with-own t (x ∷ []) zero e f = let same : x ≡ t = cc in ap (λ y. y ∷ []) (sym same)
with-own t (x ∷ []) (suc k) e f = absurd (omega arith)
with-own t (x ∷ y ∷ c) zero e f = absurd (omega arith)
with-own t (x ∷ y ∷ c) (suc k) e f = ap (λ ys. x ∷ ys) (with-own t (y ∷ c) k (omega arith) f)

-- the number from the last place on
pub number-last : (t : Trit) (c : List Trit) (k : ℕ) → length c ≡ k + 1 → digit t ≡ number_of (drop k (with_last t c))
number-last t c k e = let one : digit t ≡ number_of (t ∷ []) = omega arith in one ∙ ap number_of (sym (drop-last t c k e))

pub number-more :
    (t : Trit) (c : List Trit) (i : ℕ) (x : Trit)
    → i + 1 < length c → slice_get c i ≡ Some x
    → digit x + 4 * number_of (drop (i + 1) (with_last t c)) ≡ number_of (drop i (with_last t c))
number-more t c i x l e =
    let own : get_or (with_last t c) i x ≡ x = get_or_from_slice_get (with_last t c) i x x (get-with t c i x l e) in
    let within : i < length (with_last t c) = omega (arith, l, length-with t c) in
    ap number_of (sym (drop_more (with_last t c) i x within ∙ ap (λ y. y ∷ drop (i + 1) (with_last t c)) own))

-- a search among ascending numbers
at-any : (x : ℕ) (xs : List ℕ) (i : ℕ) → i < length xs → get_or xs i 0 ≡ x → list_any (nat_eq x) xs ≡ true
at-any x [] i l e = absurd (omega arith)
at-any x (y ∷ xs) zero l e = ap (λ b. b || list_any (nat_eq x) xs) (eq-eqb x y (sym e))
at-any x (y ∷ xs) (suc i) l e =
    elim (cases_Bool (nat_eq x y)) [
      | inl h ↦ ap (λ b. b || list_any (nat_eq x) xs) h
      | inr h ↦ ap (λ b. b || list_any (nat_eq x) xs) h ∙ at-any x xs i (omega arith) e
    ]

none-any : (x : ℕ) (xs : List ℕ) → ((k : ℕ) → k < length xs → get_or xs k 0 ≢ x) → list_any (nat_eq x) xs ≡ false
none-any x [] h = refl
none-any x (y ∷ xs) h =
    ap (λ b. b || list_any (nat_eq x) xs) (ne_eqb x y (λ e. h zero (omega arith) (sym e)))
    ∙ none-any x xs (λ k l. h (suc k) (omega arith))

pub searched-any :
    (xs : List ℕ) (x : ℕ) (r : Result ℕ ℕ)
    → IsBinarySearchResult (λ y. nat_cmp y x) xs r → ((i j : ℕ) → i ≤ j → j < length xs → get_or xs i 0 ≤ get_or xs j 0)
    → is_ok r ≡ list_any (nat_eq x) xs
searched-any xs x (Ok i) s up = let h = searched xs x (Ok i) s up in sym (at-any x xs i h.0 h.1)
searched-any xs x (Err i) s up =
    let h = searched xs x (Err i) s up in
    sym (none-any x xs
    (λ k l e.
    elim (cases_lt k i) [
      | inl below ↦ let less : get_or xs k 0 < x = h.1 k below in omega (arith, less, e)
      | inr above ↦ let more : x < get_or xs k 0 = h.2 k above l in omega (arith, more, e)
    ]))
