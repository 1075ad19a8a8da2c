-- Bytes of one kind and of another, and the digits of numbers.
use Rattle.std.proofs.Common.{◌≡◌, ℕ, ◌+◌, ◌-◌, ◌*◌, ◌^◌, ◌<◌, ◌≤◌, Bool, true, false, not, ◌&&◌, nat_eq, nat_le, List, [], ◌∷◌}
use Rattle.std.proofs.Common.{◌++◌, length, inl, inr, Some, refl, sym, ap, ◌∙◌, arith, subst, decimal}
use Rattle.std.proofs.lemmas.Bool.{and_parts, and_from, eqb-true, cases_Bool}
use Rattle.std.proofs.lemmas.Bool.Decides.{nat_tests}
use Rattle.std.proofs.lemmas.Fmt.{decimal_is_IsNumeral, length-decimal-le}
use Rattle.std.proofs.lemmas.Str.Parse.{digit_from_value}
use Rattle.std.specs.Char.{is_ascii_digit, digit_value}
use Rattle.std.specs.Str.Parse.{AllDigits, digits_value_after}
use Rattle.std.specs.List.{list_all, list_any, prefix_len}
use Rattle.lexer.specs.Numbers.{number_after, number_of}

pub unlike : (test : ℕ → Bool) (c b : ℕ) → not (test c) ≡ true → test b ≡ true → nat_eq c b ≡ false
unlike test c b h e = elim (cases_Bool (nat_eq c b)) [
  | inl t ↦ (let same : test c ≡ true = subst (λ x. test x ≡ true) (sym (eqb-true c b t)) e
      in let no : not (test c) ≡ false = ap not same in absurd (cc (h, no)))
  | inr f ↦ f
]

-- a byte that passes a test is none of those that do not
pub none_of : (test : ℕ → Bool) (cs : List ℕ) (b : ℕ) → list_all (λ c. not (test c)) cs ≡ true → test b ≡ true
    → list_any (λ c. nat_eq c b) cs ≡ false
none_of test [] b h e = refl
none_of test (c ∷ cs) b h e =
    let p = and_parts (not (test c)) (list_all (λ c. not (test c)) cs) h in
    rw (unlike test c b p.0 e) (none_of test cs b p.1 e)

-- a run of bytes that pass ends where none of them follows
pub run_ends : (test : ℕ → Bool) (w r : List ℕ) → list_all test w ≡ true → prefix_len test r ≡ 0
    → prefix_len test (w ++ r) ≡ length w
run_ends test [] r h e = e
run_ends test (c ∷ w) r h e =
    let p = and_parts (test c) (list_all test w) h in
    let i : prefix_len test (w ++ r) ≡ length w = run_ends test w r p.1 e in
    rw p.0 (omega arith)

-- digits, at most 15
pub record AreFew (x : List ℕ) : Type 0 where
  pub digits : list_all is_ascii_digit x ≡ true
  pub few : length x ≤ 15

pub short : (n : ℕ) → n ≤ 15 → nat_le n 15 ≡ true
short n h = grind (arith, nat_tests)

pub all_digits : (x : List ℕ) → AllDigits 10 x → list_all is_ascii_digit x ≡ true
all_digits [] h = refl
all_digits (c ∷ x) h =
    let range = digit_from_value c h.0 in
    let digit : is_ascii_digit c ≡ true = grind (arith, nat_tests, range) in
    and_from (is_ascii_digit c) (list_all is_ascii_digit x) digit (all_digits x h.1)

-- a number of at most 15 digits
pub below_word : (n : ℕ) → n < 10 ^ 15 → n < 2 ^ 64
below_word n h = omega (arith, h)

pub few : (n : ℕ) → n < 10 ^ 15 → AreFew (decimal n)
few n h = record {
  digits = all_digits (decimal n) (decimal_is_IsNumeral n (below_word n h)).0.1;
  few = length-decimal-le 15 n (omega arith) h (below_word n h);
}

same_value : (n : ℕ) (x : List ℕ) → AllDigits 10 x → number_after n x ≡ digits_value_after 10 n x
same_value n [] h = refl
same_value n (c ∷ x) h =
    let range = digit_from_value c h.0 in
    let value : c - 48 ≡ digit_value c = grind (arith, nat_tests, range) in
    ap (λ k. number_after (n * 10 + k) x) value ∙ same_value (n * 10 + digit_value c) x h.1

is_number_of : (x : List ℕ) (n : ℕ) → AreFew x → 0 < length x → number_after 0 x ≡ n → number_of x ≡ Some n
is_number_of [] n f some e = absurd (omega arith)
is_number_of (b ∷ w) n f some e =
    let digits : (is_ascii_digit b && list_all is_ascii_digit w) ≡ true = f.digits in
    rw (digits, short (length (b ∷ w)) f.few) (ap Some e)

-- a number is what its digits spell
pub number_is : (n : ℕ) → n < 10 ^ 15 → number_of (decimal n) ≡ Some n
number_is n h =
    let d = decimal_is_IsNumeral n (below_word n h) in
    is_number_of (decimal n) n (few n h) d.0.0 (same_value 0 (decimal n) d.0.1 ∙ d.1)
