-- When the names of numbered parts are the same, and what the words of the grammar take of names and numbers.
use Rattle.std.proofs.Common.{◌≡◌, ℕ, zero, suc, ◌+◌, ◌^◌, ◌<◌, Bool, true, false, not, nat_eq, List, [], ◌∷◌, ◌++◌, length, inl}
use Rattle.std.proofs.Common.{inr, Option, Some, refl, sym, ap, ◌∙◌, arith, subst, codes, decimal}
use Rattle.std.specs.List.{IsDistinct, list_all, list_any, position}
use Rattle.std.specs.Str.{str_eq_ignore_ascii_case, str_to_ascii_lowercase}
use Rattle.std.specs.Char.{is_ascii_alphabetic, is_ascii_alphanumeric, is_ascii_digit, to_ascii_lowercase}
use Rattle.std.proofs.lemmas.Bool.{and_parts, eqb-true, cases_Bool}
use Rattle.std.proofs.lemmas.Bool.Decides.{nat_tests}
use Rattle.std.proofs.lemmas.Slice.Eq.{bytes_eq-Decides}
use Rattle.std.proofs.lemmas.Fmt.{decimal_is_IsNumeral, decimal_injective}
use Rattle.std.proofs.lemmas.Iterator.Adapters.{position_from-zero}
use Rattle.grammar_reader.specs.declared.refusal.Refusal.{Refusal}
use Rattle.grammar_reader.specs.declared.refusal.Refusal.TheVariants.{Syntax}
use Rattle.grammar_reader.specs.Words.{allowed_by}
use Rattle.vhdl_tokens.specs.Kept.{is_plain}
use Rattle.vhdl_tokens.specs.Spelling.{is_same}
use Rattle.vhdl_grammar.specs.VhdlRules.{expect, expect_all, expect_where, is_among, new_name, known, this_name, place_among}
use Rattle.vhdl_grammar.specs.VhdlRules.{this_number, a_number, a_time, numbered_where}
use Rattle.vhdl_grammar.specs.WellFormed.{AreApart, IsNumber, IsCount}
use Rattle.grammar_reader.proofs.Bytes.{all_digits, number_is}
use Rattle.grammar_reader.proofs.Derivations.{Reads, gives, token, in_turn}
use Rattle.grammar_reader.proofs.ItemPlaces.{at_place, found_behind}
use Rattle.written_entities.proofs.Names.{IsNamed, other_second, part_named, unlike_scored, same_self, case_turned, same_letters}
use Rattle.written_entities.proofs.Names.{same_name}
use Rattle.written_entities.proofs.Tests.{equal_self, if_true}

-- Numbered parts.

low_digit : (c : ℕ) → is_ascii_digit c ≡ true → to_ascii_lowercase c ≡ c
low_digit c h = grind (arith, nat_tests)

low_digits : (x : List ℕ) → list_all is_ascii_digit x ≡ true → str_to_ascii_lowercase x ≡ x
low_digits [] h = refl
low_digits (c ∷ x) h =
    let p = and_parts (is_ascii_digit c) (list_all is_ascii_digit x) h in
    ap (λ (d : ℕ). d ∷ str_to_ascii_lowercase x) (low_digit c p.0) ∙ ap (λ (l : List ℕ). c ∷ l) (low_digits x p.1)

low_decimal : (n : ℕ) → n < 2 ^ 64 → str_to_ascii_lowercase (decimal n) ≡ decimal n
low_decimal n h = low_digits (decimal n) (all_digits (decimal n) (decimal_is_IsNumeral n h).0.1)

tails : {A : Type 0} (a b c d : A) (x y : List A) → a ∷ b ∷ x ≡ c ∷ d ∷ y → x ≡ y
tails a b c d x y e = cc

-- parts of other numbers have other names
unlike_parts : (b m n : ℕ) → is_ascii_alphabetic b ≡ true → m < 2 ^ 64 → n < 2 ^ 64 → (m ≡ n → ⊥)
    → is_same (b ∷ 95 ∷ decimal m) (b ∷ 95 ∷ decimal n) ≡ false
unlike_parts b m n l h k other = same_letters b (95 ∷ decimal m) (b ∷ 95 ∷ decimal n) l
    ∙ by (str_eq_ignore_ascii_case (b ∷ 95 ∷ decimal m) (b ∷ 95 ∷ decimal n)) refl
  where
    by : (t : Bool) → str_eq_ignore_ascii_case (b ∷ 95 ∷ decimal m) (b ∷ 95 ∷ decimal n) ≡ t → t ≡ false
    by true e =
        let same : str_to_ascii_lowercase (b ∷ 95 ∷ decimal m) ≡ str_to_ascii_lowercase (b ∷ 95 ∷ decimal n) =
        (bytes_eq-Decides (str_to_ascii_lowercase (b ∷ 95 ∷ decimal m)) (str_to_ascii_lowercase (b ∷ 95 ∷ decimal n))).0 e in
        let digits : str_to_ascii_lowercase (decimal m) ≡ str_to_ascii_lowercase (decimal n) =
        tails (to_ascii_lowercase b) 95 (to_ascii_lowercase b) 95 (str_to_ascii_lowercase (decimal m))
        (str_to_ascii_lowercase (decimal n)) same in
        absurd (other (decimal_injective m n h k (sym (low_decimal m h) ∙ digits ∙ low_decimal n k)))
    by false e = refl

-- the place of a numbered name among those up to a number
pub place_found : (b n i : ℕ) → is_ascii_alphabetic b ≡ true → i < n → n < 2 ^ 64
    → place_among (b ∷ 95 ∷ []) n (b ∷ 95 ∷ decimal (i + 1)) ≡ Some i
place_found b zero i l h k = absurd (omega (arith, h))
place_found b (suc n) i l h k = elim (cases_Bool (nat_eq i n)) [
  | inl t ↦ (let same : i ≡ n = eqb-true i n t in
      let next : i + 1 ≡ suc n = omega (arith, same) in
      let its : is_same (b ∷ 95 ∷ decimal (i + 1)) (b ∷ 95 ∷ decimal (suc n)) ≡ true =
      subst (λ (m : ℕ). is_same (b ∷ 95 ∷ decimal (i + 1)) (b ∷ 95 ∷ decimal m) ≡ true) next
      (same_self (b ∷ 95 ∷ decimal (i + 1))) in
      rw its (ap (λ (m : ℕ). Some m) (sym same)))
  | inr f ↦ (let less : i < n = grind (arith, nat_tests, h, f) in
      let other : (i + 1 ≡ suc n → ⊥) = (λ e. absurd (omega (arith, e, less))) in
      rw (unlike_parts b (i + 1) (suc n) l (omega (arith, h, k)) k other) (place_found b n i l less (omega (arith, k))))
]

plain_other : (c : ℕ) → is_ascii_alphanumeric c ≡ true → nat_eq 95 (to_ascii_lowercase c) ≡ false
plain_other c h = grind (arith, nat_tests)

-- a name without `_` is none of a numbered part
plain_second : (x : List ℕ) → is_plain x ≡ true → other_second x ≡ true
plain_second [] h = absurd cc
plain_second (a ∷ []) h = refl
plain_second (a ∷ c ∷ x) h =
    let p = and_parts (is_ascii_alphabetic a) (list_all is_ascii_alphanumeric (c ∷ x)) h in
    let q = and_parts (is_ascii_alphanumeric c) (list_all is_ascii_alphanumeric x) p.1 in
    ap not (plain_other c q.0)

pub unlike_plain : (b : ℕ) (ds x : List ℕ) → is_ascii_alphabetic b ≡ true → is_plain x ≡ true → is_same (b ∷ 95 ∷ ds) x ≡ false
unlike_plain b ds x l h = same_letters b (95 ∷ ds) x l ∙ unlike_scored b ds x (plain_second x h)

-- What the words of the grammar take.

pub expected : {text : List ℕ} {s : List (List ℕ)} → Reads (expect text) (text ∷ s) tt s
expected {text = text} = token (rw (same_self text) refl)

-- several tokens, one behind the other
pub two_expected : {a b : List ℕ} {s : List (List ℕ)} → Reads (expect_all (a ∷ b ∷ [])) (a ∷ b ∷ s) tt s
two_expected = in_turn expected (in_turn expected gives)

pub three_expected : {a b c : List ℕ} {s : List (List ℕ)} → Reads (expect_all (a ∷ b ∷ c ∷ [])) (a ∷ b ∷ c ∷ s) tt s
three_expected = in_turn expected (in_turn expected (in_turn expected gives))

pub four_expected : {a b c d : List ℕ} {s : List (List ℕ)} → Reads (expect_all (a ∷ b ∷ c ∷ d ∷ [])) (a ∷ b ∷ c ∷ d ∷ s) tt s
four_expected = in_turn expected (in_turn expected (in_turn expected (in_turn expected gives)))

pub five_expected : {a b c d e : List ℕ} {s : List (List ℕ)}
    → Reads (expect_all (a ∷ b ∷ c ∷ d ∷ e ∷ [])) (a ∷ b ∷ c ∷ d ∷ e ∷ s) tt s
five_expected = in_turn expected (in_turn expected (in_turn expected (in_turn expected (in_turn expected gives))))

pub six_expected : {a b c d e f : List ℕ} {s : List (List ℕ)}
    → Reads (expect_all (a ∷ b ∷ c ∷ d ∷ e ∷ f ∷ [])) (a ∷ b ∷ c ∷ d ∷ e ∷ f ∷ s) tt s
six_expected = in_turn expected (in_turn expected
    (in_turn expected (in_turn expected (in_turn expected (in_turn expected gives)))))

pub seven_expected : {a b c d e f g : List ℕ} {s : List (List ℕ)}
    → Reads (expect_all (a ∷ b ∷ c ∷ d ∷ e ∷ f ∷ g ∷ [])) (a ∷ b ∷ c ∷ d ∷ e ∷ f ∷ g ∷ s) tt s
seven_expected = in_turn expected
    (in_turn expected (in_turn expected (in_turn expected (in_turn expected (in_turn expected (in_turn expected gives))))))

pub eight_expected : {a b c d e f g h : List ℕ} {s : List (List ℕ)}
    → Reads (expect_all (a ∷ b ∷ c ∷ d ∷ e ∷ f ∷ g ∷ h ∷ [])) (a ∷ b ∷ c ∷ d ∷ e ∷ f ∷ g ∷ h ∷ s) tt s
eight_expected = in_turn expected
    (in_turn expected (in_turn expected
    (in_turn expected (in_turn expected (in_turn expected (in_turn expected (in_turn expected gives)))))))

pub expected_where : (holds : Bool) (k : Refusal) {text : List ℕ} {s : List (List ℕ)} → holds ≡ true
    → Reads (expect_where holds k text) (text ∷ s) tt s
expected_where holds k {text = text} e = token (rw (same_self text, e) refl)

pub newly_named : (names : List (List ℕ)) {x : List ℕ} {s : List (List ℕ)} → IsNamed x → is_among names x ≡ false
    → Reads (new_name names) (x ∷ s) x s
newly_named names {x = x} n e = token (rw (n.named, e) refl)

pub known_as : {A : Type 0} (find : List ℕ → Option A) {x : List ℕ} {a : A} {s : List (List ℕ)} → IsNamed x → find x ≡ Some a
    → Reads (known find) (x ∷ s) a s
known_as find {x = x} n e = token (rw (n.named, e) refl)

pub so_named : (name : Option (List ℕ)) {x : List ℕ} {s : List (List ℕ)} → IsNamed x → name ≡ Some x
    → Reads (this_name name) (x ∷ s) tt s
so_named name {x = x} n e = token (rw (n.named, e, same_self x) refl)

pub number_read : (n : ℕ) {s : List (List ℕ)} → IsNumber n → Reads a_number (decimal n ∷ s) n s
unfolding a_number
number_read n h = token (ap (allowed_by Syntax) (number_is n h))

pub time_read : (n : ℕ) {s : List (List ℕ)} → IsNumber n → Reads a_time (decimal n ∷ codes "ps" ∷ s) n s
unfolding a_time
time_read n h = in_turn (number_read n h) (in_turn expected gives)

pub this_number_read : (n : ℕ) {s : List (List ℕ)} → IsNumber n → Reads (this_number n) (decimal n ∷ s) tt s
this_number_read n h = token (rw (number_is n h, equal_self n) refl)

-- Names of which none stands twice.

-- a name among others is none of those before it
pub is_new : (before : List (List ℕ)) (x : List ℕ) (after : List (List ℕ)) → IsNamed x → AreApart (before ++ x ∷ after)
    → is_among before x ≡ false
unfolding IsDistinct
is_new [] x after n h = refl
is_new (y ∷ before) x after n h =
    let other : is_same x y ≡ false = same_name x y n ∙ case_turned x y
    ∙ at_place (λ z. str_eq_ignore_ascii_case y z ≡ false) before x after h.0 in
    rw other (is_new before x after n h.1)

-- the first item that passes a test
pub first_place : {A : Type 0} (test : A → Bool) (before : List A) (x : A) (after : List A) → list_any test before ≡ false
    → test x ≡ true → position test (before ++ x ∷ after) ≡ Some (length before)
first_place test before x after none here =
    let place : 0 + length before ≡ length before = omega arith in
    position_from-zero test (before ++ x ∷ after) ∙ found_behind test 0 before x after none here ∙ ap (λ (n : ℕ). Some n) place

-- Reading.

named_if : (b : Bool) (letter n : ℕ) → b ≡ true → numbered_where b (letter ∷ 95 ∷ []) n ≡ Some (letter ∷ 95 ∷ decimal n)
named_if b letter n e = if_true b _ _ e

pub part_read : (b : Bool) (letter n : ℕ) {s : List (List ℕ)} → is_ascii_alphabetic letter ≡ true → IsCount n → b ≡ true
    → Reads (this_name (numbered_where b (letter ∷ 95 ∷ []) n)) ((letter ∷ 95 ∷ decimal n) ∷ s) tt s
part_read b letter n l h e = so_named (numbered_where b (letter ∷ 95 ∷ []) n) (part_named letter n l h) (named_if b letter n e)
