-- Names, words and numbers are tokens of VHDL text where no byte of a name follows.
use Rattle.std.proofs.Common.{◌≡◌, ℕ, suc, ◌^◌, ◌<◌, ◌≤◌, Bool, true, false, ◌==◌, nat_eq, nat_le, if◌then◌else◌, List, [], ◌∷◌}
use Rattle.std.proofs.Common.{◌++◌, length, inl, inr, refl, sym, ◌∙◌, arith, subst, codes, decimal}
use Rattle.std.proofs.lemmas.Bool.{and_parts, cases_Bool}
use Rattle.std.proofs.lemmas.Bool.Decides.{nat_tests}
use Rattle.std.proofs.lemmas.Fmt.{decimal_is_IsNumeral}
use Rattle.std.specs.Char.{is_ascii_alphabetic, is_ascii_digit, to_ascii_lowercase}
use Rattle.std.specs.List.{list_all, prefix_len}
use Rattle.vhdl_tokens.specs.Words.{is_vhdl_word, is_reserved, is_used, vhdl_words, used_words}
use Rattle.vhdl_tokens.specs.Tokens.{is_blank, is_mark, is_name_byte, is_name, lexis, word_length, number_length}
use Rattle.vhdl_tokens.specs.Tokens.{separator_length, token_length}
use Rattle.vhdl_tokens.specs.Spelling.{is_same}
use Rattle.vhdl_grammar.specs.WellFormed.{is_spelled_as_name, IsNumber}
use Rattle.grammar_reader.proofs.Bytes.{unlike, none_of, run_ends, AreFew, short, below_word, few}
use Rattle.grammar_reader.proofs.Passages.{Barred}
use Rattle.grammar_reader.proofs.Spelling.{SpellsBy, one_token}
use Rattle.written_entities.proofs.Names.{IsNamed, digit_in_name, part_named, unlike_word}
use Rattle.written_entities.proofs.Spelling.{Spells, unmarked}

-- no byte of a name follows, or nothing
abbrev pub Ends : List ℕ → Type 0
Ends [] = Unit {0}
Ends (c ∷ r) = is_name_byte c ≡ false

-- Bytes of one kind and of another.

flipped : (b c : ℕ) → (b == c) ≡ nat_eq c b
flipped b c = grind (arith, nat_tests)

-- where no byte of a name follows there is none that passes
none_follow : (test : ℕ → Bool) → ((c : ℕ) → is_name_byte c ≡ false → test c ≡ false) → (r : List ℕ) → Ends r
    → prefix_len test r ≡ 0
none_follow test n [] e = refl
none_follow test n (c ∷ r) e = rw (n c e) refl

no_separator : (b : ℕ) (s : List ℕ) → is_blank b ≡ false → nat_eq 45 b ≡ false → separator_length (b ∷ s) ≡ 0
no_separator b s e f = rw (e, f) refl

-- Words.

word_by : (mark tick quote letter : Bool) (ticked string word other n : ℕ) → mark ≡ false → tick ≡ false → quote ≡ false
    → letter ≡ true → word ≡ n
    → (if mark then 1 else (if tick then ticked else (if quote then string else (if letter then word else other)))) ≡ n
word_by mark tick quote letter ticked string word other n e f g h k = rw (e, f, g, h) k

pub word_token : (t : Bool) (b : ℕ) (w r : List ℕ) → is_ascii_alphabetic b ≡ true → list_all is_name_byte w ≡ true → Ends r
    → token_length t (b ∷ w ++ r) ≡ suc (length w)
word_token t b w r letter others e =
    let run : prefix_len is_name_byte (w ++ r) ≡ length w =
    run_ends is_name_byte w r others (none_follow is_name_byte (λ c h. h) r e) in
    let long : word_length (b ∷ w ++ r) ≡ suc (length w) = omega (arith, run) in
    word_by (is_mark b) (b == 39) (b == 34) (is_ascii_alphabetic b) _ _ (word_length (b ∷ w ++ r)) _ (suc (length w))
    (none_of is_ascii_alphabetic (codes "(),;.") b refl letter)
    (flipped b 39 ∙ unlike is_ascii_alphabetic 39 b refl letter)
    (flipped b 34 ∙ unlike is_ascii_alphabetic 34 b refl letter)
    letter long

-- what begins with a letter is no separator
pub word_alone : (b : ℕ) (s : List ℕ) → is_ascii_alphabetic b ≡ true → separator_length (b ∷ s) ≡ 0
word_alone b s letter = no_separator b s (none_of is_ascii_alphabetic (codes " \t\n") b refl letter)
    (unlike is_ascii_alphabetic 45 b refl letter)

-- letters, digits and `_` behind a letter are one token, where it is not barred
pub letters : {barred : Barred} {t : Bool} (x : List ℕ) → is_spelled_as_name x ≡ true → ((r : List ℕ) → barred t x r ≡ false)
    → SpellsBy lexis barred Ends t x (λ s. x ∷ s) (is_name x)
letters [] h free = absurd cc
letters {t = t} (b ∷ w) h free =
    let p = and_parts (is_ascii_alphabetic b) (list_all is_name_byte w) h in
    one_token b w (record {
      alone = λ r e. word_alone b (w ++ r) p.0;
      size = λ r e. word_token t b w r p.0 p.1 e;
      free =
          free;
      after = refl;
    })

-- a word that marks no section
pub word : {t : Bool} (x : List ℕ) → is_spelled_as_name x ≡ true → is_same x (codes "use") ≡ false
    → is_same x (codes "end") ≡ false → Spells Ends t x (λ s. x ∷ s) (is_name x)
word {t = t} x h e f = letters x h (λ r. unmarked t x r e f)

-- Names.

first_word : is_vhdl_word (codes "use") ≡ true
unfolding is_reserved is_used vhdl_words used_words
first_word = refl

last_word : is_vhdl_word (codes "end") ≡ true
unfolding is_reserved is_used vhdl_words used_words
last_word = refl

-- a name is one token
pub name : {t : Bool} (x : List ℕ) → IsNamed x → Spells Ends t x (λ s. x ∷ s) true
name {t = t} x n = subst (λ (u : Bool). Spells Ends t x (λ s. x ∷ s) u) n.named
    (word x n.identifier (unlike_word x (codes "use") n first_word) (unlike_word x (codes "end") n last_word))

pub part : {t : Bool} (b n : ℕ) → is_ascii_alphabetic b ≡ true → n < 2 ^ 64
    → Spells Ends t (b ∷ 95 ∷ decimal n) (λ s. (b ∷ 95 ∷ decimal n) ∷ s) true
part b n l h = name (b ∷ 95 ∷ decimal n) (part_named b n l h)

-- Numbers.

digit_by : (mark tick quote letter digit : Bool) (ticked string word number sign n : ℕ) → mark ≡ false → tick ≡ false
    → quote ≡ false → letter ≡ false → digit ≡ true → number ≡ n
    → (if mark then 1 else (if tick then ticked
    else (if quote then string else (if letter then word else (if digit then number else sign))))) ≡ n
digit_by mark tick quote letter digit ticked string word number sign n e f g h i k = rw (e, f, g, h, i) k

number_by : (fits : Bool) (run n : ℕ) → fits ≡ true → run ≡ n → (if fits then run else 0) ≡ n
number_by fits run n e f = rw e f

no_letter : (b : ℕ) → is_ascii_digit b ≡ true → is_ascii_alphabetic b ≡ false
no_letter b e = grind (arith, nat_tests)

no_digit : (c : ℕ) → is_name_byte c ≡ false → is_ascii_digit c ≡ false
no_digit c e = elim (cases_Bool (is_ascii_digit c)) [
  | inl t ↦ absurd (cc (digit_in_name c t, e))
  | inr f ↦ f
]

number_token : (t : Bool) (b : ℕ) (w r : List ℕ) → AreFew (b ∷ w) → Ends r → token_length t (b ∷ w ++ r) ≡ suc (length w)
number_token t b w r f e =
    let p = and_parts (is_ascii_digit b) (list_all is_ascii_digit w) f.digits in
    let run : prefix_len is_ascii_digit (b ∷ w ++ r) ≡ suc (length w) =
    run_ends is_ascii_digit (b ∷ w) r f.digits (none_follow is_ascii_digit no_digit r e) in
    let fits : nat_le (prefix_len is_ascii_digit (b ∷ w ++ r)) 15 ≡ true =
    short (prefix_len is_ascii_digit (b ∷ w ++ r)) (subst (λ n. n ≤ 15) (sym run) f.few) in
    digit_by (is_mark b) (b == 39) (b == 34) (is_ascii_alphabetic b) (is_ascii_digit b) _ _ _ (number_length (b ∷ w ++ r)) _
    (suc (length w))
    (none_of is_ascii_digit (codes "(),;.") b refl p.0)
    (flipped b 39 ∙ unlike is_ascii_digit 39 b refl p.0)
    (flipped b 34 ∙ unlike is_ascii_digit 34 b refl p.0)
    (no_letter b p.0) p.0
    (number_by (nat_le (prefix_len is_ascii_digit (b ∷ w ++ r)) 15) (prefix_len is_ascii_digit (b ∷ w ++ r))
    (suc (length w)) fits run)

other_byte : (b c : ℕ) → is_ascii_digit b ≡ true → is_ascii_digit c ≡ false → nat_eq (to_ascii_lowercase b) c ≡ false
other_byte b c e f = grind (arith, nat_tests)

-- a number is no word
unlike_letters : (b c : ℕ) (w x : List ℕ) → is_ascii_digit b ≡ true → is_ascii_digit (to_ascii_lowercase c) ≡ false
    → is_same (b ∷ w) (c ∷ x) ≡ false
unlike_letters b c w x e f = rw (flipped b 39 ∙ unlike is_ascii_digit 39 b refl e, other_byte b (to_ascii_lowercase c) e f) refl

no_name : (b : ℕ) (w : List ℕ) → is_ascii_digit b ≡ true → is_name (b ∷ w) ≡ false
no_name b w e = rw (no_letter b e) refl

-- what begins with a digit is no separator
digits_alone : (b : ℕ) (s : List ℕ) → is_ascii_digit b ≡ true → separator_length (b ∷ s) ≡ 0
digits_alone b s digit = no_separator b s (none_of is_ascii_digit (codes " \t\n") b refl digit)
    (unlike is_ascii_digit 45 b refl digit)

few_digits : {t : Bool} (x : List ℕ) → AreFew x → 0 < length x → Spells Ends t x (λ s. x ∷ s) false
few_digits [] f some = absurd (omega arith)
few_digits {t = t} (b ∷ w) f some =
    let p = and_parts (is_ascii_digit b) (list_all is_ascii_digit w) f.digits in
    one_token b w (record {
      alone = λ r e. digits_alone b (w ++ r) p.0;
      size = λ r e. number_token t b w r f e;
      free =
          λ r. unmarked t (b ∷ w) r (unlike_letters b 117 w (codes "se") p.0 refl) (unlike_letters b 101 w (codes "nd") p.0 refl);
      after = no_name b w p.0;
    })

-- a number is one token
pub number : {t : Bool} (n : ℕ) → IsNumber n → Spells Ends t (decimal n) (λ s. decimal n ∷ s) false
number n h = few_digits (decimal n) (few n h) (decimal_is_IsNumeral n (below_word n h)).0.0

pub true_word : {t : Bool} → Spells Ends t (codes "true") (λ s. codes "true" ∷ s) false
unfolding is_reserved is_used vhdl_words used_words
true_word = word (codes "true") refl refl refl
