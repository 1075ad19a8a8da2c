-- Names and numbers are tokens where a blank or a mark follows.
use Rattle.std.proofs.Common.{◌≡◌, ℕ, suc, ◌<◌, ◌≤◌, Bool, true, false, not, ◌||◌, ◌==◌, nat_eq, nat_le, if◌then◌else◌}
use Rattle.std.proofs.Common.{List, [], ◌∷◌, ◌++◌, length, inl, inr, refl, sym, ap, arith, subst, codes, decimal}
use Rattle.std.proofs.lemmas.Bool.{and_parts, and_from, cases_Bool, and_right as and_no}
use Rattle.std.proofs.lemmas.Bool.Decides.{nat_tests}
use Rattle.std.proofs.lemmas.Slice.Eq.{bytes_eq-Decides}
use Rattle.std.proofs.lemmas.Fmt.{decimal_is_IsNumeral}
use Rattle.std.specs.Char.{is_ascii_alphabetic, is_ascii_digit}
use Rattle.std.specs.Str.{bytes_eq}
use Rattle.std.specs.List.{list_all, list_any, prefix_len}
use Rattle.verilog_tokens.specs.Kept.{is_identifier, is_name_byte}
use Rattle.verilog_tokens.specs.Words.{is_verilog_word, verilog_words}
use Rattle.verilog_tokens.specs.Tokens.{is_blank, is_mark, is_one_of, begins_with, begins_word, word_length, number_length}
use Rattle.verilog_tokens.specs.Tokens.{sign_length, is_open_after, is_name, separator_length, token_length}
use Rattle.verilog_grammar.specs.WellFormed.{IsName, IsNumber}
use Rattle.grammar_reader.proofs.Bytes.{unlike, none_of, run_ends, AreFew, short, below_word, few}
use Rattle.grammar_reader.proofs.Spelling.{one_token}
use Rattle.section_outlines.specs.Marked.{marked}
use Rattle.section_outlines.specs.VerilogMarks.{verilog_marks}
use Rattle.written_modules.proofs.Spelling.{verilog, Spells, Ends}

-- Bytes of one kind and of another.

-- a byte that is one of those does not pass
one_of : (test : ℕ → Bool) (cs : List ℕ) (b : ℕ) → list_all (λ c. not (test c)) cs ≡ true → list_any (λ c. nat_eq c b) cs ≡ true
    → test b ≡ false
one_of test cs b h e = elim (cases_Bool (test b)) [
  | inl t ↦ absurd (cc (e, none_of test cs b h t))
  | inr f ↦ f
]

-- what passes the test is no blank and no mark
abbrev NoEnd : (ℕ → Bool) → Type 0
NoEnd test = (list_all (λ c. not (test c)) (codes " \t\n") ≡ true) × (list_all (λ c. not (test c)) (codes "(),;:") ≡ true)

ends_by : (test : ℕ → Bool) → NoEnd test → (c : ℕ) → (is_blank c || is_mark c) ≡ true → test c ≡ false
ends_by test h c e = elim (cases_Bool (is_blank c)) [
  | inl t ↦ one_of test (codes " \t\n") c h.0 t
  | inr f ↦ one_of test (codes "(),;:") c h.1 (rw f at e)
]

-- where a blank or a mark follows there is none that passes
none_follow : (test : ℕ → Bool) → NoEnd test → (r : List ℕ) → Ends r → prefix_len test r ≡ 0
none_follow test n [] e = refl
none_follow test n (c ∷ r) e = rw (ends_by test n c e) refl

no_separator : (b : ℕ) (s : List ℕ) → is_blank b ≡ false → nat_eq 47 b ≡ false → separator_length (b ∷ s) ≡ 0
no_separator b s e f = rw (e, f) refl

-- what passes a test that they don't pass is none of the words that mark sections
unmarked : (test : List ℕ → Bool) → test (codes "`celldefine") ≡ false → test (codes "`endcelldefine") ≡ false → (x : List ℕ)
    → test x ≡ true → (r : List ℕ) →
    marked verilog verilog_marks false x r ≡ false
unmarked test e f x h r = rw (differs (codes "`celldefine") e, differs (codes "`endcelldefine") f) refl
  where
    differs : (w : List ℕ) → test w ≡ false → bytes_eq x w ≡ false
    differs w e = elim (cases_Bool (bytes_eq x w)) [
      | inl t ↦ absurd (cc (h, e, ap test ((bytes_eq-Decides x w).0 t)))
      | inr f ↦ f
    ]

-- Names.

abbrev begins_name : ℕ → Bool
begins_name b = is_ascii_alphabetic b || b == 95

flipped : (b : ℕ) → (b == 95) ≡ nat_eq 95 b
flipped b = grind (arith, nat_tests)

starts : (letter low low' others : Bool) → (letter || low') ≡ true → low' ≡ low → (letter || (low || others)) ≡ true
starts true low low' others h e = refl
starts false true low' others h e = refl
starts false false low' others h e = absurd (cc (h, e))

starts_word : (b : ℕ) → begins_name b ≡ true → begins_word b ≡ true
starts_word b e = starts (is_ascii_alphabetic b) (nat_eq 95 b) (b == 95) (list_any (λ c. nat_eq c b) (36 ∷ 96 ∷ [])) e (flipped b)

word_length_is : (b : ℕ) (w r : List ℕ) → is_mark b ≡ false → begins_word b ≡ true → is_one_of (codes "$`") b ≡ false
    → prefix_len is_name_byte (w ++ r) ≡ length w
    → token_length false (b ∷ w ++ r) ≡ suc (length w)
word_length_is b w r e f g h = rw (e, f, g, h) (omega arith)

-- the table is not opened
stays_shut : (x : List ℕ) → bytes_eq x (codes "table") ≡ false → is_open_after false x ≡ false
stays_shut x e = rw e (both (bytes_eq x (codes "endtable")))
  where
    both : (t : Bool) → (if t then false else false) ≡ false
    both true = refl
    both false = refl

-- a name is no word of Verilog
pub unlike_word : (x w : List ℕ) → is_verilog_word w ≡ true → IsName x → bytes_eq x w ≡ false
unlike_word x w e n = elim (cases_Bool (bytes_eq x w)) [
  | inl t ↦ (let same : not (is_verilog_word x) ≡ false =
      ap not (subst (λ y. is_verilog_word y ≡ true) (sym ((bytes_eq-Decides x w).0 t)) e) in absurd (cc (n.no_word, same)))
  | inr f ↦ f
]

table_word : is_verilog_word (codes "table") ≡ true
unfolding is_verilog_word verilog_words
table_word = refl

-- a name is one token
pub name : (x : List ℕ) → IsName x → Spells Ends false x (λ s. x ∷ s) false
name [] n = absurd (cc n.identifier)
name (b ∷ w) n =
    let p = and_parts (begins_name b) (list_all is_name_byte w) n.identifier in
    one_token b w (record {
      alone = λ r e. no_separator b (w ++ r) (none_of begins_name (codes " \t\n") b refl p.0) (unlike begins_name 47 b refl p.0);
      size = λ r e. word_length_is b w r (none_of begins_name (codes "(),;:") b refl p.0) (starts_word b p.0)
          (none_of begins_name (codes "$`") b refl p.0)
          (run_ends is_name_byte w r p.1 (none_follow is_name_byte (refl, refl) r e));
      free = λ r. unmarked is_identifier refl refl (b ∷ w) n.identifier r;
      after = stays_shut (b ∷ w) (unlike_word (b ∷ w) (codes "table") table_word n);
    })

-- a name is a name
pub name_is : (x : List ℕ) → IsName x → is_name x ≡ true
name_is [] n = absurd (cc n.identifier)
name_is (b ∷ w) n = and_from (begins_name b) (not (is_verilog_word (b ∷ w)))
    (and_parts (begins_name b) (list_all is_name_byte w) n.identifier).0 n.no_word

-- Numbers.

-- neither a digit nor a blank nor a mark stands behind digits
no_more : (l : ℕ) (ls ds r : List ℕ) → NoEnd (λ c. nat_eq l c) → is_ascii_digit l ≡ false → list_all is_ascii_digit ds ≡ true
    → Ends r → begins_with (ds ++ r) (l ∷ ls) ≡ false
no_more l ls [] [] n d h e = refl
no_more l ls [] (c ∷ r) n d h e = rw (ends_by (λ x. nat_eq l x) n c e) refl
no_more l ls (c ∷ ds) r n d h e =
    let p = and_parts (is_ascii_digit c) (list_all is_ascii_digit ds) h in
    let no : not (is_ascii_digit l) ≡ true = ap not d in
    rw (unlike is_ascii_digit l c no p.0) refl

number_length_is : (unit low high fits : Bool) (run n : ℕ) → unit ≡ false → low ≡ false → high ≡ false → fits ≡ true → run ≡ n →
    (if unit then 3 else (if low || high then 4 else (if fits then run else 0))) ≡ n
number_length_is unit low high fits run n a b c d e = rw (a, b, c, d) e

digit_by : (mark letter digit : Bool) (word number sign n : ℕ) → mark ≡ false → letter ≡ false → digit ≡ true → number ≡ n →
    (if mark then 1 else (if letter then word else (if digit then number else sign))) ≡ n
digit_by mark letter digit word number sign n e f g h = rw (e, f, g) h

digit_length_is : (b : ℕ) (bs : List ℕ) (n : ℕ) → is_mark b ≡ false → begins_word b ≡ false → is_ascii_digit b ≡ true
    → number_length (b ∷ bs) ≡ n → token_length false (b ∷ bs) ≡ n
digit_length_is b bs n e f g h = digit_by (is_mark b) (begins_word b) (is_ascii_digit b) (word_length (b ∷ bs))
    (number_length (b ∷ bs)) (sign_length (b ∷ bs)) n e f g h

no_word_start : (b : ℕ) → is_ascii_digit b ≡ true → begins_word b ≡ false
no_word_start b e =
    let letter : is_ascii_alphabetic b ≡ false = grind (arith, nat_tests) in
    rw (letter, none_of is_ascii_digit (codes "_$`") b refl e) refl

number_token : (b : ℕ) (w r : List ℕ) → AreFew (b ∷ w) → Ends r → token_length false (b ∷ w ++ r) ≡ suc (length w)
number_token b w r f e =
    let p = and_parts (is_ascii_digit b) (list_all is_ascii_digit w) f.digits in
    let run : prefix_len is_ascii_digit (b ∷ w ++ r) ≡ suc (length w) =
    run_ends is_ascii_digit (b ∷ w) r f.digits (none_follow is_ascii_digit (refl, refl) r e) in
    let fits : nat_le (prefix_len is_ascii_digit (b ∷ w ++ r)) 15 ≡ true =
    short (prefix_len is_ascii_digit (b ∷ w ++ r)) (subst (λ n. n ≤ 15) (sym run) f.few) in
    digit_length_is b (w ++ r) (suc (length w)) (none_of is_ascii_digit (codes "(),;:") b refl p.0) (no_word_start b p.0) p.0
    (number_length_is (begins_with (b ∷ w ++ r) (codes "1ps")) (begins_with (b ∷ w ++ r) (codes "1'b0"))
    (begins_with (b ∷ w ++ r) (codes "1'b1"))
    (nat_le (prefix_len is_ascii_digit (b ∷ w ++ r)) 15) (prefix_len is_ascii_digit (b ∷ w ++ r)) (suc (length w))
    (and_no (nat_eq 49 b) (begins_with (w ++ r) (codes "ps")) (no_more 112 (codes "s") w r (refl, refl) refl p.1 e))
    (and_no (nat_eq 49 b) (begins_with (w ++ r) (codes "'b0")) (no_more 39 (codes "b0") w r (refl, refl) refl p.1 e))
    (and_no (nat_eq 49 b) (begins_with (w ++ r) (codes "'b1")) (no_more 39 (codes "b1") w r (refl, refl) refl p.1 e))
    fits run)

no_table : (x : List ℕ) → list_all is_ascii_digit x ≡ true → bytes_eq x (codes "table") ≡ false
no_table x h = elim (cases_Bool (bytes_eq x (codes "table"))) [
  | inl t ↦ absurd (cc (h, ap (list_all is_ascii_digit) ((bytes_eq-Decides x (codes "table")).0 t)))
  | inr f ↦ f
]

few_digits : (x : List ℕ) → AreFew x → 0 < length x → Spells Ends false x (λ s. x ∷ s) false
few_digits [] f some = absurd (omega arith)
few_digits (b ∷ w) f some =
    let p = and_parts (is_ascii_digit b) (list_all is_ascii_digit w) f.digits in
    one_token b w (record {
      alone = λ r e. no_separator b (w ++ r) (none_of is_ascii_digit (codes " \t\n") b refl p.0)
          (unlike is_ascii_digit 47 b refl p.0);
      size = λ r e. number_token b w r f e;
      free = λ r. unmarked (list_all is_ascii_digit) refl refl (b ∷ w) f.digits r;
      after = stays_shut (b ∷ w) (no_table (b ∷ w) f.digits);
    })

-- a number is one token
pub number : (n : ℕ) → IsNumber n → Spells Ends false (decimal n) (λ s. decimal n ∷ s) false
number n h = few_digits (decimal n) (few n h) (decimal_is_IsNumeral n (below_word n h)).0.0
