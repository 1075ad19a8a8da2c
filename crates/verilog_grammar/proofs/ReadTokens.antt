-- The tokens of a text that begin as names are whole identifiers.
use Rattle.std.proofs.Common.{◌≡◌, ℕ, suc, ◌+◌, Bool, true, false, not, ◌&&◌, ◌||◌, ◌==◌, nat_eq, if◌then◌else◌, List, [], ◌∷◌}
use Rattle.std.proofs.Common.{take, inl, inr, refl, subst, arith, codes}
use Rattle.std.specs.List.{AllByRecursion, list_all, list_any, prefix_len}
use Rattle.std.specs.Char.{is_ascii_alphabetic, is_ascii_digit}
use Rattle.std.specs.Int.{is_in_range}
use Rattle.std.proofs.lemmas.Bool.{and_parts, and_from, cases_Bool}
use Rattle.std.proofs.lemmas.Bool.Decides.{nat_tests}
use Rattle.verilog_tokens.specs.Kept.{is_name_byte}
use Rattle.verilog_tokens.specs.Words.{is_verilog_word}
use Rattle.lexer.proofs.EachToken.{each_token}
use Rattle.verilog_tokens.specs.Tokens.{is_one_of, is_symbol, is_mark, sign_length, number_length, word_length, begins_word}
use Rattle.verilog_tokens.specs.Tokens.{token_length, lexis}
use Rattle.grammar_reader.specs.Texts.{text_tokens}
use Rattle.verilog_grammar.proofs.ReadNames.{IsSpelled}

-- the first bytes of which a test holds are name bytes, where the test says so
prefix_named : (test : ℕ → Bool) → ((b : ℕ) → test b ≡ true → is_name_byte b ≡ true) → (bs : List ℕ)
    → list_all is_name_byte (take (prefix_len test bs) bs) ≡ true
prefix_named test h [] = refl
prefix_named test h (b ∷ bs) = elim (cases_Bool (test b)) [
  | inl t ↦
      let same : suc (prefix_len test bs) ≡ 1 + prefix_len test bs = omega arith in
      rw t
      (subst (λ k. list_all is_name_byte (take k (b ∷ bs)) ≡ true) same
      (and_from (is_name_byte b) (list_all is_name_byte (take (prefix_len test bs) bs)) (h b t) (prefix_named test h bs)))
  | inr t ↦ rw t refl
]

of_letter : (digit upper lower other : Bool) → (upper || lower) ≡ true → (((digit || upper) || lower) || other) ≡ true
of_letter true upper lower other e = refl
of_letter false true lower other e = refl
of_letter false false true other e = refl
of_letter false false false other e = absurd cc

letter_named : (b : ℕ) → is_ascii_alphabetic b ≡ true → is_name_byte b ≡ true
letter_named b e = of_letter (is_in_range 48 57 b) (is_in_range 65 90 b) (is_in_range 97 122 b) (b == 95) e

-- a word of name bytes
word_named : (b n : ℕ) (bs : List ℕ) → word_length (b ∷ bs) ≡ suc n → list_all is_name_byte (take n bs) ≡ true
word_named b n bs e = by_first (is_one_of (codes "$`") b) n bs e
  where
    by_first : (first : Bool) (n : ℕ) (bs : List ℕ)
        → (if first then 1 + prefix_len is_ascii_alphabetic bs else 1 + prefix_len is_name_byte bs) ≡ suc n
        → list_all is_name_byte (take n bs) ≡ true
    by_first true n bs e =
        let same : prefix_len is_ascii_alphabetic bs ≡ n = omega (arith, e) in
        subst (λ k. list_all is_name_byte (take k bs) ≡ true) same (prefix_named is_ascii_alphabetic letter_named bs)
    by_first false n bs e =
        let same : prefix_len is_name_byte bs ≡ n = omega (arith, e) in
        subst (λ k. list_all is_name_byte (take k bs) ≡ true) same (prefix_named is_name_byte (λ b t. t) bs)

-- what begins no word begins no name

no_start : (letter low low' others : Bool) → (letter || (low || others)) ≡ false → (letter || low') ≡ true → low' ≡ low → ⊥
no_start true low low' others h e same = absurd cc
no_start false true low' others h e same = absurd cc
no_start false false low' others h e same = absurd cc

flipped : (b : ℕ) → (b == 95) ≡ nat_eq 95 b
flipped b = grind (arith, nat_tests)

no_name : (b : ℕ) → begins_word b ≡ false → (is_ascii_alphabetic b || b == 95) ≡ true → ⊥
no_name b h e = no_start (is_ascii_alphabetic b) (nat_eq 95 b) (b == 95) (list_any (λ c. nat_eq c b) (36 ∷ 96 ∷ [])) h e
    (flipped b)

-- the rest of a token that begins as a name
rest_named : (symbol mark word digit : Bool) (b n : ℕ) (bs : List ℕ) → begins_word b ≡ word
    → (is_ascii_alphabetic b || b == 95) ≡ true
    → (if symbol then 1 else (if mark then 1
    else (if word then word_length (b ∷ bs) else (if digit then number_length (b ∷ bs) else sign_length (b ∷ bs))))) ≡ suc n
    → list_all is_name_byte (take n bs) ≡ true
rest_named true mark word digit b n bs h f e = let none : 0 ≡ n = omega (arith, e)
    in subst (λ k. list_all is_name_byte (take k bs) ≡ true) none refl
rest_named false true word digit b n bs h f e = let none : 0 ≡ n = omega (arith, e)
    in subst (λ k. list_all is_name_byte (take k bs) ≡ true) none refl
rest_named false false true digit b n bs h f e = word_named b n bs e
rest_named false false false digit b n bs h f e = absurd (no_name b h f)

token_spelled : (t : Bool) (n : ℕ) (bytes : List ℕ) → token_length t bytes ≡ suc n → IsSpelled (take (suc n) bytes)
token_spelled t n [] e = absurd cc
token_spelled t n (b ∷ bs) e = λ name.
    let first = (and_parts (is_ascii_alphabetic b || b == 95) (not (is_verilog_word (b ∷ take n bs))) name).0 in
    and_from (is_ascii_alphabetic b || b == 95) (list_all is_name_byte (take n bs)) first
    (rest_named (t && is_symbol b) (is_mark b) (begins_word b) (is_ascii_digit b) b n bs refl first e)

pub tokens_spelled : (bytes : List ℕ) → AllByRecursion IsSpelled (text_tokens lexis bytes)
tokens_spelled = each_token lexis IsSpelled token_spelled
