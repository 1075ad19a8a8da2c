-- The tokens of a text that begin as names are whole identifiers.
use Rattle.std.proofs.Common.{◌≡◌, ℕ, suc, ◌+◌, Bool, true, false, not, ◌==◌, if◌then◌else◌, List, [], ◌∷◌, take, inl, inr, refl}
use Rattle.std.proofs.Common.{sym, subst, ◌∙◌, arith}
use Rattle.std.specs.List.{AllByRecursion, list_all, prefix_len}
use Rattle.std.specs.Char.{is_ascii_alphabetic, is_ascii_digit}
use Rattle.std.proofs.lemmas.Bool.{and_parts, and_from, cases_Bool, eqb-true, true≢false}
use Rattle.vhdl_tokens.specs.Words.{is_vhdl_word}
use Rattle.lexer.proofs.EachToken.{each_token}
use Rattle.vhdl_tokens.specs.Tokens.{is_mark, is_name_byte, sign_length, number_length, word_length, character_length}
use Rattle.vhdl_tokens.specs.Tokens.{string_length, token_length, lexis}
use Rattle.grammar_reader.specs.Texts.{text_tokens}
use Rattle.vhdl_grammar.proofs.ReadNames.{IsSpelled}

-- the first name bytes are name bytes
prefix_named : (bs : List ℕ) → list_all is_name_byte (take (prefix_len is_name_byte bs) bs) ≡ true
prefix_named [] = refl
prefix_named (b ∷ bs) = elim (cases_Bool (is_name_byte b)) [
  | inl t ↦
      let same : suc (prefix_len is_name_byte bs) ≡ 1 + prefix_len is_name_byte bs = omega arith in
      rw t
      (subst (λ k. list_all is_name_byte (take k (b ∷ bs)) ≡ true) same
      (and_from (is_name_byte b) (list_all is_name_byte (take (prefix_len is_name_byte bs) bs)) t (prefix_named bs)))
  | inr t ↦ rw t refl
]

word_named : (b n : ℕ) (bs : List ℕ) → word_length (b ∷ bs) ≡ suc n → list_all is_name_byte (take n bs) ≡ true
word_named b n bs e =
    let same : prefix_len is_name_byte bs ≡ n = omega (arith, e) in
    subst (λ k. list_all is_name_byte (take k bs) ≡ true) same (prefix_named bs)

no_letter : (b c : ℕ) → is_ascii_alphabetic c ≡ false → (b == c) ≡ true → is_ascii_alphabetic b ≡ true → ⊥
no_letter b c other h letter = true≢false (sym (subst (λ (c : ℕ). is_ascii_alphabetic c ≡ true) (eqb-true b c h) letter) ∙ other)

-- the rest of a token that begins with a letter
rest_named : (mark tick quote letter digit after_name : Bool) (b n : ℕ) (bs : List ℕ) → (b == 39) ≡ tick → (b == 34) ≡ quote
    → is_ascii_alphabetic b ≡ letter → letter ≡ true
    → (if mark then 1
    else (if tick then (if after_name then 1 else character_length (b ∷ bs))
    else (if quote then string_length (b ∷ bs)
    else (if letter then word_length (b ∷ bs)
    else (if digit then number_length (b ∷ bs)
    else sign_length (b ∷ bs)))))) ≡ suc n
    → list_all is_name_byte (take n bs) ≡ true
rest_named true tick quote letter digit after_name b n bs f g h l e = let none : 0 ≡ n = omega (arith, e)
    in subst (λ k. list_all is_name_byte (take k bs) ≡ true) none refl
rest_named false true quote letter digit after_name b n bs f g h l e = absurd (no_letter b 39 refl f (h ∙ l))
rest_named false false true letter digit after_name b n bs f g h l e = absurd (no_letter b 34 refl g (h ∙ l))
rest_named false false false true digit after_name b n bs f g h l e = word_named b n bs e
rest_named false false false false digit after_name b n bs f g h l e = absurd cc

token_spelled : (after_name : Bool) (n : ℕ) (bytes : List ℕ) → token_length after_name bytes ≡ suc n
    → IsSpelled (take (suc n) bytes)
token_spelled after_name n [] e = absurd cc
token_spelled after_name n (b ∷ bs) e = λ name.
    let first = (and_parts (is_ascii_alphabetic b) (not (is_vhdl_word (b ∷ take n bs))) name).0 in
    and_from (is_ascii_alphabetic b) (list_all is_name_byte (take n bs)) first
    (rest_named (is_mark b) (b == 39) (b == 34) (is_ascii_alphabetic b) (is_ascii_digit b) after_name b n bs refl refl refl first
    e)

pub tokens_spelled : (bytes : List ℕ) → AllByRecursion IsSpelled (text_tokens lexis bytes)
tokens_spelled = each_token lexis IsSpelled token_spelled
