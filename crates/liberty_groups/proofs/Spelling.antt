-- Pieces of written text, as tokens.
use Rattle.std.proofs.Common.{◌≡◌, ℕ, ◌+◌, ◌==◌, Bool, true, false, not, List, [], ◌∷◌, ◌++◌, length, refl, sym, ap, subst, ◌∙◌}
use Rattle.std.proofs.Common.{arith, length-append, append_assoc}
use Rattle.std.proofs.lemmas.List.{append-nil}
use Rattle.std.specs.List.{list_any, list_all}
use Rattle.std.proofs.lemmas.Bool.{and_parts as and_splits, not-true as not_true}
use Rattle.liberty_text.specs.declared.token.Token.{Token}
use Rattle.liberty_text.specs.declared.token.TokenKind.{TokenKind}
use Rattle.liberty_text.specs.declared.token.TokenKind.TheVariants.{Word, Text, Comma}
use Rattle.liberty_text.specs.declared.token.Stop.{Stop}
use Rattle.liberty_text.specs.Scanner.{token}
use Rattle.liberty_text.specs.TextValue.{quoted, ends_in_backslash, IsQuotable}
use Rattle.liberty_text.specs.Tokens.{ends_word, WordBytes, TextBytes, Lexes}
use Rattle.liberty_text.specs.Tokens as lex
use Rattle.liberty_text.proofs.Quoting.{quotes_read_back}
use Rattle.liberty_groups.specs.declared.tree.Value.{Value}
use Rattle.liberty_groups.specs.Lexeme.{Lexeme, lexemes_of}
use Rattle.liberty_groups.specs.Writing.{value_text, values_text, is_word_text, is_name, is_quotable}
use Rattle.liberty_groups.proofs.Lexemes.{lexemes-append}
use Rattle.liberty_groups.proofs.Pieces.{word_any}
use Rattle.liberty_groups.proofs.Cuts.{word_slice}

-- Bytes u behind bytes pre, with or without a line end before them, are these tokens, and leave this flag
-- for the token behind.
pub record Spells (u : List ℕ) (l l' : Bool) (S : ℕ → List Lexeme) : Type 0 where
  pub spells : (pre rest : List ℕ) (n : ℕ) (V : List Token) (s : Stop) → n ≡ length pre → Lexes (n + length u) l' rest V s →
      (ts : List Token) × Lexes n l (u ++ rest) (ts ++ V) s × (lexemes_of (pre ++ (u ++ rest)) ts ≡ S n)

pub spells_then : {u v : List ℕ} {l m k : Bool} {S T : ℕ → List Lexeme} → Spells u l m S → Spells v m k T
    → Spells (u ++ v) l k (λ n. S n ++ T (n + length u))
spells_then {u} {v} {l} {m} {k} {S} {T} f g = record {
  spells = λ pre rest n V s e d.
      (let long = length-append u v in
      let long' = length-append pre u in
      let d' : Lexes ((n + length u) + length v) k rest V s = subst (λ (i : ℕ). Lexes i k rest V s) (omega arith) d in
      let b = g.spells (pre ++ u) rest (n + length u) V s (omega arith) d' in
      let a = f.spells pre (v ++ rest) n (b.0 ++ V) s e b.1 in
      let text : pre ++ (u ++ (v ++ rest)) ≡ pre ++ ((u ++ v) ++ rest) =
      ap (λ (t : List ℕ). pre ++ t) (sym (append_assoc u v rest)) in
      let text' : (pre ++ u) ++ (v ++ rest) ≡ pre ++ ((u ++ v) ++ rest) = append_assoc pre u (v ++ rest) ∙ text in (
        a.0 ++ b.0,
        subst (λ (t : List ℕ). Lexes n l t ((a.0 ++ b.0) ++ V) s) (sym (append_assoc u v rest))
            (subst (λ (t : List Token). Lexes n l (u ++ (v ++ rest)) t s) (sym (append_assoc a.0 b.0 V)) a.1),
        lexemes-append (pre ++ ((u ++ v) ++ rest)) a.0 b.0
            ∙ ap (λ (t : List ℕ). lexemes_of t a.0 ++ lexemes_of (pre ++ ((u ++ v) ++ rest)) b.0) (sym text)
            ∙ ap (λ (t : List Lexeme). t ++ lexemes_of (pre ++ ((u ++ v) ++ rest)) b.0) a.2
            ∙ ap (λ (t : List ℕ). S n ++ lexemes_of t b.0) (sym text')
            ∙ ap (λ (t : List Lexeme). S n ++ t) b.2,
      ));
}

abbrev pub lexeme : TokenKind → ℕ → ℕ → Bool → List ℕ → Lexeme
lexeme kind at end l bytes = record { token = token kind at end l; bytes = bytes }

abbrev pub mark_at : TokenKind → ℕ → ℕ → Bool → Lexeme
mark_at kind b n l = lexeme kind n (n + 1) l (b ∷ [])

one_more : (n : ℕ) (b : ℕ) → n + length (b ∷ []) ≡ n + 1
one_more n b = omega arith

-- a mark of one byte
pub spells_mark : (kind : TokenKind) (b : ℕ) (l : Bool) →
    ((n : ℕ) (rest : List ℕ) (V : List Token) (s : Stop) → Lexes (n + 1) false rest V s
    → Lexes n l (b ∷ rest) (token kind n (n + 1) l ∷ V) s) →
    Spells (b ∷ []) l false (λ n. mark_at kind b n l ∷ [])
spells_mark kind b l mark = record {
  spells = λ pre rest n V s e d. (
    token kind n (n + 1) l ∷ [],
    mark n rest V s (subst (λ (i : ℕ). Lexes i false rest V s) (one_more n b) d),
    ap (λ (t : List ℕ). lexeme kind n (n + 1) l t ∷ [])
        (word_slice (pre ++ ((b ∷ []) ++ rest)) pre (b ∷ []) rest n (n + 1) refl e (omega arith)),
  );
}

pub spells_blank : (l : Bool) → Spells (32 ∷ []) l l (λ n. [])
spells_blank l = record {
  spells =
      λ pre rest n V s e d. ([], lex.blank refl (subst (λ (i : ℕ). Lexes i l rest V s) (one_more n 32) d), refl);
}

pub spells_line : (l : Bool) → Spells (10 ∷ []) l true (λ n. [])
spells_line l = record {
  spells =
      λ pre rest n V s e d. ([], lex.line_end refl (subst (λ (i : ℕ). Lexes i true rest V s) (one_more n 10) d), refl);
}

word_bytes : (bs : List ℕ) → is_word_text bs ≡ true → WordBytes bs []
word_bytes [] e = lex.word_ends refl
word_bytes (b ∷ bs) e =
    let i = and_splits (not (ends_word (b ∷ bs))) (is_word_text bs) e in
    lex.word_byte (ap (λ (t : List ℕ). ends_word (b ∷ t)) (append-nil bs) ∙ not_true (ends_word (b ∷ bs)) i.0) (word_bytes bs i.1)

-- a name and a blank
pub spells_name : (name : List ℕ) (l : Bool) → is_name name ≡ true
    → Spells (name ++ 32 ∷ []) l false (λ n. lexeme Word n (n + length name) l name ∷ [])
spells_name [] l h = absurd cc
spells_name (b ∷ w) l h = record {
  spells = λ pre rest n V s e d.
      (let word = word_any (word_bytes (b ∷ w) h) (32 ∷ rest) refl in
      let end : n + 1 + length w ≡ n + length (b ∷ w) = omega arith in
      let long = length-append (b ∷ w) (32 ∷ []) in
      let behind : n + length ((b ∷ w) ++ 32 ∷ []) ≡ n + 1 + length w + 1 = omega arith in
      let text : pre ++ (((b ∷ w) ++ 32 ∷ []) ++ rest) ≡ pre ++ ((b ∷ w) ++ (32 ∷ rest)) =
      ap (λ (t : List ℕ). pre ++ t) (append_assoc (b ∷ w) (32 ∷ []) rest) in (
        token Word n (n + length (b ∷ w)) l ∷ [],
        subst (λ (i : ℕ). Lexes n l (((b ∷ w) ++ 32 ∷ []) ++ rest) (token Word n i l ∷ V) s) end
            (lex.word b w (32 ∷ rest) word (append_assoc (b ∷ w) (32 ∷ []) rest)
            (lex.blank refl (subst (λ (i : ℕ). Lexes i false rest V s) behind d))),
        ap (λ (t : List ℕ). lexeme Word n (n + length (b ∷ w)) l t ∷ [])
            (word_slice (pre ++ (((b ∷ w) ++ 32 ∷ []) ++ rest)) pre (b ∷ w) (32 ∷ rest) n (n + length (b ∷ w)) text e refl),
      ));
}

abbrev pub text_at : ℕ → Bool → Value → Lexeme
text_at n l v = lexeme Text n (n + length (value_text v)) l (value_text v)

pub quotable : (v : Value) → is_quotable v ≡ true → IsQuotable v.bytes
quotable v e =
    let i = and_splits (not (list_any (λ b. b == 10) v.bytes)) (not (ends_in_backslash false v.bytes)) e in
    record { one_line = not_true (list_any (λ b. b == 10) v.bytes) i.0; closes = not_true (ends_in_backslash false v.bytes) i.1 }

-- a quoted value
pub spells_value : (v : Value) (l : Bool) → is_quotable v ≡ true → Spells (value_text v) l false (λ n. text_at n l v ∷ [])
spells_value v l h = record {
  spells = λ pre rest n V s e d.
      (let q = quoted v.bytes in
      let back = (quotes_read_back v.bytes).0 (quotable v h) in
      let long = length-append q (34 ∷ []) in
      let end : n + 1 + length q + 1 ≡ n + length (value_text v) = omega arith in (
        token Text n (n + length (value_text v)) l ∷ [],
        subst (λ (i : ℕ). Lexes n l (value_text v ++ rest) (token Text n i l ∷ V) s) end
            (lex.text q rest back.closes (ap (λ (t : List ℕ). 34 ∷ t) (append_assoc q (34 ∷ []) rest))
            (subst (λ (i : ℕ). Lexes i false rest V s) (sym end) d)),
        ap (λ (t : List ℕ). lexeme Text n (n + length (value_text v)) l t ∷ [])
            (word_slice (pre ++ (value_text v ++ rest)) pre (value_text v) rest n (n + length (value_text v)) refl e refl),
      ));
}

-- the tokens of values, with a comma before each but the first
abbrev pub values_at : Bool → List Value → ℕ → List Lexeme
values_at true [] n = []
values_at false [] n = []
values_at true (v ∷ vs) n = text_at n false v ∷ values_at false vs (n + length (value_text v))
values_at false (v ∷ vs) n = mark_at Comma 44 n false ∷ text_at (n + 2) false v ∷ values_at false vs
    (n + length ((44 ∷ 32 ∷ []) ++ value_text v))

spells_none : (l : Bool) → Spells [] l l (λ n. [])
spells_none l = record { spells = λ pre rest n V s e d. ([], subst (λ (i : ℕ). Lexes i l rest V s) (omega arith) d, refl) }

pub spells_values : (first : Bool) (vs : List Value) → list_all is_quotable vs ≡ true
    → Spells (values_text first vs) false false (values_at first vs)
spells_values true [] h = spells_none false
spells_values false [] h = spells_none false
spells_values true (v ∷ vs) h =
    let i = and_splits (is_quotable v) (list_all is_quotable vs) h in
    spells_then (spells_value v false i.0) (spells_values false vs i.1)
spells_values false (v ∷ vs) h =
    let i = and_splits (is_quotable v) (list_all is_quotable vs) h in
    spells_then
    (spells_then (spells_then (spells_mark Comma 44 false (λ n rest V s d. lex.mark Comma refl d)) (spells_blank false))
    (spells_value v false i.0))
    (spells_values false vs i.1)
