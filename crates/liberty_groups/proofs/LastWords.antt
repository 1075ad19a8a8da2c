-- What stands before the last word of a text, where the text ends in it.
use Rattle.std.proofs.Common.{◌≡◌, ℕ, ◌+◌, Bool, true, List, [], ◌∷◌, ◌++◌, length, refl, sym, ap, subst, ◌∙◌, arith}
use Rattle.std.proofs.Common.{length-append}
use Rattle.std.proofs.lemmas.List.{append-nil}
use Rattle.std.proofs.lemmas.Bool.Decides.{nat_tests}
use Rattle.liberty_text.specs.declared.token.Token.{Token}
use Rattle.liberty_text.specs.declared.token.TokenKind.TheVariants.{Word}
use Rattle.liberty_text.specs.declared.token.Stop.{Stop}
use Rattle.liberty_text.specs.declared.token.Stop.TheVariants.{End}
use Rattle.liberty_text.specs.Scanner.{token}
use Rattle.liberty_text.specs.Tokens.{ends_word, WordBytes, Lexes}
use Rattle.liberty_text.specs.Tokens as lex
use Rattle.liberty_groups.proofs.Pieces.{word_any}
use Rattle.liberty_groups.proofs.TokenSteps.{Step, step_blank, step_line_end, step_continuation, step_comment, step_mark}
use Rattle.liberty_groups.proofs.TokenSteps.{step_text, step_word, Front, front_on}

-- The bytes are q and a word b ∷ w, from an offset a on, behind these tokens.
pub record LastWord (at : ℕ) (line : Bool) (bs : List ℕ) (E : List Token) (a n : ℕ) (l : Bool) : Type 0 where
  pub q : List ℕ
  pub b : ℕ
  pub w : List ℕ
  pub split : bs ≡ q ++ (b ∷ w)
  pub place : a ≡ at + length q
  pub long : n ≡ a + 1 + length w
  pub bytes : WordBytes (b ∷ w) []
  pub goes : (z : List ℕ) (V : List Token) (s : Stop) → Lexes a l z V s → Lexes at line (q ++ z) (E ++ V) s
  pub word : ends_word bs ≡ true → (z : List ℕ) → ends_word (q ++ z) ≡ true

first_same : {t u : Token} {ts us : List Token} → t ∷ ts ≡ u ∷ us → t ≡ u
first_same e = cc

others_same : {t u : Token} {ts us : List Token} → t ∷ ts ≡ u ∷ us → ts ≡ us
others_same e = cc

no_tokens : (E : List Token) (t : Token) → [] ≡ E ++ t ∷ [] → ⊥
no_tokens [] t e = absurd cc
no_tokens (u ∷ E) t e = absurd cc

nothing : (rest : List ℕ) → length rest ≡ 0 → rest ≡ []
nothing [] h = refl
nothing (b ∷ rest) h = absurd (omega arith)

-- any bytes
abbrev Any : List ℕ → Type 0
Any z = Unit {0}

front_of : {at : ℕ} {line : Bool} {bs : List ℕ} {E : List Token} {a n : ℕ} {l : Bool} (c : LastWord at line bs E a n l)
    → Front Any at line bs E a l (c.b ∷ c.w)
front_of c = record { q = c.q; split = c.split; place = c.place; goes = λ z V s _ x. c.goes z V s x; word = λ h z _. c.word h z }

as_last : {at : ℕ} {line : Bool} {bs : List ℕ} {E : List Token} {a n : ℕ} {l : Bool} (b : ℕ) (w : List ℕ)
    → Front Any at line bs E a l (b ∷ w) → n ≡ a + 1 + length w → WordBytes (b ∷ w) [] →
    LastWord at line bs E a n l
as_last b w f long bytes =
    record {
      q = f.q;
      b = b;
      w = w;
      split = f.split;
      place = f.place;
      long = long;
      bytes = bytes;
      goes =
          λ z V s x. f.goes z V s tt x;
      word = λ h z. f.word h z tt;
    }

-- a separator or a token more in front
on : {at : ℕ} {line : Bool} {bs : List ℕ} {us : List Token} {there : ℕ} {ended : Bool} {rest : List ℕ} {E : List Token} {a n : ℕ}
    {l : Bool} →
    Step at line bs us there ended rest → LastWord there ended rest E a n l → LastWord at line bs (us ++ E) a n l
on p c = as_last c.b c.w (front_on p (front_of c)) c.long c.bytes

pub last_word : {at : ℕ} {line : Bool} {bs : List ℕ} {ts : List Token} → Lexes at line bs ts End
    → (E : List Token) (a n : ℕ) (l : Bool) →
    ts ≡ E ++ token Word a n l ∷ [] → n ≡ at + length bs → LastWord at line bs E a n l
last_word lex.end E a n l e h = absurd (no_tokens E (token Word a n l) e)
last_word (lex.blank f d) E a n l e h = on (step_blank f) (last_word d E a n l e (omega arith))
last_word (lex.line_end f d) E a n l e h = on (step_line_end f) (last_word d E a n l e (omega arith))
last_word (lex.continuation blanks rest all split d) E a n l e h =
    let k = ap length split in let j = length-append blanks (10 ∷ rest) in
    on (step_continuation blanks rest all split) (last_word d E a n l e (omega arith))
last_word (lex.comment body rest all split d) E a n l e h =
    let k = ap length split in let j = length-append body (47 ∷ rest) in
    on (step_comment body rest all split) (last_word d E a n l e (omega arith))
last_word (lex.mark Word f d) E a n l e h = absurd (grind (arith, nat_tests, f))
last_word (lex.mark kind f d) [] a n l e h = absurd (let k = ap (λ t. t.kind) (first_same e) in cc)
last_word {at = at} {line = line} (lex.mark {b = b} {rest = rest} kind f d) (t ∷ E) a n l e h =
    subst (λ (u : Token). LastWord at line (b ∷ rest) (u ∷ E) a n l) (first_same e)
    (on (step_mark kind f) (last_word d E a n l (others_same e) (omega arith)))
last_word (lex.text body rest all split d) [] a n l e h = absurd (let k = ap (λ t. t.kind) (first_same e) in cc)
last_word {at = at} {line = line} {bs = bs} (lex.text body rest all split d) (t ∷ E) a n l e h =
    let k = ap length split in let j = length-append body (34 ∷ rest) in
    subst (λ (u : Token). LastWord at line bs (u ∷ E) a n l) (first_same e)
    (on (step_text body rest all split) (last_word d E a n l (others_same e) (omega arith)))
last_word {at = at} {line = line} {bs = bs} (lex.word b w rest (lex.word_byte f more) split d) [] a n l e h =
    let u = first_same e in
    let i : at ≡ a = ap (λ (t : Token). t.at) u in
    let j : at + 1 + length w ≡ n = ap (λ (t : Token). t.end) u in
    let m : line ≡ l = ap (λ (t : Token). t.line_before) u in
    let k = ap length split in let v = length-append w rest in
    let none : rest ≡ [] = nothing rest (omega arith) in record {
      q = [];
      b = b;
      w = w;
      split = split ∙ ap (λ (s : List ℕ). b ∷ (w ++ s)) none ∙ ap (λ (s : List ℕ). b ∷ s) (append-nil w);
      place = omega arith;
      long = omega arith;
      bytes = word_any (lex.word_byte f more) [] refl;
      goes = λ z V s x. subst (λ (k : ℕ). Lexes k line z V s) (sym i) (subst (λ (b : Bool). Lexes a b z V s) (sym m) x);
      word = λ p z. (let g = subst (λ (t : List ℕ). ends_word t ≡ true) split p in absurd cc);
    }
last_word {at = at} {line = line} {bs = bs} (lex.word b w rest bytes split d) (t ∷ E) a n l e h =
    let k = ap length split in let v = length-append w rest in
    subst (λ (u : Token). LastWord at line bs (u ∷ E) a n l) (first_same e)
    (on (step_word b w rest bytes split) (last_word d E a n l (others_same e) (omega arith)))
