-- What stands before a token of a text stays when other bytes come behind, and so does the token.
use Rattle.std.proofs.Common.{◌≡◌, ℕ, ◌+◌, Bool, true, false, List, [], ◌∷◌, ◌++◌, length, refl, sym, ap, subst, ◌∙◌, arith}
use Rattle.std.proofs.Common.{length-append, append_assoc}
use Rattle.std.proofs.lemmas.Bool.Decides.{nat_tests}
use Rattle.liberty_text.specs.declared.token.Token.{Token}
use Rattle.liberty_text.specs.declared.token.TokenKind.{TokenKind}
use Rattle.liberty_text.specs.declared.token.TokenKind.TheVariants.{Word, Text, Brace, Colon, Semicolon, Comma}
use Rattle.liberty_text.specs.declared.token.Stop.{Stop}
use Rattle.liberty_text.specs.declared.class.Class.TheVariants.{Mark}
use Rattle.liberty_text.specs.Scanner.{class_of}
use Rattle.liberty_text.specs.Tokens.{ends_word, WordBytes, Lexes}
use Rattle.liberty_text.specs.Tokens as lex
use Rattle.liberty_groups.specs.Library.{is_word}
use Rattle.liberty_groups.specs.FirstMisfit.{EndsBefore}
use Rattle.liberty_groups.proofs.Pieces.{word_any, word_end, head_same, tail_same}
use Rattle.liberty_groups.proofs.TokenSteps.{Step, step_blank, step_line_end, step_continuation, step_comment, step_mark}
use Rattle.liberty_groups.proofs.TokenSteps.{step_text, step_word, Front, front_on}

-- bytes that may come where this token began: no Word goes on with them, where the token is none
abbrev MayFollow : Token → List ℕ → Type 0
MayFollow x z = is_word x.kind ≡ false → ends_word z ≡ true

-- From an offset on the bytes are q, behind these tokens, and then those of a token, and others.
pub record Around (at : ℕ) (line : Bool) (bs : List ℕ) (E : List Token) (x : Token) : Type 0 where
  pub q : List ℕ
  pub w : List ℕ
  pub r : List ℕ
  pub split : bs ≡ q ++ (w ++ r)
  pub place : x.at ≡ at + length q
  pub long : x.end ≡ x.at + length w
  pub goes : (z : List ℕ) (V : List Token) (s : Stop) → MayFollow x z → Lexes x.at x.line_before z V s
      → Lexes at line (q ++ z) (E ++ V) s
  pub word : ends_word bs ≡ true → (z : List ℕ) → MayFollow x z → ends_word (q ++ z) ≡ true
  pub spells : (y : List ℕ) (V : List Token) (s : Stop) → EndsBefore x y → Lexes x.end false y V s
      → Lexes x.at x.line_before (w ++ y) (x ∷ V) s
  pub begins : (y : List ℕ) → MayFollow x (w ++ y)
  pub ends : EndsBefore x r

no_tokens : (E : List Token) (x : Token) (B : List Token) → [] ≡ E ++ x ∷ B → {P : Type 0} → P
no_tokens [] x B e = absurd cc
no_tokens (u ∷ E) x B e = absurd cc

mark_kind : (b : ℕ) (kind : TokenKind) → class_of b ≡ Mark kind → is_word kind ≡ false
mark_kind b Word f = absurd (grind (arith, nat_tests, f))
mark_kind b Text f = refl
mark_kind b (Brace c) f = refl
mark_kind b Colon f = refl
mark_kind b Semicolon f = refl
mark_kind b Comma f = refl

front_of : {at : ℕ} {line : Bool} {bs : List ℕ} {E : List Token} {x : Token} (c : Around at line bs E x)
    → Front (MayFollow x) at line bs E x.at x.line_before (c.w ++ c.r)
front_of c = record { q = c.q; split = c.split; place = c.place; goes = c.goes; word = c.word }

-- a separator or a token more in front
on : {at : ℕ} {line : Bool} {bs : List ℕ} {us : List Token} {there : ℕ} {ended : Bool} {rest : List ℕ} {E : List Token}
    {x : Token} →
    Step at line bs us there ended rest → Around there ended rest E x → Around at line bs (us ++ E) x
on p c =
    let f = front_on p (front_of c) in
    record {
      q = f.q;
      w = c.w;
      r = c.r;
      split = f.split;
      place = f.place;
      long = c.long;
      goes = f.goes;
      word = f.word;
      spells =
          c.spells;
      begins = c.begins;
      ends = c.ends;
    }

pub around : {at : ℕ} {line : Bool} {bs : List ℕ} {ts : List Token} {stop : Stop} → Lexes at line bs ts stop
    → (E : List Token) (x : Token) (B : List Token) →
    ts ≡ E ++ x ∷ B → Around at line bs E x
around lex.end E x B e = no_tokens E x B e
around (lex.blank f d) E x B e = on (step_blank f) (around d E x B e)
around (lex.line_end f d) E x B e = on (step_line_end f) (around d E x B e)
around (lex.continuation blanks rest all split d) E x B e = on (step_continuation blanks rest all split) (around d E x B e)
around (lex.comment body rest all split d) E x B e = on (step_comment body rest all split) (around d E x B e)
around {at = at} {line = line} {bs = bs} (lex.mark {b = b} {rest = rest} kind f d) [] x B e =
    subst (λ (t : Token). Around at line bs [] t) (head_same e)
    (record {
      q = [];
      w = b ∷ [];
      r = rest;
      split = refl;
      place = omega arith;
      long = omega arith;
      goes = λ z V s p y. y;
      word = λ _ z p. p (mark_kind b kind f);
      spells = λ y V s p z. lex.mark kind f z;
      begins = λ y _. rw f refl;
      ends = λ h. absurd (let k = mark_kind b kind f in cc);
    })
around {at = at} {line = line} (lex.mark {b = b} {rest = rest} kind f d) (t ∷ E) x B e =
    subst (λ (u : Token). Around at line (b ∷ rest) (u ∷ E) x) (head_same e)
    (on (step_mark kind f) (around d E x B (tail_same e)))
around {at = at} {line = line} {bs = bs} (lex.text body rest all split d) [] x B e =
    subst (λ (t : Token). Around at line bs [] t) (head_same e)
    (record {
      q = [];
      w = 34 ∷ body ++ (34 ∷ []);
      r = rest;
      split = split ∙ ap (λ (s : List ℕ). 34 ∷ s) (sym (append_assoc body (34 ∷ []) rest));
      place = omega arith;
      long = (let i = length-append body (34 ∷ []) in omega arith);
      goes = λ z V s p y. y;
      word = λ _ z p. p refl;
      spells = λ y V s p z. lex.text body y all (ap (λ (t : List ℕ). 34 ∷ t) (append_assoc body (34 ∷ []) y)) z;
      begins = λ y _. refl;
      ends = λ h. absurd cc;
    })
around {at = at} {line = line} {bs = bs} (lex.text body rest all split d) (t ∷ E) x B e =
    subst (λ (u : Token). Around at line bs (u ∷ E) x) (head_same e)
    (on (step_text body rest all split) (around d E x B (tail_same e)))
around {at = at} {line = line} {bs = bs} (lex.word b w rest (lex.word_byte f more) split d) [] x B e =
    subst (λ (t : Token). Around at line bs [] t) (head_same e)
    (record {
      q = [];
      w = b ∷ w;
      r = rest;
      split = split;
      place = omega arith;
      long = omega arith;
      goes = λ z V s p y. y;
      word = λ h z p. (let g = subst (λ (t : List ℕ). ends_word t ≡ true) split h in absurd cc);
      spells = λ y V s p z. lex.word b w y (word_any (lex.word_byte f more) y (p refl)) refl z;
      begins = λ y p. absurd cc;
      ends = λ _. word_end more;
    })
around {at = at} {line = line} {bs = bs} (lex.word b w rest bytes split d) (t ∷ E) x B e =
    subst (λ (u : Token). Around at line bs (u ∷ E) x) (head_same e)
    (on (step_word b w rest bytes split) (around d E x B (tail_same e)))
around (lex.bad f) E x B e = no_tokens E x B e
around (lex.bad_backslash blanks b rest all other split) E x B e = no_tokens E x B e
around (lex.open_text last all) E x B e = no_tokens E x B e
around (lex.open_comment last all) E x B e = no_tokens E x B e
around (lex.open_continuation all) E x B e = no_tokens E x B e
