-- The tokens of a reading, with the separators between them, are the bytes before the stop.
use Rattle.std.proofs.Common.{◌≡◌, ℕ, ◌+◌, ◌++◌, Bool, true, false, List, [], ◌∷◌, length, ◌==◌, ◌||◌, refl, sym, ◌∙◌, ap, subst}
use Rattle.std.proofs.Common.{arith, append_assoc}
use Rattle.std.specs.List.{list_any}
use Rattle.std.proofs.lemmas.Bool.Decides.{nat_tests}
use Rattle.std.proofs.lemmas.List.{length-append}
use Rattle.std.proofs.Math.Bool.{or-false as or_false, or_assoc}
use Rattle.liberty_text.specs.declared.token.TokenKind.{TokenKind}
use Rattle.liberty_text.specs.declared.token.TokenKind.TheVariants.{Word, Text, Brace, Colon, Semicolon, Comma}
use Rattle.liberty_text.specs.declared.token.Token.{Token}
use Rattle.liberty_text.specs.declared.token.Stop.{Stop}
use Rattle.liberty_text.specs.declared.token.Stop.TheVariants.{End, BadByte, OpenText, OpenComment, OpenContinuation}
use Rattle.liberty_text.specs.declared.class.Class.TheVariants.{Mark}
use Rattle.liberty_text.specs.Scanner.{class_of, token, scan_of}
use Rattle.liberty_text.specs.Tokens.{AreBlanks, CommentBytes, TextBytes, WordBytes, Lexes}
use Rattle.liberty_text.specs.Tokens as lex
use Rattle.liberty_text.specs.Cover.{Separates, Spells, StopsHere, CoversLast, CoversFirst, Covers, IsCovered}
use Rattle.liberty_text.specs.Cover as cover
use Rattle.liberty_text.proofs.Sound.{reads}

pub or_true : (a : Bool) → true ≡ (a || true)
or_true true = refl
or_true false = refl

-- separators behind separators
pub separates_append : {first second : Bool} {bs cs : List ℕ} → Separates first bs → Separates second cs
    → Separates (first || second) (bs ++ cs)
separates_append cover.nothing_between s = s
separates_append (cover.blank_between e d) s = cover.blank_between e (separates_append d s)
separates_append {second = second} (cover.line_end_between line e d) s =
    cover.line_end_between (line || second) e (separates_append d s)
separates_append {cs = cs} (cover.continuation_between blanks rest all split d) s =
    cover.continuation_between blanks (rest ++ cs) all
    (ap (λ l. l ++ cs) split ∙ ap (λ l. 92 ∷ l) (append_assoc blanks (10 ∷ rest) cs)) (separates_append d s)
separates_append {second = second} {cs = cs} (cover.comment_between {bs = bs} line body rest all split d) s =
    subst (λ l. Separates l (bs ++ cs)) (sym (or_assoc (list_any (λ b. b == 10) body) line second))
    (cover.comment_between (line || second) body (rest ++ cs) all
    (ap (λ l. l ++ cs) split ∙ ap (λ l. 47 ∷ 42 ∷ l) (append_assoc body (47 ∷ rest) cs)) (separates_append d s))

pub keeps_line : {line : Bool} {gap more : List ℕ} → Separates line gap → Separates false more → Separates line (gap ++ more)
keeps_line {line = line} {gap = gap} {more = more} d s =
    subst (λ l. Separates l (gap ++ more)) (or_false line) (separates_append d s)

pub ends_line : {line : Bool} {gap more : List ℕ} → Separates line gap → Separates true more → Separates true (gap ++ more)
ends_line {line = line} {gap = gap} {more = more} d s =
    subst (λ l. Separates l (gap ++ more)) (sym (or_true line)) (separates_append d s)

-- the bytes behind one more separator
pub joined : (from : ℕ) (gap more rest : List ℕ) (bs : List ℕ) (ts : List Token) (stop : Stop) → bs ≡ more ++ rest →
    Covers from ((gap ++ more) ++ rest) ts stop → Covers from (gap ++ bs) ts stop
joined from gap more rest bs ts stop e =
    subst (λ l. Covers from l ts stop) (append_assoc gap more rest ∙ ap (λ l. gap ++ l) (sym e))

-- what stops the reading behind the last separators
pub last : (from at : ℕ) (line : Bool) (gap bs : List ℕ) (stop : Stop) → Separates line gap
    → StopsHere (from + length gap) bs stop → CoversLast from (gap ++ bs) stop
last from at line gap bs stop d s = record { line = line; gap = gap; rest = bs; between = d; split = refl; stops = s }

-- a token behind separators
pub first : (from at end : ℕ) (line : Bool) (kind : TokenKind) (gap spelled rest bs : List ℕ) → Separates line gap
    → Spells kind spelled rest → bs ≡ spelled ++ rest →
    at ≡ from + length gap → end ≡ at + length spelled → CoversFirst from (gap ++ bs) (token kind at end line) rest
first from at end line kind gap spelled rest bs d s split e f = record {
  gap = gap;
  spelled = spelled;
  between = d;
  spells = s;
  split = ap (λ l. gap ++ l) split;
  at_is = e;
  end_is = omega (arith, e, f);
}

pub mark_spells : (b : ℕ) (kind : TokenKind) (rest : List ℕ) → class_of b ≡ Mark kind → Spells kind (b ∷ []) rest
mark_spells b Word rest e = absurd (grind (arith, nat_tests, e))
mark_spells b Text rest e = absurd (grind (arith, nat_tests, e))
mark_spells b (Brace c) rest e = (b, e, refl)
mark_spells b Colon rest e = (b, e, refl)
mark_spells b Semicolon rest e = (b, e, refl)
mark_spells b Comma rest e = (b, e, refl)

-- the reading behind a token, from where the token ends
pub anew : (end : ℕ) (rest : List ℕ) (ts : List Token) (stop : Stop) →
    ((from : ℕ) (gap : List ℕ) → Separates false gap → end ≡ from + length gap → Covers from (gap ++ rest) ts stop)
    → Covers end rest ts stop
anew end rest ts stop next = next end [] cover.nothing_between (omega arith)

pub covers : {at : ℕ} {line : Bool} {bs : List ℕ} {ts : List Token} {stop : Stop} → Lexes at line bs ts stop →
    (from : ℕ) (gap : List ℕ) → Separates line gap → at ≡ from + length gap → Covers from (gap ++ bs) ts stop
covers {at = at} {line = line} lex.end from gap d e = last from at line gap [] End d refl
covers {ts = ts} {stop = stop} (lex.blank {b = b} {rest = rest} f next) from gap d e =
    joined from gap (b ∷ []) rest (b ∷ rest) ts stop refl
    (covers next from (gap ++ (b ∷ [])) (keeps_line d (cover.blank_between f cover.nothing_between))
    (omega (arith, e, length-append gap (b ∷ []))))
covers {ts = ts} {stop = stop} (lex.line_end {b = b} {rest = rest} f next) from gap d e =
    joined from gap (b ∷ []) rest (b ∷ rest) ts stop refl
    (covers next from (gap ++ (b ∷ [])) (ends_line d (cover.line_end_between false f cover.nothing_between))
    (omega (arith, e, length-append gap (b ∷ []))))
covers {bs = bs} {ts = ts} {stop = stop} (lex.continuation blanks rest all split next) from gap d e =
    let more : List ℕ = 92 ∷ blanks ++ (10 ∷ []) in
    let whole : bs ≡ more ++ rest = split ∙ ap (λ l. 92 ∷ l) (sym (append_assoc blanks (10 ∷ []) rest)) in
    joined from gap more rest bs ts stop whole
    (covers next from (gap ++ more) (keeps_line d (cover.continuation_between blanks [] all refl cover.nothing_between))
    (omega (arith, e, length-append gap more, length-append blanks (10 ∷ []))))
covers {line = line} {bs = bs} {ts = ts} {stop = stop} (lex.comment body rest all split next) from gap d e =
    let more : List ℕ = 47 ∷ 42 ∷ body ++ (47 ∷ []) in
    let whole : bs ≡ more ++ rest = split ∙ ap (λ l. 47 ∷ 42 ∷ l) (sym (append_assoc body (47 ∷ []) rest)) in
    let separates = separates_append d (cover.comment_between false body [] all refl cover.nothing_between) in
    joined from gap more rest bs ts stop whole
    (covers next from (gap ++ more) (subst (λ l. Separates (line || l) (gap ++ more)) (or_false (list_any (λ b. b == 10) body))
    separates)
    (omega (arith, e, length-append gap more, length-append body (47 ∷ []))))
covers {at = at} {line = line} {stop = stop} (lex.mark {b = b} {rest = rest} {ts = ts} kind f next) from gap d e = (
  rest,
  first from at (at + 1) line kind gap (b ∷ []) rest (b ∷ rest) d (mark_spells b kind rest f) refl e (omega arith),
  anew (at + 1) rest ts stop (covers next),
)
covers {at = at} {line = line} {bs = bs} {stop = stop} (lex.text {ts = ts} body rest all split next) from gap d e =
    let spelled : List ℕ = 34 ∷ body ++ (34 ∷ []) in
    let whole : bs ≡ spelled ++ rest = split ∙ ap (λ l. 34 ∷ l) (sym (append_assoc body (34 ∷ []) rest)) in (
      rest,
      first from at (at + 1 + length body + 1) line Text gap spelled rest bs d (body, all, refl) whole e
          (omega (arith, length-append body (34 ∷ []))),
      anew (at + 1 + length body + 1) rest ts stop (covers next),
    )
covers {at = at} {line = line} {bs = bs} {stop = stop} (lex.word {ts = ts} b w rest all split next) from gap d e = (
  rest,
  first from at (at + 1 + length w) line Word gap (b ∷ w) rest bs d (omega arith, all) split e (omega arith),
  anew (at + 1 + length w) rest ts stop (covers next),
)
covers {at = at} {line = line} (lex.bad {b = b} {rest = rest} f) from gap d e =
    last from at line gap (b ∷ rest) (BadByte at) d (e, omega arith)
covers {at = at} {line = line} {bs = bs} (lex.bad_backslash blanks b rest all other split) from gap d e =
    last from at line gap bs (BadByte at) d (e, omega (arith, ap length split))
covers {at = at} {line = line} (lex.open_text {body = body} k all) from gap d e =
    last from at line gap (34 ∷ body) (OpenText at) d (e, omega arith)
covers {at = at} {line = line} (lex.open_comment {body = body} k all) from gap d e =
    last from at line gap (47 ∷ 42 ∷ body) (OpenComment at) d (e, omega arith)
covers {at = at} {line = line} (lex.open_continuation {blanks = blanks} all) from gap d e =
    last from at line gap (92 ∷ blanks) (OpenContinuation at) d (e, omega arith)

pub covered : (bytes : List ℕ) → IsCovered bytes
covered bytes = covers (reads bytes (scan_of bytes).0 (scan_of bytes).1 refl refl) 0 [] cover.nothing_between refl
