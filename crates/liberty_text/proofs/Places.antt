-- Where the tokens of a reading lie.
use Rattle.std.proofs.Common.{◌≡◌, ℕ, ◌+◌, ◌<◌, ◌≤◌, Bool, List, [], ◌∷◌, length, refl, ap, subst, arith}
use Rattle.std.specs.Prelude.{All}
use Rattle.std.specs.List.{AllByRecursion}
use Rattle.std.proofs.lemmas.List.{length-append}
use Rattle.std.proofs.lemmas.List.Elements.{All-from_recursion}
use Rattle.std.proofs.lemmas.Bool.Decides.{nat_tests}
use Rattle.liberty_text.specs.declared.token.TokenKind.{TokenKind}
use Rattle.liberty_text.specs.declared.token.TokenKind.TheVariants.{Word, Text}
use Rattle.liberty_text.specs.declared.token.Token.{Token}
use Rattle.liberty_text.specs.declared.token.Stop.{Stop}
use Rattle.liberty_text.specs.declared.class.Class.TheVariants.{Mark}
use Rattle.liberty_text.specs.Scanner.{class_of, token, scan_of}
use Rattle.liberty_text.specs.Tokens.{Lexes, Reads}
use Rattle.liberty_text.specs.Tokens as lex
use Rattle.liberty_text.specs.TokenLaws.{IsInside, AreInOrder}
use Rattle.liberty_text.proofs.Sound.{reads}

abbrev pub Inside : ℕ → List Token → Type 0
Inside len ts = AllByRecursion (IsInside len) ts

-- tokens of a shorter list of bytes lie in a longer one
pub wider : (m n : ℕ) → m ≡ n → (ts : List Token) → Inside m ts → Inside n ts
wider m n e ts = subst (λ k. Inside k ts) e

-- a mark is one byte, and no Text
mark_inside : (at b : ℕ) (line : Bool) (len : ℕ) (kind : TokenKind) → class_of b ≡ Mark kind → at + 1 ≤ len
    → IsInside len (token kind at (at + 1) line)
mark_inside at b line len Text e fits = absurd (grind (arith, nat_tests, e))
mark_inside at b line len kind e fits = record { some = omega arith; within = fits; quotes = λ f. absurd cc }

word_inside : (at end : ℕ) (line : Bool) (len : ℕ) → at < end → end ≤ len → IsInside len (token Word at end line)
word_inside at end line len some fits = record { some = some; within = fits; quotes = λ f. absurd cc }

text_inside : (at end : ℕ) (line : Bool) (len : ℕ) → at + 2 ≤ end → end ≤ len → IsInside len (token Text at end line)
text_inside at end line len some fits = record { some = omega arith; within = fits; quotes = λ _. some }

pub inside : {at : ℕ} {line : Bool} {bs : List ℕ} {ts : List Token} {stop : Stop} → Lexes at line bs ts stop →
    Inside (at + length bs) ts
inside lex.end = tt
inside {at = at} {ts = ts} (lex.blank {b = b} {rest = rest} e d) =
    wider (at + 1 + length rest) (at + length (b ∷ rest)) (omega arith) ts (inside d)
inside {at = at} {ts = ts} (lex.line_end {b = b} {rest = rest} e d) =
    wider (at + 1 + length rest) (at + length (b ∷ rest)) (omega arith) ts (inside d)
inside {at = at} {bs = bs} {ts = ts} (lex.continuation blanks rest all split d) =
    let long : length bs ≡ length blanks + length rest + 2 = omega (arith, ap length split, length-append blanks (10 ∷ rest)) in
    wider (at + 1 + length blanks + 1 + length rest) (at + length bs) (omega arith) ts (inside d)
inside {at = at} {bs = bs} {ts = ts} (lex.comment body rest all split d) =
    let long : length bs ≡ length body + length rest + 3 = omega (arith, ap length split, length-append body (47 ∷ rest)) in
    wider (at + 2 + length body + 1 + length rest) (at + length bs) (omega arith) ts (inside d)
inside {at = at} {line = line} (lex.mark {b = b} {rest = rest} {ts = ts} kind e d) = (
  mark_inside at b line (at + length (b ∷ rest)) kind e (omega arith),
  wider (at + 1 + length rest) (at + length (b ∷ rest)) (omega arith) ts (inside d),
)
inside {at = at} {line = line} {bs = bs} (lex.text {ts = ts} body rest all split d) =
    let long : length bs ≡ length body + length rest + 2 = omega (arith, ap length split, length-append body (34 ∷ rest)) in (
      text_inside at (at + 1 + length body + 1) line (at + length bs) (omega arith) (omega arith),
      wider (at + 1 + length body + 1 + length rest) (at + length bs) (omega arith) ts (inside d),
    )
inside {at = at} {line = line} {bs = bs} (lex.word {ts = ts} b w rest all split d) =
    let long : length bs ≡ length w + length rest + 1 = omega (arith, ap length split, length-append w rest) in (
      word_inside at (at + 1 + length w) line (at + length bs) (omega arith) (omega arith),
      wider (at + 1 + length w + length rest) (at + length bs) (omega arith) ts (inside d),
    )
inside (lex.bad e) = tt
inside (lex.bad_backslash blanks b rest all other split) = tt
inside (lex.open_text last all) = tt
inside (lex.open_comment last all) = tt
inside (lex.open_continuation all) = tt

-- what begins behind an offset begins behind one before it
earlier : (m n : ℕ) → m ≤ n → (ts : List Token) → AreInOrder n ts → AreInOrder m ts
earlier m n le [] order = tt
earlier m n le (t ∷ ts) order = (omega (arith, order.0), order.1)

pub in_order : {at : ℕ} {line : Bool} {bs : List ℕ} {ts : List Token} {stop : Stop} → Lexes at line bs ts stop → AreInOrder at ts
in_order lex.end = tt
in_order {at = at} {ts = ts} (lex.blank e d) = earlier at (at + 1) (omega arith) ts (in_order d)
in_order {at = at} {ts = ts} (lex.line_end e d) = earlier at (at + 1) (omega arith) ts (in_order d)
in_order {at = at} {ts = ts} (lex.continuation blanks rest all split d) =
    earlier at (at + 1 + length blanks + 1) (omega arith) ts (in_order d)
in_order {at = at} {ts = ts} (lex.comment body rest all split d) =
    earlier at (at + 2 + length body + 1) (omega arith) ts (in_order d)
in_order {at = at} (lex.mark kind e d) = (omega arith, in_order d)
in_order {at = at} (lex.text body rest all split d) = (omega arith, in_order d)
in_order {at = at} (lex.word b w rest all split d) = (omega arith, in_order d)
in_order (lex.bad e) = tt
in_order (lex.bad_backslash blanks b rest all other split) = tt
in_order (lex.open_text last all) = tt
in_order (lex.open_comment last all) = tt
in_order (lex.open_continuation all) = tt

pub all_inside : (bytes : List ℕ) (ts : List Token) → ts ≡ (scan_of bytes).0 → All (IsInside (length bytes)) ts
all_inside bytes ts e = All-from_recursion (IsInside (length bytes)) ts
    (wider (0 + length bytes) (length bytes) (omega arith) ts (inside (reads bytes ts (scan_of bytes).1 e refl)))

pub all_in_order : (bytes : List ℕ) (ts : List Token) → ts ≡ (scan_of bytes).0 → AreInOrder 0 ts
all_in_order bytes ts e = in_order (reads bytes ts (scan_of bytes).1 e refl)
