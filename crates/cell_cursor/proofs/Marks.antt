-- Behind a brace of a group and behind a semicolon nothing stands open.
use Rattle.std.proofs.Common.{◌≡◌, ℕ, ◌+◌, ◌==◌, ◌&&◌, ◌||◌, not, Bool, true, false, List, [], ◌∷◌, Some, None, cond, refl}
use Rattle.liberty_text.specs.declared.token.TokenKind.{TokenKind}
use Rattle.liberty_text.specs.declared.token.TokenKind.TheVariants.{Word, Text}
use Rattle.liberty_text.specs.declared.token.Token.{Token}
use Rattle.liberty_text.specs.declared.class.Class.{Class}
use Rattle.liberty_text.specs.declared.class.Class.TheVariants.{LineEnd, Blank, Mark, Quote, Backslash, WordByte, Bad}
use Rattle.liberty_text.specs.declared.scanner.Mode.{Mode}
use Rattle.liberty_text.specs.declared.scanner.Mode.TheVariants.{Between, InWord, InText, InComment, InContinuation, Stopped}
use Rattle.liberty_text.specs.Scanner.{class_of, token, opened_by, after_token, in_word_by, comment_in_word, in_continuation}
use Rattle.liberty_text.specs.Scanner.{step}
use Rattle.cell_cursor.specs.Scanned.{last_mark}

abbrev Closes : Mode × List Token → Type 0
Closes p = (k : TokenKind) → last_mark p.1 ≡ Some k → p.0 ≡ Between false

opened_closes : (line : Bool) (at b : ℕ) (c : Class) → Closes (opened_by line at b c)
opened_closes line at b LineEnd k e = absurd cc
opened_closes line at b Blank k e = absurd cc
opened_closes line at b (Mark kind) k e = refl
opened_closes line at b Quote k e = absurd cc
opened_closes line at b Backslash k e = absurd cc
opened_closes line at b WordByte k e = absurd cc
opened_closes line at b Bad k e = absurd cc

word_closes : (begun at b : ℕ) (line : Bool) (c : Class)
    → Closes (after_token (token Word begun at line) (opened_by false at b c))
word_closes begun at b line (Mark kind) k e = refl
word_closes begun at b line _ k e = absurd cc

in_word_closes : (begun at b : ℕ) (line : Bool) (c : Class) → Closes (in_word_by begun line at b c)
in_word_closes begun at b line WordByte = λ k e. absurd cc
in_word_closes begun at b line _ = word_closes begun at b line (class_of b)

choice_closes : (x : Bool) (p q : Mode × List Token) → Closes p → Closes q → Closes (cond x p q)
choice_closes true p q h i = h
choice_closes false p q h i = i

pub step_closes : (mode : Mode) (at b : ℕ) → Closes (step mode at b)
step_closes (Between line) at b = opened_closes line at b (class_of b)
step_closes (InWord begun line None) at b = in_word_closes begun at b line (class_of b)
step_closes (InWord begun line (Some slash)) at b =
    choice_closes (b == 42) (comment_in_word begun line slash) (in_word_by begun line at b (class_of b))
    (choice_closes (begun == slash) (InComment slash line false, [])
    (InComment slash false false, token Word begun slash line ∷ []) (λ k e. absurd cc) (λ k e. absurd cc))
    (in_word_closes begun at b line (class_of b))
step_closes (InText begun line escaped) at b =
    choice_closes (b == 34 && not escaped) (Between false, token Text begun (at + 1) line ∷ []) (InText begun line (b == 92), [])
    (λ k e. absurd cc) (λ k e. absurd cc)
step_closes (InComment begun line star) at b =
    choice_closes (b == 47 && star) (Between line, []) (InComment begun (line || b == 10) (b == 42), []) (λ k e. absurd cc)
    (λ k e. absurd cc)
step_closes (InContinuation begun line) at b = blanks_close begun line (class_of b)
  where
    blanks_close : (begun : ℕ) (line : Bool) (c : Class) → Closes (in_continuation begun line c)
    blanks_close begun line LineEnd k e = absurd cc
    blanks_close begun line Blank k e = absurd cc
    blanks_close begun line (Mark kind) k e = absurd cc
    blanks_close begun line Quote k e = absurd cc
    blanks_close begun line Backslash k e = absurd cc
    blanks_close begun line WordByte k e = absurd cc
    blanks_close begun line Bad k e = absurd cc
step_closes (Stopped begun) at b = λ k e. absurd cc
