-- A reading by the lexical grammar is what is found byte by byte.
use Rattle.std.proofs.Common.{◌≡◌, ℕ, ◌+◌, ◌<◌, ◌++◌, Bool, true, false, not, List, [], ◌∷◌, Option, Some, None, length, ◌==◌}
use Rattle.std.proofs.Common.{◌||◌, ◌&&◌, refl, sym, ◌∙◌, ap, subst, arith, cond}
use Rattle.std.proofs.lemmas.Bool.Decides.{nat_tests}
use Rattle.std.specs.List.{list_any}
use Rattle.std.proofs.lemmas.List.{append-nil}
use Rattle.std.proofs.lemmas.Bool.{and_parts as both}
use Rattle.std.proofs.Math.Bool.{or_assoc}
use Rattle.liberty_text.specs.declared.token.TokenKind.TheVariants.{Word, Text}
use Rattle.liberty_text.specs.declared.token.Token.{Token}
use Rattle.liberty_text.specs.declared.token.Stop.{Stop}
use Rattle.liberty_text.specs.declared.token.Stop.TheVariants.{BadByte}
use Rattle.liberty_text.specs.declared.class.Class.{Class}
use Rattle.liberty_text.specs.declared.class.Class.TheVariants.{LineEnd, Blank, Mark, Quote, Backslash, WordByte, Bad}
use Rattle.liberty_text.specs.declared.scanner.Mode.{Mode}
use Rattle.liberty_text.specs.declared.scanner.Mode.TheVariants.{Between, InWord, InText, InComment, InContinuation, Stopped}
use Rattle.liberty_text.specs.Scanner.{class_of, token, slash_at, opened_by, in_word_by, comment_in_word, in_continuation}
use Rattle.liberty_text.specs.Scanner.{after_tokens, run}
use Rattle.liberty_text.specs.Tokens.{is_word_class, opens_comment, ends_word, WordBytes, TextBytes, CommentBytes, AreBlanks}
use Rattle.liberty_text.specs.Tokens.{IsNoBlank, Lexes, Reads}
use Rattle.liberty_text.specs.Tokens as lex
use Rattle.liberty_text.proofs.Sound.{reads}
use Rattle.liberty_text.specs.TokenLaws.{HaveOneReading}

-- the rest of a reading behind what a step gives
abbrev pub behind : Mode × List Token → ℕ → List ℕ → List Token × Stop
behind (mode, ts) at bs = after_tokens ts (run mode at bs)

-- what a chosen step gives
chosen : (q v : Bool) (first second : Mode × List Token) (at : ℕ) (bs : List ℕ) → q ≡ v →
    behind (cond q first second) at bs ≡ behind (cond v first second) at bs
chosen q v first second at bs e = ap (λ w. behind (cond w first second) at bs) e

-- an offset that is written otherwise
moved : (mode : Mode) (bs : List ℕ) (m n : ℕ) → m ≡ n → run mode m bs ≡ run mode n bs
moved mode bs m n e = ap (λ k. run mode k bs) e

-- the bytes of a text are passed
pub past_text : (begun : ℕ) (line : Bool) {escaped last : Bool} {body : List ℕ} → TextBytes escaped last body
    → (at : ℕ) (rest : List ℕ) →
    run (InText begun line escaped) at (body ++ rest) ≡ run (InText begun line last) (at + length body) rest
past_text begun line {escaped = escaped} lex.text_ends at rest = moved (InText begun line escaped) rest at (at + 0) (omega arith)
past_text begun line {escaped = escaped} {last = last} (lex.text_byte {b = b} {bs = bs} e more) at rest =
    chosen (b == 34 && not escaped) false (Between false, token Text begun (at + 1) line ∷ []) (InText begun line (b == 92), [])
    (at + 1) (bs ++ rest) e
    ∙ past_text begun line more (at + 1) rest
    ∙ moved (InText begun line last) rest (at + 1 + length bs) (at + length (b ∷ bs)) (omega arith)

-- the bytes of a comment are passed
pub past_comment : (begun : ℕ) (line : Bool) {star last : Bool} {body : List ℕ} → CommentBytes star last body
    → (at : ℕ) (rest : List ℕ) →
    run (InComment begun line star) at (body ++ rest) ≡ run (InComment begun (line || list_any (λ b. b == 10) body) last)
    (at + length body) rest
past_comment begun line {star = star} lex.comment_ends at rest =
    ap (λ l. run (InComment begun l star) at rest) (or_none line) ∙ moved (InComment begun (line || false) star) rest at (at + 0)
    (omega arith)
  where
    or_none : (a : Bool) → a ≡ (a || false)
    or_none true = refl
    or_none false = refl
past_comment begun line {star = star} {last = last} (lex.comment_byte {b = b} {bs = bs} e more) at rest =
    chosen (b == 47 && star) false (Between line, []) (InComment begun (line || b == 10) (b == 42), []) (at + 1) (bs ++ rest) e
    ∙ past_comment begun (line || b == 10) more (at + 1) rest
    ∙ ap (λ l. run (InComment begun l last) (at + 1 + length bs) rest) (or_assoc line (b == 10) (list_any (λ x. x == 10) bs))
    ∙ moved (InComment begun (line || list_any (λ x. x == 10) (b ∷ bs)) last) rest (at + 1 + length bs) (at + length (b ∷ bs))
    (omega arith)

-- blanks behind a backslash are passed
pub past_blanks : (begun : ℕ) (line : Bool) (blanks : List ℕ) → AreBlanks blanks → (at : ℕ) (rest : List ℕ) →
    run (InContinuation begun line) at (blanks ++ rest) ≡ run (InContinuation begun line) (at + length blanks) rest
past_blanks begun line [] all at rest = moved (InContinuation begun line) rest at (at + 0) (omega arith)
past_blanks begun line (b ∷ bs) (e, all) at rest =
    ap (λ k. behind (in_continuation begun line k) (at + 1) (bs ++ rest)) e
    ∙ past_blanks begun line bs all (at + 1) rest
    ∙ moved (InContinuation begun line) rest (at + 1 + length bs) (at + length (b ∷ bs)) (omega arith)

-- a byte with which a word goes on is a word's
pub goes_on_class : (b : ℕ) (bs : List ℕ) → ends_word (b ∷ bs) ≡ false → (class_of b ≡ WordByte)
    × (opens_comment (b ∷ bs) ≡ false)
goes_on_class b bs = by_class (class_of b) refl
  where
    by_class : (k : Class) → class_of b ≡ k → (not (is_word_class k) || opens_comment (b ∷ bs)) ≡ false → (class_of b ≡ WordByte)
        × (opens_comment (b ∷ bs) ≡ false)
    by_class WordByte e f = (e, f)
    by_class LineEnd e f = absurd cc
    by_class Blank e f = absurd cc
    by_class (Mark kind) e f = absurd cc
    by_class Quote e f = absurd cc
    by_class Backslash e f = absurd cc
    by_class Bad e f = absurd cc

-- no slash stands before these bytes, or none that opens a comment with them
abbrev pub IsKept : Option ℕ → List ℕ → Type 0
IsKept None bs = Unit {0}
IsKept (Some slash) bs = opens_comment (47 ∷ bs) ≡ false

-- a word's byte is taken
pub word_byte_step : (begun : ℕ) (line : Bool) (slash : Option ℕ) (at b : ℕ) (bs : List ℕ) → class_of b ≡ WordByte
    → IsKept slash (b ∷ bs) →
    run (InWord begun line slash) at (b ∷ bs) ≡ run (InWord begun line (slash_at at b)) (at + 1) bs
word_byte_step begun line None at b bs e kept = ap (λ k. behind (in_word_by begun line at b k) (at + 1) bs) e
word_byte_step begun line (Some slash) at b bs e kept =
    chosen (b == 42) false (comment_in_word begun line slash) (in_word_by begun line at b (class_of b)) (at + 1) bs kept
    ∙ ap (λ k. behind (in_word_by begun line at b k) (at + 1) bs) e

-- no word goes on behind this one
abbrev pub word_then : ℕ → Bool → ℕ → List ℕ → List Token × Stop
word_then begun line at rest = after_tokens (token Word begun at line ∷ []) (run (Between false) at rest)

pub same_number : (n : ℕ) → (n == n) ≡ true
same_number n = grind (arith, nat_tests)

pub other_number : (m n : ℕ) → m < n → (m == n) ≡ false
other_number m n less = grind (arith, nat_tests)

-- a slash and a star open a comment
pub comment_opens : (line : Bool) (at : ℕ) (bs : List ℕ)
    → run (Between line) at (47 ∷ 42 ∷ bs) ≡ run (InComment at line false) (at + 1 + 1) bs
comment_opens line at bs =
    chosen (at == at) true (InComment at line false, []) (InComment at false false, token Word at at line ∷ []) (at + 1 + 1) bs
    (same_number at)

-- a word ends before a slash and a star
pub word_then_comment : (begun : ℕ) (line : Bool) (slash : Option ℕ) (at : ℕ) (bs : List ℕ) → IsKept slash (47 ∷ 42 ∷ bs)
    → begun < at →
    run (InWord begun line slash) at (47 ∷ 42 ∷ bs) ≡ word_then begun line at (47 ∷ 42 ∷ bs)
word_then_comment begun line slash at bs kept past =
    word_byte_step begun line slash at 47 (42 ∷ bs) refl kept
    ∙ chosen (begun == at) false (InComment at line false, []) (InComment at false false, token Word begun at line ∷ [])
    (at + 1 + 1) bs (other_number begun at past)
    ∙ ap (after_tokens (token Word begun at line ∷ [])) (sym (comment_opens false at bs))

-- a word ends before a byte of no word
pub word_then_byte : (begun : ℕ) (line : Bool) (slash : Option ℕ) (at b : ℕ) (bs : List ℕ) → is_word_class (class_of b) ≡ false
    → IsKept slash (b ∷ bs) →
    run (InWord begun line slash) at (b ∷ bs) ≡ word_then begun line at (b ∷ bs)
word_then_byte begun line slash at b bs other kept = by_slash slash kept
  where
    by_class : (k : Class) → is_word_class k ≡ false
        → behind (in_word_by begun line at b k) (at + 1) bs ≡ word_then begun line at (b ∷ bs)
    by_class WordByte f = absurd cc
    by_class LineEnd f = refl
    by_class Blank f = refl
    by_class (Mark kind) f = refl
    by_class Quote f = refl
    by_class Backslash f = refl
    by_class Bad f = refl

    by_slash : (slash : Option ℕ) → IsKept slash (b ∷ bs)
        → run (InWord begun line slash) at (b ∷ bs) ≡ word_then begun line at (b ∷ bs)
    by_slash None kept = by_class (class_of b) other
    by_slash (Some slash) kept =
        chosen (b == 42) false (comment_in_word begun line slash) (in_word_by begun line at b (class_of b)) (at + 1) bs kept
        ∙ by_class (class_of b) other

-- a word ends where it ends
pub word_then_rest : (begun : ℕ) (line : Bool) (slash : Option ℕ) (at : ℕ) (rest : List ℕ) → ends_word rest ≡ true
    → IsKept slash rest → begun < at →
    run (InWord begun line slash) at rest ≡ word_then begun line at rest
word_then_rest begun line slash at [] e kept past = refl
word_then_rest begun line slash at (b ∷ []) e kept past =
    word_then_byte begun line slash at b [] (not_word (is_word_class (class_of b)) e) kept
  where
    not_word : (q : Bool) → (not q || false) ≡ true → q ≡ false
    not_word true f = absurd cc
    not_word false f = refl
word_then_rest begun line slash at (b ∷ c ∷ bs) e kept past = by_test (is_word_class (class_of b)) refl
  where
    opens : (q : Bool) → q ≡ true → (not q || (b == 47 && c == 42)) ≡ true → (b == 47 && c == 42) ≡ true
    opens true f g = g
    opens false f g = absurd cc

    by_test : (q : Bool) → is_word_class (class_of b) ≡ q
        → run (InWord begun line slash) at (b ∷ c ∷ bs) ≡ word_then begun line at (b ∷ c ∷ bs)
    by_test false f = word_then_byte begun line slash at b (c ∷ bs) f kept
    by_test true f =
        let parts = both (b == 47) (c == 42) (opens (is_word_class (class_of b)) f e) in
        let slash_is : 47 ≡ b = grind (arith, nat_tests, parts.0) in
        let star_is : 42 ≡ c = grind (arith, nat_tests, parts.1) in
        let P : ℕ → ℕ → Type 0 = λ x y. IsKept slash (x ∷ y ∷ bs)
        → run (InWord begun line slash) at (x ∷ y ∷ bs) ≡ word_then begun line at (x ∷ y ∷ bs) in
        subst (λ x. P x c) slash_is (subst (λ y. P 47 y) star_is (λ k. word_then_comment begun line slash at bs k past)) kept

-- a slash at an offset is kept where no comment opens with it
pub keeps : (at b : ℕ) (bs : List ℕ) → opens_comment (b ∷ bs) ≡ false → IsKept (slash_at at b) bs
keeps at b bs e = by_test (b == 47) refl
  where
    by_test : (q : Bool) → (b == 47) ≡ q → IsKept (cond q (Some at) None) bs
    by_test true f =
        let slash_is : b ≡ 47 = grind (arith, nat_tests, f) in
        subst (λ x. opens_comment (x ∷ bs) ≡ false) slash_is e
    by_test false f = tt

-- the bytes of a word are passed
pub past_word : (begun : ℕ) (line : Bool) {w rest : List ℕ} → WordBytes w rest → (slash : Option ℕ) (at : ℕ)
    → IsKept slash (w ++ rest) → begun < at →
    run (InWord begun line slash) at (w ++ rest) ≡ word_then begun line (at + length w) rest
past_word begun line {rest = rest} (lex.word_ends e) slash at kept past =
    word_then_rest begun line slash at rest e kept past ∙ ap (λ n. word_then begun line n rest) (omega arith)
past_word begun line {rest = rest} (lex.word_byte {b = b} {w = w} e more) slash at kept past =
    let parts = goes_on_class b (w ++ rest) e in
    word_byte_step begun line slash at b (w ++ rest) parts.0 kept
    ∙ past_word begun line more (slash_at at b) (at + 1) (keeps at b (w ++ rest) parts.1) (omega arith)
    ∙ ap (λ n. word_then begun line n rest) (omega arith)

-- after a bad byte nothing more is read
pub past_stop : (begun at : ℕ) (bs : List ℕ) → run (Stopped begun) at bs ≡ ([], BadByte begun)
past_stop begun at [] = refl
past_stop begun at (b ∷ bs) = past_stop begun (at + 1) bs

-- a backslash and blanks without a line end
pub broken_by : (begun : ℕ) (line : Bool) (at : ℕ) (bs : List ℕ) (k : Class) → IsNoBlank k →
    behind (in_continuation begun line k) (at + 1) bs ≡ ([], BadByte begun)
broken_by begun line at bs LineEnd other = absurd other
broken_by begun line at bs Blank other = absurd other
broken_by begun line at bs (Mark kind) other = past_stop begun (at + 1) bs
broken_by begun line at bs Quote other = past_stop begun (at + 1) bs
broken_by begun line at bs Backslash other = past_stop begun (at + 1) bs
broken_by begun line at bs WordByte other = past_stop begun (at + 1) bs
broken_by begun line at bs Bad other = past_stop begun (at + 1) bs

-- between tokens, a byte of this class
pub between : (line : Bool) (at b : ℕ) (bs : List ℕ) (k : Class) → class_of b ≡ k →
    run (Between line) at (b ∷ bs) ≡ behind (opened_by line at b k) (at + 1) bs
between line at b bs k e = ap (λ v. behind (opened_by line at b v) (at + 1) bs) e

pub complete : {at : ℕ} {line : Bool} {bs : List ℕ} {ts : List Token} {stop : Stop} → Lexes at line bs ts stop →
    run (Between line) at bs ≡ (ts, stop)
complete lex.end = refl
complete {at = at} {line = line} (lex.blank {b = b} {rest = rest} e d) = between line at b rest Blank e ∙ complete d
complete {at = at} {line = line} (lex.line_end {b = b} {rest = rest} e d) = between line at b rest LineEnd e ∙ complete d
complete {at = at} {line = line} (lex.continuation blanks rest all split d) =
    ap (run (Between line) at) split ∙ past_blanks at line blanks all (at + 1) (10 ∷ rest) ∙ complete d
complete {at = at} {line = line} (lex.comment body rest all split d) =
    ap (run (Between line) at) split ∙ comment_opens line at (body ++ (47 ∷ rest))
    ∙ moved (InComment at line false) (body ++ (47 ∷ rest)) (at + 1 + 1) (at + 2) (omega arith)
    ∙ past_comment at line all (at + 2) (47 ∷ rest) ∙ complete d
complete {at = at} {line = line} (lex.mark {b = b} {rest = rest} kind e d) =
    between line at b rest (Mark kind) e ∙ ap (after_tokens (token kind at (at + 1) line ∷ [])) (complete d)
complete {at = at} {line = line} (lex.text body rest all split d) =
    ap (run (Between line) at) split ∙ past_text at line all (at + 1) (34 ∷ rest)
    ∙ ap (after_tokens (token Text at (at + 1 + length body + 1) line ∷ [])) (complete d)
complete {at = at} {line = line} (lex.word b w rest (lex.word_byte e more) split d) =
    let parts = goes_on_class b (w ++ rest) e in
    ap (run (Between line) at) split ∙ between line at b (w ++ rest) WordByte parts.0
    ∙ past_word at line more (slash_at at b) (at + 1) (keeps at b (w ++ rest) parts.1) (omega arith)
    ∙ ap (after_tokens (token Word at (at + 1 + length w) line ∷ [])) (complete d)
complete {at = at} {line = line} (lex.bad {b = b} {rest = rest} e) = between line at b rest Bad e ∙ past_stop at (at + 1) rest
complete {at = at} {line = line} (lex.bad_backslash blanks b rest all other split) =
    ap (run (Between line) at) split ∙ past_blanks at line blanks all (at + 1) (b ∷ rest)
    ∙ broken_by at line (at + 1 + length blanks) rest (class_of b) other
complete {at = at} {line = line} (lex.open_text {body = body} last all) =
    ap (run (InText at line false) (at + 1)) (sym (append-nil body)) ∙ past_text at line all (at + 1) []
complete {at = at} {line = line} (lex.open_comment {body = body} last all) =
    comment_opens line at body ∙ ap (run (InComment at line false) (at + 1 + 1)) (sym (append-nil body))
    ∙ past_comment at line all (at + 1 + 1) []
complete {at = at} {line = line} (lex.open_continuation {blanks = blanks} all) =
    ap (run (InContinuation at line) (at + 1)) (sym (append-nil blanks)) ∙ past_blanks at line blanks all (at + 1) []

-- each list of bytes has one reading
pub one_reading : (bytes : List ℕ) → HaveOneReading bytes
one_reading bytes ts stop = (complete, λ e. reads bytes ts stop (sym (ap (λ p. p.0) e)) (sym (ap (λ p. p.1) e)))
