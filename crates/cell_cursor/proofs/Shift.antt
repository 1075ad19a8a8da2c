-- A part of a text is scanned as it would be from its beginning, with its offsets moved.
use Rattle.std.proofs.Common.{◌≡◌, ℕ, ◌+◌, ◌-◌, ◌==◌, ◌&&◌, ◌||◌, not, Bool, true, false, List, [], ◌∷◌, ◌++◌, map, length, take}
use Rattle.std.proofs.Common.{drop, slice_range, Option, Some, None, cond, refl, sym, ap, ◌∙◌, arith, zero-add}
use Rattle.std.specs.Option.{option_map}
use Rattle.std.proofs.lemmas.List.{map-append, drop-drop}
use Rattle.std.proofs.Math.Seq.{drop-append_seam}
use Rattle.std.proofs.lemmas.Bool.Decides.{nat_tests}
use Rattle.liberty_text.specs.declared.token.TokenKind.TheVariants.{Word, Text}
use Rattle.liberty_text.specs.declared.token.Token.{Token}
use Rattle.liberty_text.specs.declared.token.Stop.{Stop}
use Rattle.liberty_text.specs.declared.class.Class.{Class}
use Rattle.liberty_text.specs.declared.class.Class.TheVariants.{LineEnd, Blank, Mark, Quote, Backslash, WordByte, Bad}
use Rattle.liberty_text.specs.declared.scanner.Mode.{Mode}
use Rattle.liberty_text.specs.declared.scanner.Mode.TheVariants.{Between, InWord, InText, InComment, InContinuation, Stopped}
use Rattle.liberty_text.specs.Scanner.{class_of, token, opened_by, opened, after_token, in_word_by, comment_in_word, in_word}
use Rattle.liberty_text.specs.Scanner.{in_text, in_continuation, step, closing, after_tokens, run, scan_of}
use Rattle.liberty_groups.specs.Lexeme.{Lexeme, behind, lexeme_behind, lexemes_behind, LieInside}
use Rattle.liberty_groups.proofs.Lexemes.{slice_more}
use Rattle.cell_cursor.specs.Scanned.{stop_behind, AreScanned}

-- what stands open, with its offsets moved
abbrev pub moved : ℕ → Mode → Mode
moved n (Between line) = Between line
moved n (InWord at line slash) = InWord (at + n) line (option_map (λ (k : ℕ). k + n) slash)
moved n (InText at line escaped) = InText (at + n) line escaped
moved n (InComment at line star) = InComment (at + n) line star
moved n (InContinuation at line) = InContinuation (at + n) line
moved n (Stopped at) = Stopped (at + n)

abbrev pub both : ℕ → Mode × List Token → Mode × List Token
both n p = (moved n p.0, map (behind n) p.1)

choice_moves : (n : ℕ) (x : Bool) (p q : Mode × List Token) → cond x (both n p) (both n q) ≡ both n (cond x p q)
choice_moves n true p q = refl
choice_moves n false p q = refl

after_moves : (n : ℕ) (t : Token) (p : Mode × List Token) → after_token (behind n t) (both n p) ≡ both n (after_token t p)
after_moves n t p = refl

some_moves : (n : ℕ) (x : Bool) (at : ℕ) → cond x (Some (at + n)) None ≡ option_map (λ (k : ℕ). k + n) (cond x (Some at) None)
some_moves n true at = refl
some_moves n false at = refl

end_moves : (at n : ℕ) → at + n + 1 ≡ at + 1 + n
end_moves at n = omega arith

opened_moves_by : (n : ℕ) (line : Bool) (at b : ℕ) (c : Class) → opened_by line (at + n) b c ≡ both n (opened_by line at b c)
opened_moves_by n line at b LineEnd = refl
opened_moves_by n line at b Blank = refl
opened_moves_by n line at b (Mark kind) = ap (λ (e : ℕ). (Between false, token kind (at + n) e line ∷ [])) (end_moves at n)
opened_moves_by n line at b Quote = refl
opened_moves_by n line at b Backslash = refl
opened_moves_by n line at b WordByte = ap (λ (o : Option ℕ). (InWord (at + n) line o, [])) (some_moves n (b == 47) at)
opened_moves_by n line at b Bad = refl

opened_moves : (n : ℕ) (line : Bool) (at b : ℕ) → opened line (at + n) b ≡ both n (opened line at b)
opened_moves n line at b = opened_moves_by n line at b (class_of b)

word_ends : (n begun : ℕ) (line : Bool) (at b : ℕ) →
    after_token (token Word (begun + n) (at + n) line) (opened false (at + n) b) ≡ both n
    (after_token (token Word begun at line) (opened false at b))
word_ends n begun line at b = ap (after_token (token Word (begun + n) (at + n) line)) (opened_moves n false at b)
    ∙ after_moves n (token Word begun at line) (opened false at b)

word_moves_by : (n begun : ℕ) (line : Bool) (at b : ℕ) (c : Class)
    → in_word_by (begun + n) line (at + n) b c ≡ both n (in_word_by begun line at b c)
word_moves_by n begun line at b WordByte = ap (λ (o : Option ℕ). (InWord (begun + n) line o, [])) (some_moves n (b == 47) at)
word_moves_by n begun line at b LineEnd = word_ends n begun line at b
word_moves_by n begun line at b Blank = word_ends n begun line at b
word_moves_by n begun line at b (Mark kind) = word_ends n begun line at b
word_moves_by n begun line at b Quote = word_ends n begun line at b
word_moves_by n begun line at b Backslash = word_ends n begun line at b
word_moves_by n begun line at b Bad = word_ends n begun line at b

same_moves : (a b n : ℕ) → (a + n == b + n) ≡ (a == b)
same_moves a b n = grind (arith, nat_tests)

comment_moves : (n begun : ℕ) (line : Bool) (slash : ℕ)
    → comment_in_word (begun + n) line (slash + n) ≡ both n (comment_in_word begun line slash)
comment_moves n begun line slash =
    ap (λ (x : Bool). cond x (InComment (slash + n) line false, [])
    (InComment (slash + n) false false, token Word (begun + n) (slash + n) line ∷ [])) (same_moves begun slash n)
    ∙ choice_moves n (begun == slash) (InComment slash line false, [])
    (InComment slash false false, token Word begun slash line ∷ [])

word_moves : (n begun : ℕ) (line : Bool) (slash : Option ℕ) (at b : ℕ) →
    in_word (begun + n) line (option_map (λ (k : ℕ). k + n) slash) (at + n) b ≡ both n (in_word begun line slash at b)
word_moves n begun line None at b = word_moves_by n begun line at b (class_of b)
word_moves n begun line (Some slash) at b =
    ap (λ (p : Mode × List Token). cond (b == 42) p (in_word_by (begun + n) line (at + n) b (class_of b)))
    (comment_moves n begun line slash)
    ∙ ap (cond (b == 42) (both n (comment_in_word begun line slash))) (word_moves_by n begun line at b (class_of b))
    ∙ choice_moves n (b == 42) (comment_in_word begun line slash) (in_word_by begun line at b (class_of b))

text_moves : (n begun : ℕ) (line escaped : Bool) (at b : ℕ)
    → in_text (begun + n) line escaped (at + n) b ≡ both n (in_text begun line escaped at b)
text_moves n begun line escaped at b =
    ap (λ (e : ℕ). cond (b == 34 && not escaped) (Between false, token Text (begun + n) e line ∷ [])
    (InText (begun + n) line (b == 92), [])) (end_moves at n)
    ∙ choice_moves n (b == 34 && not escaped) (Between false, token Text begun (at + 1) line ∷ [])
    (InText begun line (b == 92), [])

continuation_moves : (n begun : ℕ) (line : Bool) (c : Class)
    → in_continuation (begun + n) line c ≡ both n (in_continuation begun line c)
continuation_moves n begun line LineEnd = refl
continuation_moves n begun line Blank = refl
continuation_moves n begun line (Mark kind) = refl
continuation_moves n begun line Quote = refl
continuation_moves n begun line Backslash = refl
continuation_moves n begun line WordByte = refl
continuation_moves n begun line Bad = refl

step_moves : (n : ℕ) (mode : Mode) (at b : ℕ) → step (moved n mode) (at + n) b ≡ both n (step mode at b)
step_moves n (Between line) at b = opened_moves n line at b
step_moves n (InWord begun line slash) at b = word_moves n begun line slash at b
step_moves n (InText begun line escaped) at b = text_moves n begun line escaped at b
step_moves n (InComment begun line star) at b =
    choice_moves n (b == 47 && star) (Between line, []) (InComment begun (line || b == 10) (b == 42), [])
step_moves n (InContinuation begun line) at b = continuation_moves n begun line (class_of b)
step_moves n (Stopped begun) at b = refl

abbrev pub all_moved : ℕ → List Token × Stop → List Token × Stop
all_moved n p = (map (behind n) p.0, stop_behind n p.1)

closing_moves : (n : ℕ) (mode : Mode) (at : ℕ) → closing (moved n mode) (at + n) ≡ all_moved n (closing mode at)
closing_moves n (Between line) at = refl
closing_moves n (InWord begun line slash) at = refl
closing_moves n (InText begun line escaped) at = refl
closing_moves n (InComment begun line star) at = refl
closing_moves n (InContinuation begun line) at = refl
closing_moves n (Stopped begun) at = refl

gathered_moves : (n : ℕ) (ts : List Token) (p : List Token × Stop)
    → after_tokens (map (behind n) ts) (all_moved n p) ≡ all_moved n (after_tokens ts p)
gathered_moves n ts p = ap (λ (us : List Token). (us, stop_behind n p.1)) (sym (map-append (behind n) ts p.0))

pub run_moves : (n : ℕ) (mode : Mode) (at : ℕ) (bytes : List ℕ)
    → run (moved n mode) (at + n) bytes ≡ all_moved n (run mode at bytes)
run_moves n mode at [] = closing_moves n mode at
run_moves n mode at (b ∷ bytes) =
    ap (λ (p : Mode × List Token). after_tokens p.1 (run p.0 (at + n + 1) bytes)) (step_moves n mode at b)
    ∙ ap (λ (k : ℕ). after_tokens (map (behind n) (step mode at b).1) (run (moved n (step mode at b).0) k bytes)) (end_moves at n)
    ∙ ap (after_tokens (map (behind n) (step mode at b).1)) (run_moves n (step mode at b).0 (at + 1) bytes)
    ∙ gathered_moves n (step mode at b).1 (run (step mode at b).0 (at + 1) bytes)

-- bytes behind others, where nothing stands open between them
pub scan_behind : (n : ℕ) (bytes : List ℕ) → run (Between false) n bytes ≡ all_moved n (scan_of bytes)
scan_behind n bytes = ap (λ (k : ℕ). run (Between false) k bytes) (sym (zero-add n)) ∙ run_moves n (Between false) 0 bytes

pub scan_on : (bytes : List ℕ) (tokens : List Token) → AreScanned bytes tokens (Between false) → (more : List ℕ) →
    scan_of (bytes ++ more) ≡ after_tokens tokens (all_moved (length bytes) (scan_of more))
scan_on bytes tokens h more = h more ∙ ap (after_tokens tokens) (scan_behind (length bytes) more)

slice_behind : (bytes more : List ℕ) (a e : ℕ)
    → slice_range (bytes ++ more) (a + length bytes) (e + length bytes) ≡ slice_range more a e
slice_behind bytes more a e =
    let k : e + length bytes - (a + length bytes) ≡ e - a = omega arith in
    let j : a + length bytes ≡ length bytes + a = omega arith in
    ap (λ (i : ℕ). take i (drop (a + length bytes) (bytes ++ more))) k
    ∙ ap (λ (i : ℕ). take (e - a) (drop i (bytes ++ more))) j
    ∙ ap (take (e - a)) (sym (drop-drop a (length bytes) (bytes ++ more)))
    ∙ ap (λ (s : List ℕ). take (e - a) (drop a s)) (drop-append_seam bytes more)

twice_behind : (n k : ℕ) (t : Token) → behind n (behind k t) ≡ behind (n + k) t
twice_behind n k t =
    let a : t.at + k + n ≡ t.at + (n + k) = omega arith in
    let e : t.end + k + n ≡ t.end + (n + k) = omega arith in
    ap (λ (i : ℕ). token t.kind i (t.end + k + n) t.line_before) a
    ∙ ap (λ (i : ℕ). token t.kind (t.at + (n + k)) i t.line_before) e

pub lexemes_moved : (n : ℕ) (bytes more : List ℕ) (ts : List Token) →
    lexemes_behind n (bytes ++ more) (map (behind (length bytes)) ts) ≡ lexemes_behind (n + length bytes) more ts
lexemes_moved n bytes more [] = refl
lexemes_moved n bytes more (t ∷ ts) =
    ap (λ (u : Token). record { token = u; bytes = slice_range (bytes ++ more) (t.at + length bytes) (t.end + length bytes) }
    ∷ lexemes_behind n (bytes ++ more) (map (behind (length bytes)) ts)) (twice_behind n (length bytes) t)
    ∙ ap (λ (s : List ℕ). record { token = behind (n + length bytes) t; bytes = s } ∷ lexemes_behind n (bytes ++ more)
    (map (behind (length bytes)) ts)) (slice_behind bytes more t.at t.end)
    ∙ ap (λ (s : List Lexeme). lexeme_behind (n + length bytes) more t ∷ s) (lexemes_moved n bytes more ts)

pub lexemes_longer : (n : ℕ) (bytes more : List ℕ) (ts : List Token) → LieInside bytes ts
    → lexemes_behind n (bytes ++ more) ts ≡ lexemes_behind n bytes ts
lexemes_longer n bytes more [] h = refl
lexemes_longer n bytes more (t ∷ ts) h =
    ap (λ (s : List ℕ). record { token = behind n t; bytes = s } ∷ lexemes_behind n (bytes ++ more) ts)
    (slice_more bytes more t.at t.end h.0 h.1)
    ∙ ap (λ (s : List Lexeme). lexeme_behind n bytes t ∷ s) (lexemes_longer n bytes more ts h.2)

-- the tokens of bytes after which nothing stands open, and of what follows
pub lexemes_split : (n : ℕ) (bytes more : List ℕ) (ts us : List Token) → LieInside bytes ts →
    lexemes_behind n (bytes ++ more) (ts ++ map (behind (length bytes)) us) ≡ lexemes_behind n bytes ts
    ++ lexemes_behind (n + length bytes) more us
lexemes_split n bytes more ts us h =
    map-append (lexeme_behind n (bytes ++ more)) ts (map (behind (length bytes)) us)
    ∙ ap (λ (s : List Lexeme). s ++ lexemes_behind n (bytes ++ more) (map (behind (length bytes)) us))
    (lexemes_longer n bytes more ts h)
    ∙ ap (λ (s : List Lexeme). lexemes_behind n bytes ts ++ s) (lexemes_moved n bytes more us)
