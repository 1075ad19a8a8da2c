-- Bytes that are scanned one after another.
use Rattle.std.proofs.Common.{◌≡◌, ℕ, suc, ◌+◌, false, List, [], ◌∷◌, ◌++◌, take, length, refl, sym, ap, subst, ◌∙◌, arith}
use Rattle.std.proofs.lemmas.List.{append-nil, append_assoc, length-append}
use Rattle.liberty_text.specs.declared.token.Token.{Token}
use Rattle.liberty_text.specs.declared.token.Stop.{Stop}
use Rattle.liberty_text.specs.declared.scanner.Mode.{Mode}
use Rattle.liberty_text.specs.declared.scanner.Mode.TheVariants.{Between}
use Rattle.liberty_text.specs.Runs.{mode_behind, tokens_ended}
use Rattle.liberty_text.specs.Scanner.{step, run as steps, closing, after_tokens, scan_of}
use Rattle.liberty_text.proofs.Runs.{run_on, after_both}
use Rattle.liberty_text.proofs.Sound.{reads}
use Rattle.liberty_groups.specs.Lexeme.{LieInside}
use Rattle.liberty_groups.proofs.Lexemes.{inside_reads, inside_front}
use Rattle.cell_cursor.specs.declared.part.Place.{Place}
use Rattle.cell_cursor.specs.Braces.{depth_after, kinds_of}
use Rattle.cell_cursor.specs.Part.{all_scanned}
use Rattle.cell_cursor.specs.Scanned.{AreScanned, NoneOuter, NoneOuterEnds}

-- all bytes
pub all_are_scanned : (bytes : List ℕ) (tokens : List Token) (mode : Mode) → tokens ≡ tokens_ended (Between false) 0 bytes →
    mode ≡ mode_behind (Between false) 0 bytes → AreScanned bytes tokens mode
all_are_scanned bytes tokens mode e f more =
    run_on (Between false) 0 bytes more
    ∙ ap (λ (n : ℕ). after_tokens (tokens_ended (Between false) 0 bytes) (steps (mode_behind (Between false) 0 bytes) n more))
    (omega arith)
    ∙ ap (λ (ts : List Token). after_tokens ts (steps (mode_behind (Between false) 0 bytes) (length bytes) more)) (sym e)
    ∙ ap (λ (m : Mode). after_tokens tokens (steps m (length bytes) more)) (sym f)

pub scanned_is : (before : ℕ) (bytes : List ℕ) (tokens : List Token) (mode : Mode) (depth : ℕ)
    → tokens ≡ tokens_ended (Between false) 0 bytes → mode ≡ mode_behind (Between false) 0 bytes
    → depth ≡ depth_after 0 (kinds_of tokens) →
    record { before = before; bytes = bytes; tokens = tokens; mode = mode; depth = depth } ≡ all_scanned before bytes
scanned_is before bytes tokens mode depth e f g =
    let d : depth ≡ depth_after 0 (kinds_of (tokens_ended (Between false) 0 bytes)) =
    g ∙ ap (λ (ts : List Token). depth_after 0 (kinds_of ts)) e in
    rw (e, f, d) refl

tokens_both : (mode : Mode) (at : ℕ) (xs ys : List ℕ) →
    tokens_ended mode at (xs ++ ys) ≡ tokens_ended mode at xs ++ tokens_ended (mode_behind mode at xs) (at + length xs) ys
tokens_both mode at [] ys = ap (λ (n : ℕ). tokens_ended mode n ys) (omega arith)
tokens_both mode at (b ∷ bs) ys =
    let s = step mode at b in
    let same : at + 1 + length bs ≡ at + suc (length bs) = omega arith in
    ap (λ (l : List Token). s.1 ++ l) (tokens_both s.0 (at + 1) bs ys)
    ∙ sym (append_assoc s.1 (tokens_ended s.0 (at + 1) bs)
    (tokens_ended (mode_behind s.0 (at + 1) bs) (at + 1 + length bs) ys))
    ∙ ap (λ (n : ℕ). (s.1 ++ tokens_ended s.0 (at + 1) bs) ++ tokens_ended (mode_behind s.0 (at + 1) bs) n ys) same

mode_both : (mode : Mode) (at : ℕ) (xs ys : List ℕ) →
    mode_behind mode at (xs ++ ys) ≡ mode_behind (mode_behind mode at xs) (at + length xs) ys
mode_both mode at [] ys = ap (λ (n : ℕ). mode_behind mode n ys) (omega arith)
mode_both mode at (b ∷ bs) ys =
    let s = step mode at b in
    let same : at + 1 + length bs ≡ at + suc (length bs) = omega arith in
    mode_both s.0 (at + 1) bs ys ∙ ap (λ (n : ℕ). mode_behind (mode_behind s.0 (at + 1) bs) n ys) same

-- as found by the code
pub run_tokens : (bytes bytes' : List ℕ) (tokens tokens' : List Token) (mode : Mode) (run : List ℕ)
    → tokens ≡ tokens_ended (Between false) 0 bytes → mode ≡ mode_behind (Between false) 0 bytes → bytes' ≡ bytes ++ run
    → tokens' ≡ tokens ++ tokens_ended mode (length bytes) run → tokens' ≡ tokens_ended (Between false) 0 bytes'
run_tokens bytes bytes' tokens tokens' mode run e f g h =
    h ∙ ap (λ (ts : List Token). ts ++ tokens_ended mode (length bytes) run) e
    ∙ ap (λ (m : Mode). tokens_ended (Between false) 0 bytes ++ tokens_ended m (length bytes) run) f
    ∙ ap (λ (n : ℕ). tokens_ended (Between false) 0 bytes ++ tokens_ended (mode_behind (Between false) 0 bytes) n run)
    (omega arith)
    ∙ sym (tokens_both (Between false) 0 bytes run) ∙ ap (tokens_ended (Between false) 0) (sym g)

pub run_mode : (bytes bytes' : List ℕ) (mode mode' : Mode) (run : List ℕ) → mode ≡ mode_behind (Between false) 0 bytes
    → bytes' ≡ bytes ++ run → mode' ≡ mode_behind mode (length bytes) run → mode' ≡ mode_behind (Between false) 0 bytes'
run_mode bytes bytes' mode mode' run f g h =
    h ∙ ap (λ (m : Mode). mode_behind m (length bytes) run) f
    ∙ ap (λ (n : ℕ). mode_behind (mode_behind (Between false) 0 bytes) n run) (omega arith)
    ∙ sym (mode_both (Between false) 0 bytes run) ∙ ap (mode_behind (Between false) 0) (sym g)

-- some more bytes
pub more_scanned : (bytes : List ℕ) (tokens : List Token) (mode : Mode) (run : List ℕ) → AreScanned bytes tokens mode →
    AreScanned (bytes ++ run) (tokens ++ tokens_ended mode (length bytes) run) (mode_behind mode (length bytes) run)
more_scanned bytes tokens mode run h more =
    let new = tokens_ended mode (length bytes) run in
    let now = mode_behind mode (length bytes) run in
    ap (steps (Between false) 0) (append_assoc bytes run more)
    ∙ h (run ++ more)
    ∙ ap (after_tokens tokens) (run_on mode (length bytes) run more)
    ∙ after_both tokens new (steps now (length bytes + length run) more)
    ∙ ap (λ (n : ℕ). after_tokens (tokens ++ new) (steps now n more)) (sym (length-append bytes run))

-- as found by the code
pub run_scanned : (bytes bytes' : List ℕ) (tokens tokens' : List Token) (mode mode' : Mode) (run : List ℕ)
    → AreScanned bytes tokens mode →
    bytes' ≡ bytes ++ run → tokens' ≡ tokens ++ tokens_ended mode (length bytes) run → mode' ≡ mode_behind mode (length bytes) run
    → AreScanned bytes' tokens' mode'
run_scanned bytes bytes' tokens tokens' mode mode' run h e f g =
    subst (λ (s : List ℕ). AreScanned s tokens' mode') (sym e)
    (subst (λ (ts : List Token). AreScanned (bytes ++ run) ts mode') (sym f)
    (subst (λ (m : Mode). AreScanned (bytes ++ run) (tokens ++ tokens_ended mode (length bytes) run) m) (sym g)
    (more_scanned bytes tokens mode run h)))

-- with the first bytes no outer brace ends
pub none_outer_ends : (here : Place) (bytes more : List ℕ) (tokens : List Token) (mode : Mode) (count : ℕ)
    → AreScanned bytes tokens mode →
    NoneOuterEnds here tokens mode (length bytes) more count → NoneOuter here bytes more count
none_outer_ends here bytes more tokens mode count h none n less = (
  tokens ++ tokens_ended mode (length bytes) (take n more),
  mode_behind mode (length bytes) (take n more),
  more_scanned bytes tokens mode (take n more) h,
  none n less,
)

-- the tokens of all bytes are those that have ended, and what is open at the end
pub scan_splits : (bytes : List ℕ) (tokens : List Token) (mode : Mode) → AreScanned bytes tokens mode
    → scan_of bytes ≡ after_tokens tokens (closing mode (length bytes))
scan_splits bytes tokens mode h = ap (steps (Between false) 0) (sym (append-nil bytes)) ∙ h []

pub scanned_inside : (bytes : List ℕ) (tokens : List Token) (mode : Mode) → AreScanned bytes tokens mode → LieInside bytes tokens
scanned_inside bytes tokens mode h =
    let e : (scan_of bytes).0 ≡ tokens ++ (closing mode (length bytes)).0 =
    ap (λ (p : List Token × Stop). p.0) (scan_splits bytes tokens mode h) in
    let i : LieInside bytes (scan_of bytes).0 = inside_reads (reads bytes (scan_of bytes).0 (scan_of bytes).1 refl refl) in
    inside_front bytes tokens (closing mode (length bytes)).0 (subst (λ (ts : List Token). LieInside bytes ts) e i)
