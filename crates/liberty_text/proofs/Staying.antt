-- Bytes that leave what stands open as it is: no token ends with them.
use Rattle.std.proofs.Common.{◌≡◌, ℕ, zero, suc, ◌+◌, ◌<◌, ◌≤◌, Bool, true, false, not, List, [], ◌∷◌, Some, None, length, drop}
use Rattle.std.proofs.Common.{get_or, ◌==◌, ◌&&◌, refl, sym, ◌∙◌, ap, subst, arith, cond}
use Rattle.std.proofs.lemmas.List.{get_or-drop}
use Rattle.std.proofs.lemmas.Bool.{and_parts as both_true, not-true as not_true}
use Rattle.liberty_text.specs.declared.class.Class.{Class}
use Rattle.liberty_text.specs.declared.class.Class.TheVariants.{LineEnd, Blank, Mark, Quote, Backslash, WordByte, Bad}
use Rattle.liberty_text.specs.declared.token.TokenKind.TheVariants.{Text}
use Rattle.liberty_text.specs.declared.scanner.Mode.{Mode}
use Rattle.liberty_text.specs.declared.scanner.Mode.TheVariants.{Between, InWord, InText, InComment, InContinuation, Stopped}
use Rattle.liberty_text.specs.Scanner.{class_of, step, opened_by, in_word_by, in_text, token}
use Rattle.liberty_text.specs.Tokens.{is_word_class}
use Rattle.liberty_text.specs.Idle.{is_blank_class, is_blank, is_plain_in_word, is_plain_in_text, front_run, idle_run}
use Rattle.liberty_text.proofs.Runs.{NoneEnded, none_turn}

-- a byte of the run passes the test
passes : (test : ℕ → Bool) (bytes : List ℕ) (i : ℕ) → i < front_run test bytes → test (get_or bytes i 0) ≡ true
passes test [] i h = absurd (omega (arith, h))
passes test (b ∷ bs) i h = by_test (passes test bs) (test b) refl i h
  where
    by_test : ((i : ℕ) → i < front_run test bs → test (get_or bs i 0) ≡ true) → (p : Bool) → test b ≡ p → (i : ℕ)
        → i < cond p (1 + front_run test bs) 0 → test (get_or (b ∷ bs) i 0) ≡ true
    by_test next false e i h = absurd (omega (arith, h))
    by_test next true e zero h = e
    by_test next true e (suc i) h = next i (omega (arith, h))

-- what a byte does between tokens, in a word and in a text

blank_stays : (line : Bool) (at b : ℕ) (k : Class) → is_blank_class k ≡ true → opened_by line at b k ≡ (Between line, [])
blank_stays line at b Blank e = refl
blank_stays line at b LineEnd e = absurd cc
blank_stays line at b (Mark kind) e = absurd cc
blank_stays line at b Quote e = absurd cc
blank_stays line at b Backslash e = absurd cc
blank_stays line at b WordByte e = absurd cc
blank_stays line at b Bad e = absurd cc

word_stays : (begun : ℕ) (line : Bool) (at b : ℕ) (k : Class) → is_word_class k ≡ true → (b == 47) ≡ false
    → in_word_by begun line at b k ≡ (InWord begun line None, [])
word_stays begun line at b WordByte e f = ap (λ q. (InWord begun line (cond q (Some at) None), [])) f
word_stays begun line at b Blank e f = absurd cc
word_stays begun line at b LineEnd e f = absurd cc
word_stays begun line at b (Mark kind) e f = absurd cc
word_stays begun line at b Quote e f = absurd cc
word_stays begun line at b Backslash e f = absurd cc
word_stays begun line at b Bad e f = absurd cc

text_stays : (begun : ℕ) (line : Bool) (at b : ℕ) → (b == 34) ≡ false → (b == 92) ≡ false
    → in_text begun line false at b ≡ (InText begun line false, [])
text_stays begun line at b e f =
    ap (λ q. cond (q && true) (Between false, token Text begun (at + 1) line ∷ []) (InText begun line (b == 92), [])) e
    ∙ ap (λ q. (InText begun line q, [])) f

-- a byte of a run leaves open what stands open
pub stays : (now : Mode) (bytes : List ℕ) (i at : ℕ) → i < idle_run now bytes → step now at (get_or bytes i 0) ≡ (now, [])
stays (Between line) bytes i at h =
    blank_stays line at (get_or bytes i 0) (class_of (get_or bytes i 0)) (passes is_blank bytes i h)
stays (InWord begun line None) bytes i at h =
    let b = get_or bytes i 0 in
    let both = both_true (is_word_class (class_of b)) (not (b == 47)) (passes is_plain_in_word bytes i h) in
    word_stays begun line at b (class_of b) both.0 (not_true (b == 47) both.1)
stays (InWord begun line (Some slash)) bytes i at h = absurd (omega (arith, h))
stays (InText begun line false) bytes i at h =
    let b = get_or bytes i 0 in
    let both = both_true (not (b == 34)) (not (b == 92)) (passes is_plain_in_text bytes i h) in
    text_stays begun line at b (not_true (b == 34) both.0) (not_true (b == 92) both.1)
stays (InText begun line true) bytes i at h = absurd (omega (arith, h))
stays (InComment begun line star) bytes i at h = absurd (omega (arith, h))
stays (InContinuation begun line) bytes i at h = absurd (omega (arith, h))
stays (Stopped begun) bytes i at h = absurd (omega (arith, h))

-- no token ends with the next so many bytes either
turns : (mode : Mode) (at : ℕ) (bytes : List ℕ) (n : ℕ) (now : Mode) (k : ℕ) → NoneEnded mode at bytes n now
    → n + k ≤ length bytes →
    ((i : ℕ) → i < k → step now (at + (n + i)) (get_or bytes (n + i) 0) ≡ (now, [])) → NoneEnded mode at bytes (n + k) now
turns mode at bytes n now zero none h each = subst (λ m. NoneEnded mode at bytes m now) (omega arith) none
turns mode at bytes n now (suc k) none h each =
    let before = turns mode at bytes n now k none (omega (arith, h)) (λ i less. each i (omega (arith, less))) in
    let last = each k (omega arith) in
    let next = none_turn mode at bytes (n + k) now now [] [] [] (omega (arith, h)) before refl (sym (ap (λ p. p.0) last))
    (sym (ap (λ p. p.1) last)) refl in
    let same : n + k + 1 ≡ n + suc k = omega arith in
    subst (λ m. NoneEnded mode at bytes m now) same next.1

-- behind a run
pub idle_turn : (mode : Mode) (at : ℕ) (bytes : List ℕ) (n : ℕ) (now : Mode) (k : ℕ) → NoneEnded mode at bytes n now
    → n + k ≤ length bytes →
    k ≡ idle_run now (drop n bytes) → NoneEnded mode at bytes (n + k) now
idle_turn mode at bytes n now k none h e = turns mode at bytes n now k none h (λ i less.
    ap (step now (at + (n + i))) (sym (get_or-drop n bytes i 0))
    ∙ stays now (drop n bytes) i (at + (n + i)) (omega (arith, less, e)))
