-- Bytes that are gone past at once.
use Rattle.std.proofs.Common.{◌≡◌, ℕ, zero, suc, ◌+◌, ◌-◌, ◌<◌, ◌≤◌, nat_lt, Bool, true, false, not, ◌&&◌, ◌||◌, cond, ◌==◌}
use Rattle.std.proofs.Common.{List, [], ◌∷◌, ◌++◌, None, length, take, drop, get_or, take-add, take-take, length-take-le}
use Rattle.std.proofs.Common.{refl, sym, ap, subst, ◌∙◌, arith}
use Rattle.std.proofs.lemmas.Bool.Decides.{nat_tests}
use Rattle.std.proofs.lemmas.List.{append-nil, append_assoc, take-append-drop, length-drop, get_or-drop}
use Rattle.liberty_text.specs.declared.class.Class.{Class}
use Rattle.liberty_text.specs.declared.class.Class.TheVariants.{LineEnd, Blank, Mark, Quote, Backslash, WordByte, Bad}
use Rattle.liberty_text.specs.declared.token.Token.{Token}
use Rattle.liberty_text.specs.declared.scanner.Mode.{Mode}
use Rattle.liberty_text.specs.declared.scanner.Scanner.{Scanner}
use Rattle.liberty_text.specs.declared.passing.Passed.{Passed}
use Rattle.liberty_text.specs.declared.scanner.Mode.TheVariants.{Between, InWord, InContinuation}
use Rattle.liberty_text.specs.declared.token.TokenKind.TheVariants.{Word}
use Rattle.liberty_text.specs.Scanner.{class_of, step, opened, opened_by, in_word_by, after_token, token}
use Rattle.liberty_text.specs.Tokens.{is_word_class}
use Rattle.liberty_text.specs.Idle.{front_run, idle_run, is_blank, is_plain_in_word, is_mark_byte}
use Rattle.liberty_text.specs.Runs.{mode_behind, tokens_ended, has_mark}
use Rattle.liberty_text.specs.Quiet.{IsQuiet, AreBlank, Passes}
use Rattle.liberty_text.proofs.Runs.{NoneEnded, mode_by, ended_by}
use Rattle.liberty_text.proofs.Marked.{NoneMarked, has_mark_append, step_unmarked}
use Rattle.liberty_text.proofs.Staying.{idle_turn}

-- bytes, and those behind them

mode_append : (mode : Mode) (at : ℕ) (xs ys : List ℕ)
    → mode_behind mode at (xs ++ ys) ≡ mode_behind (mode_behind mode at xs) (at + length xs) ys
mode_append mode at [] ys = ap (λ (n : ℕ). mode_behind mode n ys) (omega arith)
mode_append mode at (b ∷ bs) ys =
    let same : at + 1 + length bs ≡ at + suc (length bs) = omega arith in
    mode_append (step mode at b).0 (at + 1) bs ys
    ∙ ap (λ (n : ℕ). mode_behind (mode_behind (step mode at b).0 (at + 1) bs) n ys) same

tokens_append : (mode : Mode) (at : ℕ) (xs ys : List ℕ)
    → tokens_ended mode at (xs ++ ys) ≡ tokens_ended mode at xs ++ tokens_ended (mode_behind mode at xs) (at + length xs) ys
tokens_append mode at [] ys = ap (λ (n : ℕ). tokens_ended mode n ys) (omega arith)
tokens_append mode at (b ∷ bs) ys =
    let s = step mode at b in
    let same : at + 1 + length bs ≡ at + suc (length bs) = omega arith in
    ap (λ (l : List Token). s.1 ++ l)
    (tokens_append s.0 (at + 1) bs ys
    ∙ ap (λ (n : ℕ). tokens_ended s.0 (at + 1) bs ++ tokens_ended (mode_behind s.0 (at + 1) bs) n ys) same)
    ∙ sym (append_assoc s.1 (tokens_ended s.0 (at + 1) bs) (tokens_ended (mode_behind s.0 (at + 1) bs) (at + suc (length bs)) ys))

mode_on : (mode : Mode) (at : ℕ) (bytes : List ℕ) (n : ℕ) (now : Mode) → n ≤ length bytes
    → now ≡ mode_behind mode at (take n bytes)
    → (k : ℕ) → mode_behind now (at + n) (take k (drop n bytes)) ≡ mode_behind mode at (take (n + k) bytes)
mode_on mode at bytes n now h m k =
    ap (λ (m : Mode). mode_behind m (at + n) (take k (drop n bytes))) m
    ∙ ap (λ (i : ℕ). mode_behind (mode_behind mode at (take n bytes)) (at + i) (take k (drop n bytes)))
    (sym (length-take-le n bytes h))
    ∙ sym (mode_append mode at (take n bytes) (take k (drop n bytes)))
    ∙ ap (mode_behind mode at) (sym (take-add n k bytes))

tokens_on : (mode : Mode) (at : ℕ) (bytes : List ℕ) (n : ℕ) (now : Mode) → n ≤ length bytes
    → now ≡ mode_behind mode at (take n bytes)
    → (k : ℕ) → tokens_ended mode at (take (n + k) bytes)
    ≡ tokens_ended mode at (take n bytes) ++ tokens_ended now (at + n) (take k (drop n bytes))
tokens_on mode at bytes n now h m k =
    ap (tokens_ended mode at) (take-add n k bytes)
    ∙ tokens_append mode at (take n bytes) (take k (drop n bytes))
    ∙ ap (λ (i : ℕ). tokens_ended mode at (take n bytes)
    ++ tokens_ended (mode_behind mode at (take n bytes)) (at + i) (take k (drop n bytes))) (length-take-le n bytes h)
    ∙ ap (λ (m : Mode). tokens_ended mode at (take n bytes) ++ tokens_ended m (at + n) (take k (drop n bytes))) (sym m)

left_nil : (s t : List Token) → s ++ t ≡ [] → s ≡ []
left_nil [] t e = refl
left_nil (x ∷ s) t e = absurd (omega (arith, ap length e))

-- no token ends with fewer bytes either
front_none : (mode : Mode) (at : ℕ) (bytes : List ℕ) (k : ℕ) → tokens_ended mode at bytes ≡ []
    → tokens_ended mode at (take k bytes) ≡ []
front_none mode at bytes k e =
    left_nil (tokens_ended mode at (take k bytes)) (tokens_ended (mode_behind mode at (take k bytes))
    (at + length (take k bytes)) (drop k bytes))
    (sym (tokens_append mode at (take k bytes) (drop k bytes)) ∙ ap (tokens_ended mode at) (take-append-drop k bytes) ∙ e)

-- behind more quiet bytes
pub quiet_more : (mode : Mode) (at : ℕ) (bytes : List ℕ) (n : ℕ) (now behind : Mode) (k : ℕ) → n ≤ length bytes
    → IsQuiet mode at bytes n now → IsQuiet now (at + n) (drop n bytes) k behind → IsQuiet mode at bytes (n + k) behind
quiet_more mode at bytes n now behind k h q r = (
  r.0 ∙ mode_on mode at bytes n now h q.0 k,
  tokens_on mode at bytes n now h q.0 k
      ∙ ap (λ (l : List Token). l ++ tokens_ended now (at + n) (take k (drop n bytes))) q.1 ∙ r.1,
)

-- bytes that leave open what stands open
pub quiet_idle : (now : Mode) (at : ℕ) (bytes : List ℕ) (k : ℕ) → k ≤ length bytes → k ≡ idle_run now bytes
    → IsQuiet now at bytes k now
quiet_idle now at bytes k h e =
    let start : NoneEnded now at bytes 0 now = record { mode_is = refl; none = none_at } in
    let all : NoneEnded now at bytes (0 + k) now = idle_turn now at bytes 0 now k start (omega (arith, h)) e in
    let same : 0 + k ≡ k = omega arith in
    subst (λ (m : ℕ). IsQuiet now at bytes m now) same (all.mode_is, all.none (0 + k) (omega arith))
  where
    none_at : (i : ℕ) → i < 1 → tokens_ended now at (take i bytes) ≡ []
    none_at i less = let none : i ≡ 0 = omega (arith, less) in ap (λ (j : ℕ). tokens_ended now at (take j bytes)) none

-- the first byte, with which no token ends
pub first_quiet : (mode next : Mode) (at : ℕ) (bytes : List ℕ) → 0 < length bytes → step mode at (get_or bytes 0 0) ≡ (next, [])
    → IsQuiet mode at bytes 1 next
first_quiet mode next at [] h e = absurd (omega (arith, h))
first_quiet mode next at (b ∷ bs) h e = (
  sym (ap (λ (p : Mode × List Token). p.0) e),
  append-nil (step mode at b).1 ∙ ap (λ (p : Mode × List Token). p.1) e,
)

-- a token as far as it stays open: its first byte, and a run of others
pub open_quiet : (line : Bool) (at : ℕ) (bytes rest : List ℕ) (k : ℕ) (now : Mode) → 0 < length bytes
    → IsQuiet (Between line) at bytes 1 now → rest ≡ drop 1 bytes → k ≤ length rest → k ≡ idle_run now rest
    → IsQuiet (Between line) at bytes (1 + k) now
open_quiet line at bytes rest k now some begins is within run =
    quiet_more (Between line) at bytes 1 now now k (omega (arith, some)) begins
    (subst (λ (l : List ℕ). IsQuiet now (at + 1) l k now) is (quiet_idle now (at + 1) rest k within run))

pub within_behind : (bytes behind : List ℕ) (n k : ℕ) → n ≤ length bytes → behind ≡ drop n bytes → k ≤ length behind
    → n + k ≤ length bytes
within_behind bytes behind n k h is within =
    let less : k ≤ length (drop n bytes) = subst (λ (l : List ℕ). k ≤ length l) is within in
    grind (arith, less, h, length-drop)

-- a blank and others behind it
pub blank_first : (line : Bool) (at : ℕ) (bytes : List ℕ) → 0 < length bytes → class_of (get_or bytes 0 0) ≡ Blank
    → IsQuiet (Between line) at bytes 1 (Between line)
blank_first line at bytes h e = first_quiet (Between line) (Between line) at bytes h (ap (opened_by line at (get_or bytes 0 0)) e)

pub blanks : (bytes : List ℕ) (n : ℕ) → n ≤ length bytes → n ≡ front_run is_blank bytes → AreBlank bytes n
blanks bytes n h e line at = quiet_idle (Between line) at bytes n h e

pub more_blanks : (bytes : List ℕ) (n k : ℕ) → n ≤ length bytes → AreBlank bytes n → AreBlank (drop n bytes) k
    → AreBlank bytes (n + k)
more_blanks bytes n k h b c line at =
    quiet_more (Between line) at bytes n (Between line) (Between line) k h (b line at) (c line (at + n))

pub four_spaces : (bytes : List ℕ) → take 4 bytes ≡ 32 ∷ 32 ∷ 32 ∷ 32 ∷ [] → AreBlank bytes 4
four_spaces bytes e line at =
    subst (λ (l : List ℕ). (Between line ≡ mode_behind (Between line) at l) × (tokens_ended (Between line) at l ≡ []))
    (sym e) (refl, refl)

-- a line end and the blanks behind it
pub line_first : (line : Bool) (at : ℕ) (bytes : List ℕ) → 0 < length bytes → class_of (get_or bytes 0 0) ≡ LineEnd
    → IsQuiet (Between line) at bytes 1 (Between true)
line_first line at bytes h e = first_quiet (Between line) (Between true) at bytes h (ap (opened_by line at (get_or bytes 0 0)) e)

-- a backslash before a line end
pub continued : (line : Bool) (at : ℕ) (bytes : List ℕ) → 1 < length bytes → class_of (get_or bytes 0 0) ≡ Backslash
    → get_or bytes 1 0 ≡ 10 → IsQuiet (Between line) at bytes 2 (Between line)
continued line at [] h e f = absurd (omega (arith, h))
continued line at (b ∷ []) h e f = absurd (omega (arith, h))
continued line at (b ∷ c ∷ bs) h e f =
    let first : step (Between line) at b ≡ (InContinuation at line, []) = ap (opened_by line at b) e in
    let next : step (InContinuation at line) (at + 1) c ≡ (Between line, []) = ap (step (InContinuation at line) (at + 1)) f in
    subst (λ (p : Mode × List Token). (Between line ≡ (step p.0 (at + 1) c).0)
    × (p.1 ++ ((step p.0 (at + 1) c).1 ++ []) ≡ [])) (sym first)
    (subst (λ (p : Mode × List Token). (Between line ≡ p.0) × (p.1 ++ [] ≡ [])) (sym next) (refl, refl))

-- bytes that are gone past

quiet_unmarked : (ts : List Token) → ts ≡ [] → has_mark ts ≡ false
quiet_unmarked ts e = ap has_mark e

early_none : (mode now : Mode) (at n k : ℕ) (bytes : List ℕ) → IsQuiet mode at bytes n now → k ≤ n
    → tokens_ended mode at (take k bytes) ≡ []
early_none mode now at n k bytes q less =
    ap (tokens_ended mode at) (sym (take-take k n bytes less)) ∙ front_none mode at (take n bytes) k q.1

module _ (mode : Mode) (at : ℕ) (bytes : List ℕ) (before behind : Scanner) (passed : Passed) (n : ℕ) (now : Mode) where
  -- quiet ones
  pub quiet_passes : 0 < n → n ≤ length bytes → IsQuiet mode at bytes n now → behind.tokens.items ≡ before.tokens.items
      → passed.count ≡ n → (passed.goes_on ≡ true → now ≡ Between passed.line_before)
      → (passed.goes_on ≡ false → behind.mode ≡ now) → Passes mode at bytes before behind passed
  quiet_passes some h q same count on off = record {
    some = rw count some;
    within = rw count h;
    tokens_are =
        rw count (same ∙ sym (append-nil before.tokens.items) ∙ ap (λ (l : List Token). before.tokens.items ++ l) (sym q.1));
    none_before = λ k less. early_none mode now at n k bytes q (omega (arith, less, count));
    goes_on = λ e. rw count (sym (on e) ∙ q.0);
    unmarked = λ e. rw count (quiet_unmarked (tokens_ended mode at (take n bytes)) q.1);
    ends = λ e. rw count (off e ∙ q.0);
  }

  -- quiet ones, and a byte behind them
  pub step_passes : n < length bytes → IsQuiet mode at bytes n now
      → behind.tokens.items ≡ before.tokens.items ++ (step now (at + n) (get_or bytes n 0)).1 → passed.count ≡ n + 1
      → (passed.goes_on ≡ true → (step now (at + n) (get_or bytes n 0)).0 ≡ Between passed.line_before)
      → (passed.goes_on ≡ true → is_mark_byte (get_or bytes n 0) ≡ false)
      → (passed.goes_on ≡ false → behind.mode ≡ (step now (at + n) (get_or bytes n 0)).0)
      → Passes mode at bytes before behind passed
  step_passes h q more count on unmarked off =
      let ended : tokens_ended mode at (take (n + 1) bytes) ≡ (step now (at + n) (get_or bytes n 0)).1 =
      ended_by mode at bytes n now h q.0 ∙ ap (λ (l : List Token). l ++ (step now (at + n) (get_or bytes n 0)).1) q.1 in
      record {
        some = omega (arith, count);
        within = omega (arith, count, h);
        tokens_are = rw count (more ∙ ap (λ (l : List Token). before.tokens.items ++ l) (sym ended));
        none_before = λ k less. early_none mode now at n k bytes q (omega (arith, less, count));
        goes_on = λ e. rw count (mode_by mode at bytes n now (Between passed.line_before) h q.0 (sym (on e)));
        unmarked = λ e. rw count (ap has_mark ended ∙ step_unmarked now (at + n) (get_or bytes n 0) (unmarked e));
        ends = λ e. rw count (mode_by mode at bytes n now behind.mode h q.0 (off e));
      }

-- the byte behind a run fails the test
stops : (test : ℕ → Bool) (bytes : List ℕ) (k : ℕ) → k ≡ front_run test bytes → k < length bytes → test (get_or bytes k 0) ≡ false
stops test [] k e h = absurd (omega (arith, h))
stops test (b ∷ bs) k e h = by_test (stops test bs) (test b) refl k e h
  where
    by_test : ((k : ℕ) → k ≡ front_run test bs → k < length bs → test (get_or bs k 0) ≡ false) → (p : Bool) → test b ≡ p
        → (k : ℕ) → k ≡ cond p (1 + front_run test bs) 0 → k < suc (length bs) → test (get_or (b ∷ bs) k 0) ≡ false
    by_test later false t zero e h = t
    by_test later false t (suc k) e h = absurd (omega (arith, e))
    by_test later true t zero e h = absurd (omega (arith, e))
    by_test later true t (suc k) e h = later k (omega (arith, e)) (omega (arith, h))

and_left : (x y : Bool) → (x && y) ≡ false → y ≡ true → x ≡ false
and_left true y e f = absurd cc
and_left false y e f = refl

other_ends : (begun at b : ℕ) (line : Bool) (k : Class) → is_word_class k ≡ false
    → in_word_by begun line at b k ≡ after_token (token Word begun at line) (opened false at b)
other_ends begun at b line LineEnd e = refl
other_ends begun at b line Blank e = refl
other_ends begun at b line (Mark kind) e = refl
other_ends begun at b line Quote e = refl
other_ends begun at b line Backslash e = refl
other_ends begun at b line WordByte e = absurd cc
other_ends begun at b line Bad e = refl

-- a Word ends at the first byte that may not stand in it
pub word_ends : (begun at n : ℕ) (line : Bool) (bytes : List ℕ) (k : ℕ) → n ≡ 1 + k
    → k ≡ front_run is_plain_in_word (drop 1 bytes)
    → n < length bytes → (get_or bytes n 0 == 47) ≡ false → step (InWord begun line None) at (get_or bytes n 0)
    ≡ after_token (token Word begun at line) (opened false at (get_or bytes n 0))
word_ends begun at n line bytes k is e h f =
    let b = get_or bytes n 0 in
    let less : k < length (drop 1 bytes) = rw length-drop (omega (arith, is, h)) in
    let same : get_or (drop 1 bytes) k 0 ≡ b = get_or-drop 1 bytes k 0 ∙ ap (λ (i : ℕ). get_or bytes i 0) (sym is) in
    let fails : is_plain_in_word b ≡ false = sym (ap is_plain_in_word same) ∙ stops is_plain_in_word (drop 1 bytes) k e less in
    other_ends begun at b line (class_of b) (and_left (is_word_class (class_of b)) (not (b == 47)) fails (ap not f))

after_mode : (t : Token) (p : Mode × List Token) → (after_token t p).0 ≡ p.0
after_mode t (mode, ts) = refl

after_tokens : (t : Token) (p : Mode × List Token) → (after_token t p).1 ≡ t ∷ p.1
after_tokens t (mode, ts) = refl

pub word_mode : (begun at n : ℕ) (line : Bool) (bytes : List ℕ) (k : ℕ) → n ≡ 1 + k
    → k ≡ front_run is_plain_in_word (drop 1 bytes)
    → n < length bytes → (get_or bytes n 0 == 47) ≡ false
    → (step (InWord begun line None) at (get_or bytes n 0)).0 ≡ (opened false at (get_or bytes n 0)).0
word_mode begun at n line bytes k is e h f =
    ap (λ (p : Mode × List Token). p.0) (word_ends begun at n line bytes k is e h f)
    ∙ after_mode (token Word begun at line) (opened false at (get_or bytes n 0))

pub word_tokens : (begun at n : ℕ) (line : Bool) (bytes : List ℕ) (k : ℕ) → n ≡ 1 + k
    → k ≡ front_run is_plain_in_word (drop 1 bytes) → n < length bytes → (get_or bytes n 0 == 47) ≡ false
    → (step (InWord begun line None) at (get_or bytes n 0)).1
    ≡ token Word begun at line ∷ (opened false at (get_or bytes n 0)).1
word_tokens begun at n line bytes k is e h f =
    ap (λ (p : Mode × List Token). p.1) (word_ends begun at n line bytes k is e h f)
    ∙ after_tokens (token Word begun at line) (opened false at (get_or bytes n 0))

pub never : {A : Type 0} (b : Bool) → b ≡ true → b ≡ false → A
never true e f = absurd cc
never false e f = absurd cc

-- a token that stays open
pub open_passes : (line : Bool) (at : ℕ) (bytes rest : List ℕ) (k : ℕ) (now : Mode) (before behind : Scanner) (passed : Passed)
    → 0 < length bytes → IsQuiet (Between line) at bytes 1 now → rest ≡ drop 1 bytes → k ≤ length rest
    → k ≡ idle_run now rest → behind.tokens.items ≡ before.tokens.items → passed.count ≡ 1 + k
    → (passed.goes_on ≡ true → now ≡ Between passed.line_before) → (passed.goes_on ≡ false → behind.mode ≡ now)
    → Passes (Between line) at bytes before behind passed
open_passes line at bytes rest k now before behind passed some begins is within run same count on off =
    quiet_passes (Between line) at bytes before behind passed (1 + k) now (omega arith)
    (within_behind bytes rest 1 k (omega (arith, some)) is within) (open_quiet line at bytes rest k now some begins is within run)
    same count on off

-- quiet bytes, and blanks behind them
pub gap_passes : (line next : Bool) (at n k : ℕ) (bytes rest : List ℕ) (scanner : Scanner) (passed : Passed) → 0 < n
    → n ≤ length bytes → IsQuiet (Between line) at bytes n (Between next) → rest ≡ drop n bytes → k ≤ length rest
    → AreBlank rest k → passed.count ≡ n + k → passed.goes_on ≡ true → passed.line_before ≡ next
    → Passes (Between line) at bytes scanner scanner passed
gap_passes line next at n k bytes rest scanner passed some h first is within blank count on line_is =
    let behind = subst (λ (l : List ℕ). AreBlank l k) is blank in
    quiet_passes (Between line) at bytes scanner scanner passed (n + k) (Between next) (omega (arith, some))
    (within_behind bytes rest n k h is within)
    (quiet_more (Between line) at bytes n (Between next) (Between next) k h first (behind next (at + n))) refl count
    (λ _. ap Between (sym line_is)) (λ off. never passed.goes_on on off)

-- behind more bytes
module _ (mode : Mode) (at : ℕ) (bytes : List ℕ) (n : ℕ) (now : Mode) (first : List Token) (before behind : Scanner)
    (left : List ℕ) (is : left ≡ drop n bytes) where
  at_rest : (passed : Passed) → Passes now (at + n) left before behind passed
      → Passes now (at + n) (drop n bytes) before behind passed
  at_rest passed p = subst (λ (l : List ℕ). Passes now (at + n) l before behind passed) is p

  pub passes_tokens : (passed : Passed) → NoneMarked mode at bytes n now first before.tokens.items → n ≤ length bytes
      → Passes now (at + n) left before behind passed
      → behind.tokens.items ≡ first ++ tokens_ended mode at (take (n + passed.count) bytes)
  passes_tokens passed none h p =
      let ended = tokens_ended now (at + n) (take passed.count (drop n bytes)) in
      (at_rest passed p).tokens_are ∙ ap (λ (l : List Token). l ++ ended) none.tokens_are
      ∙ append_assoc first (tokens_ended mode at (take n bytes)) ended
      ∙ ap (λ (l : List Token). first ++ l) (sym (tokens_on mode at bytes n now h none.mode_is passed.count))

  pub passes_mode : (passed : Passed) → NoneMarked mode at bytes n now first before.tokens.items → n ≤ length bytes
      → Passes now (at + n) left before behind passed → passed.goes_on ≡ false
      → behind.mode ≡ mode_behind mode at (take (n + passed.count) bytes)
  passes_mode passed none h p off = (at_rest passed p).ends off ∙ mode_on mode at bytes n now h none.mode_is passed.count

  pub passes_none : (passed : Passed) → NoneMarked mode at bytes n now first before.tokens.items → n ≤ length bytes
      → Passes now (at + n) left before behind passed → (i : ℕ) → i < n + passed.count
      → has_mark (tokens_ended mode at (take i bytes)) ≡ false
  passes_none passed none h p i less = by_test (nat_lt i (n + 1)) refl
    where
      by_test : (b : Bool) → nat_lt i (n + 1) ≡ b → has_mark (tokens_ended mode at (take i bytes)) ≡ false
      by_test true t = none.none i (grind (arith, nat_tests, t))
      by_test false t =
          let same : n + (i - n) ≡ i = grind (arith, nat_tests, t) in
          let few : i - n < passed.count = grind (arith, nat_tests, t, less) in
          ap (λ (j : ℕ). has_mark (tokens_ended mode at (take j bytes))) (sym same)
          ∙ ap has_mark (tokens_on mode at bytes n now h none.mode_is (i - n)
          ∙ ap (λ (l : List Token). tokens_ended mode at (take n bytes) ++ l) ((at_rest passed p).none_before (i - n) few)
          ∙ append-nil (tokens_ended mode at (take n bytes)))
          ∙ none.none n (omega arith)

  pub passes_marked : (passed : Passed) → NoneMarked mode at bytes n now first before.tokens.items → n ≤ length bytes
      → Passes now (at + n) left before behind passed → passed.goes_on ≡ true
      → NoneMarked mode at bytes (n + passed.count) (Between passed.line_before) first behind.tokens.items
  passes_marked passed none h p on = record {
    mode_is = (at_rest passed p).goes_on on ∙ mode_on mode at bytes n now h none.mode_is passed.count;
    tokens_are = passes_tokens passed none h p;
    none = λ i less. by_test i less (nat_lt i (n + passed.count)) refl;
  }
    where
      by_test : (i : ℕ) → i < n + passed.count + 1 → (b : Bool) → nat_lt i (n + passed.count) ≡ b
          → has_mark (tokens_ended mode at (take i bytes)) ≡ false
      by_test i less true t = passes_none passed none h p i (grind (arith, nat_tests, t))
      by_test i less false t =
          let same : n + passed.count ≡ i = grind (arith, nat_tests, t, less) in
          ap (λ (j : ℕ). has_mark (tokens_ended mode at (take j bytes))) (sym same)
          ∙ ap has_mark (tokens_on mode at bytes n now h none.mode_is passed.count)
          ∙ has_mark_append (tokens_ended mode at (take n bytes)) (tokens_ended now (at + n) (take passed.count (drop n bytes)))
          ∙ ap (λ (x : Bool). x || has_mark (tokens_ended now (at + n) (take passed.count (drop n bytes))))
          (none.none n (omega arith))
          ∙ (at_rest passed p).unmarked on
