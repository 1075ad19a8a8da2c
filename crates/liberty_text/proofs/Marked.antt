-- Bytes with which no brace of a group and no semicolon ends.
use Rattle.std.proofs.Common.{◌≡◌, ℕ, zero, suc, ◌+◌, ◌<◌, ◌≤◌, nat_le, nat_lt, Bool, true, false, not, List, [], ◌∷◌, ◌++◌}
use Rattle.std.proofs.Common.{Some, None, length, take, drop, get_or, ◌==◌, ◌&&◌, ◌||◌, cond, refl, sym, ◌∙◌, ap, subst, arith}
use Rattle.std.proofs.lemmas.Bool.Decides.{nat_tests}
use Rattle.std.proofs.lemmas.List.{append-nil, append_assoc, get_or-drop}
use Rattle.liberty_text.specs.declared.class.Class.{Class}
use Rattle.liberty_text.specs.declared.class.Class.TheVariants.{LineEnd, Blank, Mark, Quote, Backslash, WordByte, Bad}
use Rattle.liberty_text.specs.declared.token.Token.{Token}
use Rattle.liberty_text.specs.declared.token.TokenKind.TheVariants.{Word, Text, Brace, Colon, Semicolon, Comma}
use Rattle.liberty_text.specs.declared.scanner.Mode.{Mode}
use Rattle.liberty_text.specs.declared.scanner.Mode.TheVariants.{Between, InWord, InText, InComment, InContinuation, Stopped}
use Rattle.liberty_text.specs.Scanner.{class_of, token, opened_by, after_token, in_word_by, comment_in_word, in_continuation}
use Rattle.liberty_text.specs.Scanner.{step}
use Rattle.liberty_text.specs.Runs.{mode_behind, tokens_ended, is_group_mark, has_mark}
use Rattle.liberty_text.specs.Idle.{idle_run, is_mark_byte}
use Rattle.liberty_text.proofs.Runs.{mode_by, ended_by}
use Rattle.liberty_text.proofs.Staying.{stays}

left_false : (x y : Bool) → (x || y) ≡ false → x ≡ false
left_false true y e = e
left_false false y e = refl

right_false : (x y : Bool) → (x || y) ≡ false → y ≡ false
right_false true y e = absurd cc
right_false false y e = e

-- the class is that of a mark of groups
abbrev class_mark : Class → Bool
class_mark (Mark kind) = is_group_mark kind
class_mark _ = false

class_choice : (x : Bool) (c d : Class) → class_mark c ≡ false → class_mark d ≡ false → class_mark (cond x c d) ≡ false
class_choice true c d h i = h
class_choice false c d h i = i

class_unmarked : (b : ℕ) → is_mark_byte b ≡ false → class_mark (class_of b) ≡ false
class_unmarked b h =
    let semicolon : (b == 59) ≡ false = left_false (b == 59) (b == 123 || b == 125) h in
    let brace : (b == 123 || b == 125) ≡ false = right_false (b == 59) (b == 123 || b == 125) h in
    let word = cond (nat_le 33 b && nat_le b 126) WordByte Bad in
    let others = cond (b == 44) (Mark Comma) (cond (b == 34) Quote (cond (b == 92) Backslash word)) in
    let others_unmarked : class_mark others ≡ false =
    class_choice (b == 44) (Mark Comma) (cond (b == 34) Quote (cond (b == 92) Backslash word)) refl
    (class_choice (b == 34) Quote (cond (b == 92) Backslash word) refl
    (class_choice (b == 92) Backslash word refl (class_choice (nat_le 33 b && nat_le b 126) WordByte Bad refl refl))) in
    let later = cond (b == 59) (Mark Semicolon) others in
    let later_unmarked : class_mark later ≡ false =
    ap (λ (x : Bool). class_mark (cond x (Mark Semicolon) others)) semicolon ∙ others_unmarked in
    let colon = cond (b == 58) (Mark Colon) later in
    let colon_unmarked : class_mark colon ≡ false = class_choice (b == 58) (Mark Colon) later refl later_unmarked in
    let braces : Bool = b == 123 || b == 125 || b == 40 || b == 41 in
    let marks = cond braces (Mark (Brace b)) colon in
    class_choice (b == 10) LineEnd (cond (b == 32 || b == 9 || b == 13) Blank marks) refl
    (class_choice (b == 32 || b == 9 || b == 13) Blank marks refl (class_choice braces (Mark (Brace b)) colon brace colon_unmarked))

opened_unmarked : (line : Bool) (at b : ℕ) (c : Class) → class_mark c ≡ false → has_mark (opened_by line at b c).1 ≡ false
opened_unmarked line at b LineEnd h = refl
opened_unmarked line at b Blank h = refl
opened_unmarked line at b (Mark kind) h = ap (λ (x : Bool). x || false) h
opened_unmarked line at b Quote h = refl
opened_unmarked line at b Backslash h = refl
opened_unmarked line at b WordByte h = refl
opened_unmarked line at b Bad h = refl

word_unmarked : (begun at b : ℕ) (line : Bool) (c : Class) → class_mark c ≡ false
    → has_mark (after_token (token Word begun at line) (opened_by false at b c)).1 ≡ false
word_unmarked begun at b line (Mark kind) h = ap (λ (x : Bool). x || false) h
word_unmarked begun at b line _ h = refl

in_word_unmarked : (begun at b : ℕ) (line : Bool) (c : Class) → class_mark (class_of b) ≡ false
    → has_mark (in_word_by begun line at b c).1 ≡ false
in_word_unmarked begun at b line WordByte h = refl
in_word_unmarked begun at b line _ h = word_unmarked begun at b line (class_of b) h

choice_unmarked : (x : Bool) (p q : Mode × List Token) → has_mark p.1 ≡ false → has_mark q.1 ≡ false
    → has_mark (cond x p q).1 ≡ false
choice_unmarked true p q h i = h
choice_unmarked false p q h i = i

continuation_unmarked : (begun : ℕ) (line : Bool) (c : Class) → has_mark (in_continuation begun line c).1 ≡ false
continuation_unmarked begun line LineEnd = refl
continuation_unmarked begun line Blank = refl
continuation_unmarked begun line (Mark kind) = refl
continuation_unmarked begun line Quote = refl
continuation_unmarked begun line Backslash = refl
continuation_unmarked begun line WordByte = refl
continuation_unmarked begun line Bad = refl

-- with another byte none of these marks ends
pub step_unmarked : (mode : Mode) (at b : ℕ) → is_mark_byte b ≡ false → has_mark (step mode at b).1 ≡ false
step_unmarked (Between line) at b h = opened_unmarked line at b (class_of b) (class_unmarked b h)
step_unmarked (InWord begun line None) at b h = in_word_unmarked begun at b line (class_of b) (class_unmarked b h)
step_unmarked (InWord begun line (Some slash)) at b h =
    choice_unmarked (b == 42) (comment_in_word begun line slash) (in_word_by begun line at b (class_of b))
    (choice_unmarked (begun == slash) (InComment slash line false, [])
    (InComment slash false false, token Word begun slash line ∷ []) refl refl)
    (in_word_unmarked begun at b line (class_of b) (class_unmarked b h))
step_unmarked (InText begun line escaped) at b h =
    choice_unmarked (b == 34 && not escaped) (Between false, token Text begun (at + 1) line ∷ [])
    (InText begun line (b == 92), []) refl refl
step_unmarked (InComment begun line star) at b h =
    choice_unmarked (b == 47 && star) (Between line, []) (InComment begun (line || b == 10) (b == 42), []) refl refl
step_unmarked (InContinuation begun line) at b h = continuation_unmarked begun line (class_of b)
step_unmarked (Stopped begun) at b h = refl

pub has_mark_append : (s t : List Token) → has_mark (s ++ t) ≡ (has_mark s || has_mark t)
has_mark_append [] t = refl
has_mark_append (x ∷ s) t =
    ap (λ (y : Bool). is_group_mark x.kind || y) (has_mark_append s t) ∙ or_assoc (is_group_mark x.kind) (has_mark s) (has_mark t)
  where
    or_assoc : (x y z : Bool) → (x || (y || z)) ≡ ((x || y) || z)
    or_assoc true y z = refl
    or_assoc false y z = refl

-- So many bytes were read, behind which this much stands open, and these are the tokens. None of these marks has ended.
pub record NoneMarked (mode : Mode) (at : ℕ) (bytes : List ℕ) (n : ℕ) (now : Mode) (first tokens : List Token) : Type 0 where
  pub mode_is : now ≡ mode_behind mode at (take n bytes)
  pub tokens_are : tokens ≡ first ++ tokens_ended mode at (take n bytes)
  pub none : (k : ℕ) → k < n + 1 → has_mark (tokens_ended mode at (take k bytes)) ≡ false

module _ {mode : Mode} {at : ℕ} {bytes : List ℕ} {n : ℕ} {now : Mode} {first tokens : List Token} where
  -- one more byte
  pub tokens_by : (tokens' : List Token) → n < length bytes → NoneMarked mode at bytes n now first tokens
      → tokens' ≡ tokens ++ (step now (at + n) (get_or bytes n 0)).1 → tokens' ≡ first ++ tokens_ended mode at (take (n + 1) bytes)
  tokens_by tokens' h k e =
      let new = (step now (at + n) (get_or bytes n 0)).1 in
      e ∙ ap (λ (l : List Token). l ++ new) k.tokens_are
      ∙ append_assoc first (tokens_ended mode at (take n bytes)) new
      ∙ ap (λ (l : List Token). first ++ l) (sym (ended_by mode at bytes n now h k.mode_is))

  pub marked_turn : (now' : Mode) (tokens' : List Token) → n < length bytes → NoneMarked mode at bytes n now first tokens
      → now' ≡ (step now (at + n) (get_or bytes n 0)).0 → tokens' ≡ tokens ++ (step now (at + n) (get_or bytes n 0)).1
      → has_mark (step now (at + n) (get_or bytes n 0)).1 ≡ false → NoneMarked mode at bytes (n + 1) now' first tokens'
  marked_turn now' tokens' h k e f unmarked = record {
    mode_is = mode_by mode at bytes n now now' h k.mode_is e;
    tokens_are = tokens_by tokens' h k f;
    none = λ i less. by_test i less (nat_lt i (n + 1)) refl;
  }
    where
      last_unmarked : has_mark (tokens_ended mode at (take (n + 1) bytes)) ≡ false
      last_unmarked =
          let new = (step now (at + n) (get_or bytes n 0)).1 in
          ap has_mark (ended_by mode at bytes n now h k.mode_is)
          ∙ has_mark_append (tokens_ended mode at (take n bytes)) new
          ∙ ap (λ (x : Bool). x || has_mark new) (k.none n (omega arith)) ∙ unmarked

      by_test : (i : ℕ) → i < n + 1 + 1 → (b : Bool) → nat_lt i (n + 1) ≡ b
          → has_mark (tokens_ended mode at (take i bytes)) ≡ false
      by_test i less true t = k.none i (grind (arith, nat_tests, t))
      by_test i less false t = let last : i ≡ n + 1 = grind (arith, nat_tests, t, less)
          in ap (λ (j : ℕ). has_mark (tokens_ended mode at (take j bytes))) last ∙ last_unmarked

marked_turns : (mode : Mode) (at : ℕ) (bytes : List ℕ) (n : ℕ) (now : Mode) (first tokens : List Token) (k : ℕ)
    → NoneMarked mode at bytes n now first tokens → n + k ≤ length bytes →
    ((i : ℕ) → i < k → step now (at + (n + i)) (get_or bytes (n + i) 0) ≡ (now, []))
    → NoneMarked mode at bytes (n + k) now first tokens
marked_turns mode at bytes n now first tokens zero none h each =
    subst (λ m. NoneMarked mode at bytes m now first tokens) (omega arith) none
marked_turns mode at bytes n now first tokens (suc k) none h each =
    let before = marked_turns mode at bytes n now first tokens k none (omega (arith, h)) (λ i less. each i (omega (arith, less))) in
    let last = each k (omega arith) in
    let next = marked_turn now tokens (omega (arith, h)) before (sym (ap (λ p. p.0) last))
    (sym (append-nil tokens) ∙ ap (λ (l : List Token). tokens ++ l) (sym (ap (λ p. p.1) last)))
    (ap has_mark (ap (λ p. p.1) last)) in
    let same : n + k + 1 ≡ n + suc k = omega arith in
    subst (λ m. NoneMarked mode at bytes m now first tokens) same next

-- behind a run
pub idle_marked : (mode : Mode) (at : ℕ) (bytes : List ℕ) (n : ℕ) (now : Mode) (first tokens : List Token) (k : ℕ)
    → NoneMarked mode at bytes n now first tokens → n + k ≤ length bytes → k ≡ idle_run now (drop n bytes)
    → NoneMarked mode at bytes (n + k) now first tokens
idle_marked mode at bytes n now first tokens k none h e = marked_turns mode at bytes n now first tokens k none h (λ i less.
    ap (step now (at + (n + i))) (sym (get_or-drop n bytes i 0))
    ∙ stays now (drop n bytes) i (at + (n + i)) (omega (arith, less, e)))
