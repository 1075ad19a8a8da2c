-- Several bytes that are read at once.
use Rattle.std.proofs.Common.{◌≡◌, ℕ, suc, ◌+◌, ◌<◌, nat_lt, Bool, true, false, List, [], ◌∷◌, ◌++◌, take, length, get_or, refl}
use Rattle.std.proofs.Common.{sym, ap, ◌∙◌, arith, add-one}
use Rattle.std.proofs.lemmas.Bool.Decides.{nat_tests}
use Rattle.std.proofs.lemmas.List.{append-nil, append_assoc, length-append, length-take-le}
use Rattle.std.proofs.Math.Seq.{take-suc}
use Rattle.liberty_text.specs.declared.token.Token.{Token}
use Rattle.liberty_text.specs.declared.token.Stop.{Stop}
use Rattle.liberty_text.specs.declared.scanner.Mode.{Mode}
use Rattle.liberty_text.specs.Scanner.{step, run, after_tokens}
use Rattle.liberty_text.specs.Runs.{mode_behind, tokens_ended}

pub after_both : (ts us : List Token) (p : List Token × Stop) → after_tokens ts (after_tokens us p) ≡ after_tokens (ts ++ us) p
after_both ts us (vs, stop) = ap (λ (l : List Token). (l, stop)) (sym (append_assoc ts us vs))

after_none : (p : List Token × Stop) → p ≡ after_tokens [] p
after_none (ts, stop) = refl

-- some bytes, and then what follows
pub run_on : (mode : Mode) (at : ℕ) (bytes more : List ℕ) →
    run mode at (bytes ++ more) ≡ after_tokens (tokens_ended mode at bytes)
    (run (mode_behind mode at bytes) (at + length bytes) more)
run_on mode at [] more = ap (λ (n : ℕ). run mode n more) (omega arith) ∙ after_none (run mode (at + 0) more)
run_on mode at (b ∷ bs) more =
    let s = step mode at b in
    let same : at + 1 + length bs ≡ at + suc (length bs) = omega arith in
    ap (after_tokens s.1) (run_on s.0 (at + 1) bs more)
    ∙ after_both s.1 (tokens_ended s.0 (at + 1) bs) (run (mode_behind s.0 (at + 1) bs) (at + 1 + length bs) more)
    ∙ ap (λ (n : ℕ). after_tokens (s.1 ++ tokens_ended s.0 (at + 1) bs) (run (mode_behind s.0 (at + 1) bs) n more)) same

-- one more byte

mode_next : (mode : Mode) (at : ℕ) (bytes : List ℕ) (b : ℕ)
    → mode_behind mode at (bytes ++ b ∷ []) ≡ (step (mode_behind mode at bytes) (at + length bytes) b).0
mode_next mode at [] b = ap (λ (n : ℕ). (step mode n b).0) (omega arith)
mode_next mode at (c ∷ bs) b =
    let same : at + 1 + length bs ≡ at + suc (length bs) = omega arith in
    mode_next (step mode at c).0 (at + 1) bs b ∙ ap (λ (n : ℕ). (step (mode_behind (step mode at c).0 (at + 1) bs) n b).0) same

tokens_next : (mode : Mode) (at : ℕ) (bytes : List ℕ) (b : ℕ) →
    tokens_ended mode at (bytes ++ b ∷ []) ≡ tokens_ended mode at bytes
    ++ (step (mode_behind mode at bytes) (at + length bytes) b).1
tokens_next mode at [] b = append-nil (step mode at b).1 ∙ ap (λ (n : ℕ). (step mode n b).1) (omega arith)
tokens_next mode at (c ∷ bs) b =
    let same : at + 1 + length bs ≡ at + suc (length bs) = omega arith in
    ap (λ (l : List Token). (step mode at c).1 ++ l)
    (tokens_next (step mode at c).0 (at + 1) bs b
    ∙ ap (λ (n : ℕ). tokens_ended (step mode at c).0 (at + 1) bs ++ (step (mode_behind (step mode at c).0 (at + 1) bs) n b).1)
    same)
    ∙ sym (append_assoc (step mode at c).1 (tokens_ended (step mode at c).0 (at + 1) bs)
    (step (mode_behind (step mode at c).0 (at + 1) bs) (at + suc (length bs)) b).1)

-- No token ends with the first so many bytes, behind which this much stands open.
pub record NoneEnded (mode : Mode) (at : ℕ) (bytes : List ℕ) (n : ℕ) (now : Mode) : Type 0 where
  pub mode_is : now ≡ mode_behind mode at (take n bytes)
  pub none : (k : ℕ) → k < n + 1 → tokens_ended mode at (take k bytes) ≡ []

take_next : (bytes : List ℕ) (n : ℕ) → n < length bytes → take (n + 1) bytes ≡ take n bytes ++ get_or bytes n 0 ∷ []
take_next bytes n h = rw add-one (take-suc bytes n 0 h)

-- the next byte

pub mode_by : (mode : Mode) (at : ℕ) (bytes : List ℕ) (n : ℕ) (now now' : Mode) → n < length bytes
    → now ≡ mode_behind mode at (take n bytes) →
    now' ≡ (step now (at + n) (get_or bytes n 0)).0 → now' ≡ mode_behind mode at (take (n + 1) bytes)
mode_by mode at bytes n now now' h m e =
    let b = get_or bytes n 0 in
    let size : length (take n bytes) ≡ n = length-take-le n bytes (omega (arith, h)) in
    e ∙ ap (λ (m : Mode). (step m (at + n) b).0) m
    ∙ ap (λ (i : ℕ). (step (mode_behind mode at (take n bytes)) (at + i) b).0) (sym size)
    ∙ sym (mode_next mode at (take n bytes) b)
    ∙ ap (mode_behind mode at) (sym (take_next bytes n h))

pub ended_by : (mode : Mode) (at : ℕ) (bytes : List ℕ) (n : ℕ) (now : Mode) → n < length bytes
    → now ≡ mode_behind mode at (take n bytes) →
    tokens_ended mode at (take (n + 1) bytes) ≡ tokens_ended mode at (take n bytes) ++ (step now (at + n) (get_or bytes n 0)).1
ended_by mode at bytes n now h m =
    let b = get_or bytes n 0 in
    let size : length (take n bytes) ≡ n = length-take-le n bytes (omega (arith, h)) in
    ap (tokens_ended mode at) (take_next bytes n h)
    ∙ tokens_next mode at (take n bytes) b
    ∙ ap (λ (i : ℕ). tokens_ended mode at (take n bytes) ++ (step (mode_behind mode at (take n bytes)) (at + i) b).1) size
    ∙ ap (λ (m : Mode). tokens_ended mode at (take n bytes) ++ (step m (at + n) b).1) (sym m)

pub mode_turn : (mode : Mode) (at : ℕ) (bytes : List ℕ) (n : ℕ) (now now' : Mode) → n < length bytes
    → NoneEnded mode at bytes n now →
    now' ≡ (step now (at + n) (get_or bytes n 0)).0 → now' ≡ mode_behind mode at (take (n + 1) bytes)
mode_turn mode at bytes n now now' h k e = mode_by mode at bytes n now now' h k.mode_is e

ended_turn : (mode : Mode) (at : ℕ) (bytes : List ℕ) (n : ℕ) (now : Mode) → n < length bytes → NoneEnded mode at bytes n now →
    tokens_ended mode at (take (n + 1) bytes) ≡ (step now (at + n) (get_or bytes n 0)).1
ended_turn mode at bytes n now h k =
    ended_by mode at bytes n now h k.mode_is
    ∙ ap (λ (l : List Token). l ++ (step now (at + n) (get_or bytes n 0)).1) (k.none n (omega arith))

pub tokens_turn : (mode : Mode) (at : ℕ) (bytes : List ℕ) (n : ℕ) (now : Mode) (first ts ts' : List Token) → n < length bytes
    → NoneEnded mode at bytes n now → ts ≡ first →
    ts' ≡ ts ++ (step now (at + n) (get_or bytes n 0)).1 → ts' ≡ first ++ tokens_ended mode at (take (n + 1) bytes)
tokens_turn mode at bytes n now first ts ts' h k e f =
    f ∙ ap (λ (l : List Token). l ++ (step now (at + n) (get_or bytes n 0)).1) e
    ∙ ap (λ (l : List Token). first ++ l) (sym (ended_turn mode at bytes n now h k))

nil_of : (ts : List Token) → length ts ≡ 0 → ts ≡ []
nil_of [] e = refl
nil_of (t ∷ ts) e = absurd (omega (arith, e))

-- no token more
pub none_turn : (mode : Mode) (at : ℕ) (bytes : List ℕ) (n : ℕ) (now now' : Mode) (first ts ts' : List Token) → n < length bytes
    → NoneEnded mode at bytes n now → ts ≡ first →
    now' ≡ (step now (at + n) (get_or bytes n 0)).0 → ts' ≡ ts ++ (step now (at + n) (get_or bytes n 0)).1
    → length ts' ≡ length first →
    (ts' ≡ first) × NoneEnded mode at bytes (n + 1) now'
none_turn mode at bytes n now now' first ts ts' h k e f g same =
    let both = tokens_turn mode at bytes n now first ts ts' h k e g in
    let new = tokens_ended mode at (take (n + 1) bytes) in
    let nothing : new ≡ [] = nil_of new (let size = ap length both in omega (arith, size, same, length-append first new)) in (
      both ∙ ap (λ (l : List Token). first ++ l) nothing ∙ append-nil first,
      record { mode_is = mode_turn mode at bytes n now now' h k f; none = λ i less. last_or_before i less nothing },
    )
  where
    last_or_before : (i : ℕ) → i < n + 1 + 1 → tokens_ended mode at (take (n + 1) bytes) ≡ []
        → tokens_ended mode at (take i bytes) ≡ []
    last_or_before i less nothing = by_test (nat_lt i (n + 1)) refl
      where
        by_test : (b : Bool) → nat_lt i (n + 1) ≡ b → tokens_ended mode at (take i bytes) ≡ []
        by_test true t = k.none i (grind (arith, nat_tests, t))
        by_test false t = let last : i ≡ n + 1 = grind (arith, nat_tests, t, less)
            in ap (λ (j : ℕ). tokens_ended mode at (take j bytes)) last ∙ nothing

-- a token has ended with the last of them
pub some_ended : (mode : Mode) (at : ℕ) (bytes : List ℕ) (n : ℕ) (first ts' : List Token)
    → ts' ≡ first ++ tokens_ended mode at (take n bytes) → tokens_ended mode at (take n bytes) ≡ [] → length ts' ≡ length first
some_ended mode at bytes n first ts' e f = ap length (e ∙ ap (λ (l : List Token). first ++ l) f ∙ append-nil first)
