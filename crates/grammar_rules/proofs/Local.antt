-- A reading looks one token ahead and no further.
use Rattle.std.proofs.Common.{◌≡◌, ℕ, zero, suc, ◌≤◌, List, [], ◌∷◌, ◌++◌, length, Option, Some, None, Ok, Err, ◌⊎◌, inl, inr}
use Rattle.std.proofs.Common.{refl, sym, ap, subst, ◌∙◌, arith}
use Rattle.grammar_rules.specs.Rule.{Rule, Gives, Token, Peek, Then, Many, Choice, Last, Marked, Verdict, Fits, Foul, Misfit}
use Rattle.grammar_rules.specs.Reading.{Outcome, and_then, marked, judge, judge_first, choose, repeat, read}
use Rattle.grammar_rules.proofs.Steps.{rest_of, choose_fits}
use Rattle.grammar_rules.proofs.Turns.{Shrinks, turns, unroll}
use Rattle.grammar_rules.proofs.Exact.{parts_shrink}
use Rattle.grammar_rules.proofs.Fronts.{UsesUp, at_end, first_used, judged_used, used_marked}

abbrev pub extended : {T K A : Type 0} → List T → Outcome T K A → Outcome T K A
extended more (Ok p) = Ok (p.0, p.1 ++ more)
extended more (Err e) = Err (e.0, e.1 ++ more)

abbrev pub IsCons : {T : Type 0} → List T → Type 0
IsCons [] = ⊥
IsCons (x ∷ s) = Unit {0}

abbrev pub LeavesSome : {T K A : Type 0} → Outcome T K A → Type 0
LeavesSome o = IsCons (rest_of o)

pub cons_or_nil : {T : Type 0} (s : List T) → IsCons s ⊎ (s ≡ [])
cons_or_nil [] = inr refl
cons_or_nil (x ∷ s) = inl tt

pub nothing_left : {T : Type 0} (s : List T) → IsCons s → s ≡ [] → ⊥
nothing_left [] h e = h
nothing_left (x ∷ s) h e = absurd cc

judged_extended : {T K A : Type 0} (v : Verdict A K) (x : T) (s r more : List T) →
    ◌≡◌ {A = Outcome T K A} (judge v (λ a. Ok (a, r ++ more)) (λ j. Err (j, x ∷ (s ++ more))))
    (extended more (judge v (λ a. Ok (a, r)) (λ j. Err (j, x ∷ s))))
judged_extended (Fits a) x s r more = refl
judged_extended (Foul k a) x s r more = refl
judged_extended (Misfit k) x s r more = refl

then_left : {T K A B : Type 0} (o : Outcome T K A) (g : A → List T → Outcome T K B) → LeavesSome (and_then o g)
    → ((a : A) → UsesUp (g a [])) → LeavesSome o
then_left {T} {K} {A} {B} (Ok p) g h i =
    elim (cons_or_nil p.1) [
      | inl c ↦ c
      | inr e ↦ absurd
          (nothing_left (rest_of (g p.0 p.1)) h (subst (λ (r : List T). UsesUp (g p.0 r)) (sym e) (i p.0)))
    ]
then_left (Err z) g h i = h

then_extended : {T K A B : Type 0} (o : Outcome T K A) (g : A → List T → Outcome T K B) (more : List T)
    → LeavesSome (and_then o g) →
    ((a : A) (r : List T) → o ≡ Ok (a, r) → LeavesSome (g a r) → g a (r ++ more) ≡ extended more (g a r)) →
    and_then (extended more o) g ≡ extended more (and_then o g)
then_extended (Ok p) g more h i = i p.0 p.1 refl h
then_extended (Err z) g more h i = refl

first_extended : {T K A B : Type 0} (v : Option (Verdict A K)) (x : T) (m more : List T) (next : A → List T
    → Outcome T K B) (other other' : Outcome T K B) →
    LeavesSome (judge_first v (λ a. next a m) (λ k. Err (k, x ∷ m)) other) →
    ((a : A) → LeavesSome (next a m) → next a (m ++ more) ≡ extended more (next a m)) →
    (LeavesSome other → other' ≡ extended more other) →
    judge_first v (λ a. next a (m ++ more)) (λ k. Err (k, x ∷ (m ++ more))) other' ≡ extended more
    (judge_first v (λ a. next a m) (λ k. Err (k, x ∷ m)) other)
first_extended None x m more next other other' h i j = j h
first_extended (Some (Fits a)) x m more next other other' h i j = i a h
first_extended (Some (Foul k a)) x m more next other other' h i j = refl
first_extended (Some (Misfit k)) x m more next other other' h i j = refl

pub turns_local : {T K A S : Type 0} (f : S → T → Option (Verdict A K)) (go : S → A → List T → Outcome T K S) → Shrinks go
    → (more : List T) →
    ((w : S) (a : A) → UsesUp (go w a [])) →
    ((w : S) (a : A) (m : List T) → LeavesSome (go w a m) → go w a (m ++ more) ≡ extended more (go w a m)) →
    (n : ℕ) (u : S) (s : List T) → length s ≤ n → LeavesSome (turns f go u s)
    → turns f go u (s ++ more) ≡ extended more (turns f go u s)
turns_local f go sh more none loc n u [] l h = absurd h
turns_local f go sh more none loc zero u (x ∷ m) l h = absurd (omega arith)
turns_local {T} {K} {A} {S} f go sh more none loc (suc n) u (x ∷ m) l h =
    let next : A → List T → Outcome T K S = λ a q. and_then (go u a q) (λ w q. turns f go w q) in
    let left : LeavesSome (choose (f u) (x ∷ m) next (Ok (u, x ∷ m))) = subst LeavesSome (unroll f go sh u (x ∷ m)) h in
    unroll f go sh u (x ∷ (m ++ more))
    ∙ first_extended (f u x) x m more next (Ok (u, x ∷ m)) (Ok (u, x ∷ (m ++ more))) left
    (λ a i. ap (λ (o : Outcome T K S). and_then o (λ w q. turns f go w q))
    (loc u a m (then_left (go u a m) (λ w q. turns f go w q) i (λ w. refl)))
    ∙ then_extended (go u a m) (λ w q. turns f go w q) more i
    (λ w q e j. let b = sh u a m w q e in turns_local f go sh more none loc n w q (omega arith) j))
    (λ _. refl)
    ∙ ap (extended more) (sym (unroll f go sh u (x ∷ m)))

pub local : {T K A : Type 0} (p : Rule T K A) (s more : List T) → LeavesSome (read p s)
    → read p (s ++ more) ≡ extended more (read p s)
local (Gives a) s more h = refl
local (Token f k) [] more h = absurd h
local (Token f k) (x ∷ s) more h = judged_extended (f x) x s s more
local (Peek f k) [] more h = absurd h
local (Peek f k) (x ∷ s) more h = judged_extended (f x) x s (x ∷ s) more
local {T} {K} (Then {A = A} p g) s more h =
    ap (λ (o : Outcome T K A). and_then o (λ a r. read (g a) r))
    (local p s more (then_left (read p s) (λ a r. read (g a) r) h (λ a. at_end (g a))))
    ∙ then_extended (read p s) (λ a r. read (g a) r) more h (λ a r e i. local (g a) r more i)
local (Many f g u) s more h =
    turns_local f (λ w a q. read (g w a) q) (parts_shrink g) more (λ w a. at_end (g w a)) (λ w a q i. local (g w a) q more i)
    (length s) u s (omega arith) h
local (Choice f g p) [] more h = absurd (nothing_left (rest_of (read p [])) h (at_end p))
local (Choice f g p) (x ∷ m) more h =
    first_extended (f x) x m more (λ a q. read (g a) q) (read p (x ∷ m)) (read p (x ∷ (m ++ more))) h
    (λ a i. local (g a) m more i) (λ i. local p (x ∷ m) more i)
local (Last f a) [] more h = absurd h
local (Last f a) (x ∷ s) more h = refl
local (Marked h p) s more i = marked_local h (read p s) (read p (s ++ more)) more i (λ j. local p s more j)
  where
    marked_local : {T J K A : Type 0} (h : J → K) (o o' : Outcome T J A) (more : List T) → LeavesSome (marked h o) →
        (LeavesSome o → o' ≡ extended more o) → marked h o' ≡ extended more (marked h o)
    marked_local h (Ok p) o' more i j = ap (marked h) (j i)
    marked_local h (Err z) o' more i j = ap (marked h) (j i)

-- what is left is at most the end of what there was
abbrev pub AtMost : {T K A : Type 0} → ℕ → Outcome T K A → Type 0
AtMost n o = length (rest_of o) ≤ n

pub then_within : {T K A B : Type 0} (o : Outcome T K A) (g : A → List T → Outcome T K B) (n : ℕ) → AtMost n o
    → ((a : A) (r : List T) → o ≡ Ok (a, r) → AtMost (length r) (g a r)) → AtMost n (and_then o g)
then_within (Ok p) g n h i = let j = i p.0 p.1 refl in omega arith
then_within (Err z) g n h i = h

judged_within : {T K A : Type 0} (v : Verdict A K) (x : T) (s r : List T) → length r ≤ suc (length s) →
    AtMost {T = T} {K = K} {A = A} (suc (length s)) (judge v (λ a. Ok (a, r)) (λ j. Err (j, x ∷ s)))
judged_within (Fits a) x s r h = h
judged_within (Foul k a) x s r h = omega arith
judged_within (Misfit k) x s r h = omega arith

first_within : {T K A B : Type 0} (v : Option (Verdict A K)) (x : T) (m : List T) (next : A
    → Outcome T K B) (other : Outcome T K B) →
    ((a : A) → AtMost (length m) (next a)) → AtMost (suc (length m)) other
    → AtMost (suc (length m)) (judge_first v next (λ k. Err (k, x ∷ m)) other)
first_within None x m next other h i = i
first_within (Some (Fits a)) x m next other h i = let j = h a in omega arith
first_within (Some (Foul k a)) x m next other h i = omega arith
first_within (Some (Misfit k)) x m next other h i = omega arith

pub repeat_within : {T K A S : Type 0} (f : S → T → Option (Verdict A K)) (go : S → A → List T → Outcome T K S)
    → ((w : S) (a : A) (m : List T) → AtMost (length m) (go w a m)) →
    (n : ℕ) (u : S) (s : List T) → AtMost (length s) (repeat f go n u s)
repeat_within f go h zero u s = omega arith
repeat_within f go h (suc n) u [] = omega arith
repeat_within f go h (suc n) u (x ∷ m) =
    first_within (f u x) x m (λ a. and_then (go u a m) (λ w q. repeat f go n w q)) (Ok (u, x ∷ m))
    (λ a. then_within (go u a m) (λ w q. repeat f go n w q) (length m) (h u a m) (λ w q e. repeat_within f go h n w q))
    (omega arith)

pub within : {T K A : Type 0} (p : Rule T K A) (s : List T) → AtMost (length s) (read p s)
within (Gives a) s = omega arith
within (Token f k) [] = omega arith
within (Token f k) (x ∷ s) = judged_within (f x) x s s (omega arith)
within (Peek f k) [] = omega arith
within (Peek f k) (x ∷ s) = judged_within (f x) x s (x ∷ s) (omega arith)
within (Then p g) s = then_within (read p s) (λ a r. read (g a) r) (length s) (within p s) (λ a r e. within (g a) r)
within (Many f g u) s = repeat_within f (λ w a q. read (g w a) q) (λ w a q. within (g w a) q) (length s) u s
within (Choice f g p) [] = within p []
within (Choice f g p) (x ∷ m) = first_within (f x) x m (λ a. read (g a) m) (read p (x ∷ m)) (λ a. within (g a) m)
    (within p (x ∷ m))
within (Last f a) [] = omega arith
within (Last f a) (x ∷ s) = omega arith
within (Marked h p) s = marked_within h (read p s) (length s) (within p s)
  where
    marked_within : {T J K A : Type 0} (h : J → K) (o : Outcome T J A) (n : ℕ) → AtMost n o → AtMost n (marked h o)
    marked_within h (Ok p) n i = i
    marked_within h (Err z) n i = i

then_onward : {T K A B : Type 0} (o o' : Outcome T K A) (g : A → List T → Outcome T K B) (more : List T) →
    (UsesUp o → AtMost (length more) o') → (LeavesSome o → o' ≡ extended more o) →
    ((a : A) (r : List T) → AtMost (length r) (g a r)) →
    ((a : A) (r : List T) → o ≡ Ok (a, r) → UsesUp (g a r) → AtMost (length more) (g a (r ++ more))) →
    UsesUp (and_then o g) → AtMost (length more) (and_then o' g)
then_onward {T} {K} {A} {B} (Ok p) o' g more used left all next h =
    elim (cons_or_nil p.1) [
      | inl c ↦ subst (λ (o : Outcome T K A). AtMost (length more) (and_then o g)) (sym (left c)) (next p.0 p.1 refl h)
      | inr e ↦ then_within o' g (length more) (used e) (λ a r _. all a r)
    ]
then_onward (Err z) o' g more used left all next h = then_within o' g (length more) (used h) (λ a r _. all a r)

turns_onward : {T K A S : Type 0} (f : S → T → Option (Verdict A K)) (go : S → A → List T → Outcome T K S) → Shrinks go
    → (more : List T) →
    ((w : S) (a : A) (m : List T) → AtMost (length m) (go w a m)) →
    ((w : S) (a : A) (m : List T) → LeavesSome (go w a m) → go w a (m ++ more) ≡ extended more (go w a m)) →
    ((w : S) (a : A) (m : List T) → UsesUp (go w a m) → AtMost (length more) (go w a (m ++ more))) →
    (n : ℕ) (u : S) (s : List T) → length s ≤ n → UsesUp (turns f go u s) → AtMost (length more) (turns f go u (s ++ more))
turns_onward f go sh more all loc onw n u [] l h = repeat_within f go all (length more) u more
turns_onward f go sh more all loc onw zero u (x ∷ m) l h = absurd (omega arith)
turns_onward {T} {K} {A} {S} f go sh more all loc onw (suc n) u (x ∷ m) l h =
    let next : A → List T → Outcome T K S = λ a q. and_then (go u a q) (λ w q. turns f go w q) in
    let used : UsesUp (choose (f u) (x ∷ m) next (Ok (u, x ∷ m))) = subst UsesUp (unroll f go sh u (x ∷ m)) h in
    elim (first_used (f u x) (λ a. next a m) x m (Ok (u, x ∷ m)) used) [
      | inl (a, fits, i) ↦
          subst (λ (o : Outcome T K S). AtMost (length more) o)
          (sym (unroll f go sh u (x ∷ (m ++ more)) ∙ choose_fits (f u) x (m ++ more) a next (Ok (u, x ∷ (m ++ more))) fits))
          (then_onward (go u a m) (go u a (m ++ more)) (λ w q. turns f go w q) more (onw u a m) (loc u a m)
          (λ w q. repeat_within f go all (length q) w q)
          (λ w q e j. let b = sh u a m w q e in turns_onward f go sh more all loc onw n w q (omega arith) j) i)
      | inr i ↦ absurd (let j = i.1 in cc)
    ]

first_onward : {T K A B : Type 0} (f : T → Option (Verdict A K)) (x : T) (m more : List T) (next : A → List T
    → Outcome T K B) (other other' : Outcome T K B) →
    (UsesUp other → AtMost (length more) other') → ((a : A) → UsesUp (next a m) → AtMost (length more) (next a (m ++ more))) →
    (v : Option (Verdict A K)) → UsesUp (judge_first v (λ a. next a m) (λ k. Err (k, x ∷ m)) other) →
    AtMost (length more) (judge_first v (λ a. next a (m ++ more)) (λ k. Err (k, x ∷ (m ++ more))) other')
first_onward f x m more next other other' h i None u = h u
first_onward f x m more next other other' h i (Some (Fits a)) u = i a u
first_onward f x m more next other other' h i (Some (Foul k a)) u = absurd cc
first_onward f x m more next other other' h i (Some (Misfit k)) u = absurd cc

-- a reading that used up some tokens goes on from there with more
pub onward : {T K A : Type 0} (p : Rule T K A) (s more : List T) → UsesUp (read p s) → AtMost (length more) (read p (s ++ more))
onward {T} (Gives a) s more h = let e = ap (λ (r : List T). length (r ++ more)) h in omega arith
onward (Token f k) [] more h = within (Token f k) more
onward {T} (Token f k) (x ∷ s) more h =
    let i = judged_used (f x) x s s h in rw i.1 (let e = ap (λ (r : List T). length (r ++ more)) i.2 in omega arith)
onward (Peek f k) [] more h = within (Peek f k) more
onward (Peek f k) (x ∷ s) more h = let i = judged_used (f x) x s (x ∷ s) h in absurd (let j = i.2 in cc)
onward (Then p g) s more h =
    then_onward (read p s) (read p (s ++ more)) (λ a r. read (g a) r) more (λ i. onward p s more i) (λ i. local p s more i)
    (λ a r. within (g a) r) (λ a r e i. onward (g a) r more i) h
onward (Many f g u) s more h =
    turns_onward f (λ w a q. read (g w a) q) (parts_shrink g) more (λ w a q. within (g w a) q) (λ w a q i. local (g w a) q more i)
    (λ w a q i. onward (g w a) q more i) (length s) u s (omega arith) h
onward (Choice f g p) [] more h = within (Choice f g p) more
onward (Choice f g p) (x ∷ m) more h =
    first_onward f x m more (λ a q. read (g a) q) (read p (x ∷ m)) (read p (x ∷ (m ++ more))) (λ i. onward p (x ∷ m) more i)
    (λ a i. onward (g a) m more i) (f x) h
onward (Last f a) [] more h = within (Last f a) more
onward (Last f a) (x ∷ s) more h = absurd cc
onward (Marked h p) s more i = marked_onward h (read p (s ++ more)) (length more) (onward p s more (used_marked h (read p s) i))
  where
    marked_onward : {T J K A : Type 0} (h : J → K) (o : Outcome T J A) (n : ℕ) → AtMost n o → AtMost n (marked h o)
    marked_onward h (Ok p) n i = i
    marked_onward h (Err z) n i = i
