-- How a rule is read from left to right: a function of the tokens, which looks one token ahead.
use Rattle.std.specs.Prelude.{ℕ, zero, suc, List, [], ◌∷◌, length, Option, Some, None, Result, Ok, Err}
use Rattle.grammar_rules.specs.Rule.{Rule, Gives, Token, Peek, Then, Many, Choice, Last, Marked, Verdict, Fits, Foul, Misfit}

-- the value of the phrase and the tokens after it; or the kind of the fault and the tokens from its place on
abbrev pub Outcome : (T K A : Type 0) → Type 0
Outcome T K A = Result (A × List T) (K × List T)

abbrev pub and_then : {T K A B : Type 0} → Outcome T K A → (A → List T → Outcome T K B) → Outcome T K B
and_then (Ok p) g = g p.0 p.1
and_then (Err e) g = Err e

abbrev pub marked : {T J K A : Type 0} → (J → K) → Outcome T J A → Outcome T K A
marked h (Ok p) = Ok p
marked h (Err e) = Err (h e.0, e.1)

abbrev pub at_next : {T R : Type 0} → List T → (T → List T → R) → R → R
at_next [] go end = end
at_next (x ∷ s) go end = go x s

abbrev pub judge : {A K R : Type 0} → Verdict A K → (A → R) → (K → R) → R
judge (Fits a) good bad = good a
judge (Foul k a) good bad = bad k
judge (Misfit k) good bad = bad k

abbrev pub judge_first : {A K R : Type 0} → Option (Verdict A K) → (A → R) → (K → R) → R → R
judge_first None good bad other = other
judge_first (Some v) good bad other = judge v good bad

abbrev pub choose : {T K A B : Type 0} → (T → Option (Verdict A K)) → List T → (A → List T → Outcome T K B) → Outcome T K B
    → Outcome T K B
choose f s go other = at_next s (λ x r. judge_first (f x) (λ a. go a r) (λ k. Err (k, x ∷ r)) other) other

-- at most n turns of a repeated part
abbrev pub repeat : {T K A S : Type 0} → (S → T → Option (Verdict A K)) → (S → A → List T → Outcome T K S) → ℕ → S → List T
    → Outcome T K S
repeat f go zero u s = Ok (u, s)
repeat f go (suc n) u s = choose (f u) s (λ a r. and_then (go u a r) (λ v q. repeat f go n v q)) (Ok (u, s))

abbrev pub read : {T K A : Type 0} → Rule T K A → List T → Outcome T K A
read (Gives a) s = Ok (a, s)
read (Token f k) s = at_next s (λ x r. judge (f x) (λ a. Ok (a, r)) (λ j. Err (j, x ∷ r))) (Err (k, []))
read (Peek f k) s = at_next s (λ x r. judge (f x) (λ a. Ok (a, x ∷ r)) (λ j. Err (j, x ∷ r))) (Err (k, []))
read (Then p g) s = and_then (read p s) (λ a r. read (g a) r)
read (Many f g u) s = repeat f (λ v a r. read (g v a) r) (length s) u s
read (Choice f g p) s = choose f s (λ a r. read (g a) r) (read p s)
read (Last f a) s = at_next s (λ x r. Err (f x, x ∷ r)) (Ok (a, []))
read (Marked h p) s = marked h (read p s)
