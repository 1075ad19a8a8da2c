-- The loose subset of a rule: the same rule with its strict rules left out, and the tokens that break these.
use Rattle.std.specs.Prelude.{◌≡◌, ℕ, ◌≤◌, List, [], ◌∷◌, length, Option, Some, None, ◌⊎◌}
use Rattle.grammar_rules.specs.Rule.{Rule, Gives, Token, Peek, Then, Many, Choice, Last, Marked, Verdict, Fits, Foul, Misfit}
use Rattle.grammar_rules.specs.Rule.{Stops, Times, Takes}

-- a token that breaks a strict rule is taken like one that fits
abbrev pub lenient : {A K : Type 0} → Verdict A K → Verdict A K
lenient (Fits a) = Fits a
lenient (Foul k a) = Fits a
lenient (Misfit k) = Misfit k

abbrev pub lenient_first : {A K : Type 0} → Option (Verdict A K) → Option (Verdict A K)
lenient_first None = None
lenient_first (Some v) = Some (lenient v)

-- The rule without its strict rules. A place that only looks at the next token takes none, so it stays as it is.
abbrev pub loose : {T K A : Type 0} → Rule T K A → Rule T K A
loose (Gives a) = Gives a
loose (Token f k) = Token (λ x. lenient (f x)) k
loose (Peek f k) = Peek f k
loose (Then p g) = Then (loose p) (λ a. loose (g a))
loose (Many f g u) = Many (λ v x. lenient_first (f v x)) (λ v a. loose (g v a)) u
loose (Choice f g p) = Choice (λ x. lenient_first (f x)) (λ a. loose (g a)) (loose p)
loose (Last f a) = Last f a
loose (Marked h p) = Marked h (loose p)

-- the next token begins this part, and breaks a strict rule of this kind
abbrev pub IsFoulFirst : {T A K : Type 0} → (T → Option (Verdict A K)) → List T → K → Type 0
IsFoulFirst f [] k = ⊥
IsFoulFirst {A = A} f (x ∷ s) k = (a : A) × (f x ≡ Some (Foul k a))

-- the next token is taken at this place, and breaks a strict rule of this kind
abbrev pub IsFoulNext : {T A K : Type 0} → (T → Verdict A K) → List T → K → Type 0
IsFoulNext f [] k = ⊥
IsFoulNext {A = A} f (x ∷ s) k = (a : A) × (f x ≡ Foul k a)

-- From these tokens whole parts of the loose rule can be taken, in order, up to a place that takes the first of
-- the tokens left, although it breaks a strict rule of this kind there.
abbrev pub Fouls : {T K A : Type 0} → Rule T K A → List T → K → List T → Type 0
Fouls (Gives a) s k m = ⊥
Fouls (Token f j) s k m = (s ≡ m) × IsFoulNext f s k
Fouls (Peek f j) s k m = ⊥
Fouls {T} (Then {A = A} p g) s k m = Fouls p s k m ⊎ ((a : A) × (r : List T) × Takes (loose p) s a r × Fouls (g a) r k m)
Fouls {T} (Many {A = A} {S = S} f g u) s k m =
    (n : ℕ) × (v : S) × (r : List T) × Times (λ w x. lenient_first (f w x)) (λ w a q. Takes (loose (g w a)) q) n u s v r
    × (((r ≡ m) × IsFoulFirst (f v) r k)
    ⊎ ((x : T) × (a : A) × (q : List T) × (r ≡ x ∷ q) × (lenient_first (f v x) ≡ Some (Fits a)) × Fouls (g v a) q k m))
Fouls {T} (Choice {A = A} f g p) s k m =
    ((s ≡ m) × IsFoulFirst f s k)
    ⊎ (((x : T) × (a : A) × (q : List T) × (s ≡ x ∷ q) × (lenient_first (f x) ≡ Some (Fits a)) × Fouls (g a) q k m)
    ⊎ (Stops f s × Fouls p s k m))
Fouls (Last f a) s k m = ⊥
Fouls (Marked {J = J} h p) s k m = (j : J) × Fouls p s j m × (h j ≡ k)

-- no token that the loose rule takes breaks a strict rule
abbrev pub IsClean : {T K A : Type 0} → Rule T K A → List T → Type 0
IsClean {T} {K} p s = (k : K) (m : List T) → Fouls p s k m → ⊥

-- the first token that breaks a strict rule, with the kind of this one: every other leaves fewer tokens
abbrev pub IsFirstFoul : {T K A : Type 0} → Rule T K A → List T → K → List T → Type 0
IsFirstFoul {T} {K} p s k m = Fouls p s k m × ((j : K) (n : List T) → Fouls p s j n → length n ≤ length m)
