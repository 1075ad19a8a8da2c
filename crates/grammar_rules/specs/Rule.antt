-- Grammar rules as data: what a rule takes, what it refuses and with which kind of fault, what its fronts
-- are, and how it is read from left to right, looking one token ahead. Formats write their grammars with
-- these words, and the laws beside this file are proved once for every rule.
use Rattle.std.specs.Prelude.{◌≡◌, ℕ, zero, suc, List, [], ◌∷◌, Option, Some, None, ◌⊎◌}

-- What a place says of a token: it fits and stands for a value; it fits the grammar, but breaks a strict
-- rule of this kind here; or no text goes on with it, which is a fault of this kind.
pub data Verdict (A K : Type 0) : Type 0 where
  Fits : A → Verdict A K
  Foul : K → A → Verdict A K
  Misfit : K → Verdict A K

-- A rule over tokens T, with faults of the kinds K, whose phrases stand for values A. What was read before
-- decides what follows (`Then`, and the state of `Many`), so that names declared so far or numbers that
-- are expected stand in the rule itself.
pub data Rule (T : Type 0) : Type 0 → Type 0 → Type 1 where
  -- no token
  Gives : {K A : Type 0} → A → Rule T K A
  -- one token that passes the test; the kind is that of a text that ends before it
  Token : {K A : Type 0} → (T → Verdict A K) → K → Rule T K A
  -- the next token is there and passes the test, and is not taken
  Peek : {K A : Type 0} → (T → Verdict A K) → K → Rule T K A
  -- one part, and another that depends on it
  Then : {K A B : Type 0} → Rule T K A → (A → Rule T K B) → Rule T K B
  -- { .. }: a part again and again, as long as the next token begins one, each from what there is so far
  Many : {K A S : Type 0} → (S → T → Option (Verdict A K)) → (S → A → Rule T K S) → S → Rule T K S
  -- the first part where the next token begins it, else the second
  Choice : {K A B : Type 0} → (T → Option (Verdict A K)) → (A → Rule T K B) → Rule T K B → Rule T K B
  -- the end of the text
  Last : {K A : Type 0} → (T → K) → A → Rule T K A
  -- the same phrases, with faults named by what stands around them
  Marked : {J K A : Type 0} → (J → K) → Rule T J A → Rule T K A

-- the next token, if there is one, does not begin this part
abbrev pub Stops : {T A K : Type 0} → (T → Option (Verdict A K)) → List T → Type 0
Stops f [] = Unit {0}
Stops f (x ∷ s) = f x ≡ None

-- a part n times, each from what there was after the one before
abbrev pub Times : {T K A S : Type 0} → (S → T → Option (Verdict A K)) → (S → A → List T → S → List T → Type 0) → ℕ → S → List T
    → S → List T → Type 0
Times f G zero u s v r = (u ≡ v) × (s ≡ r)
Times {T} {K} {A} {S} f G (suc n) u s v r =
    (x : T) × (a : A) × (m : List T) × (w : S) × (q : List T) × (s ≡ x ∷ m) × (f u x ≡ Some (Fits a)) × G u a m w q
    × Times f G n w q v r

-- From these tokens a phrase of the rule with this value can be taken, which leaves the others.
abbrev pub Takes : {T K A : Type 0} → Rule T K A → List T → A → List T → Type 0
Takes (Gives a) s b r = (a ≡ b) × (s ≡ r)
Takes {T} (Token f k) s b r = (x : T) × (s ≡ x ∷ r) × (f x ≡ Fits b)
Takes {T} (Peek f k) s b r = (x : T) × (m : List T) × (s ≡ x ∷ m) × (f x ≡ Fits b) × (s ≡ r)
Takes {T} (Then {A = A} p g) s b r = (a : A) × (m : List T) × Takes p s a m × Takes (g a) m b r
Takes (Many f g u) s v r = (n : ℕ) × Times f (λ w a m. Takes (g w a) m) n u s v r × Stops (f v) r
Takes {T} (Choice {A = A} f g p) s b r =
    ((x : T) × (a : A) × (m : List T) × (s ≡ x ∷ m) × (f x ≡ Some (Fits a)) × Takes (g a) m b r) ⊎ (Stops f s × Takes p s b r)
Takes (Last f a) s b r = (a ≡ b) × (s ≡ []) × (r ≡ [])
Takes (Marked h p) s b r = Takes p s b r

-- A front of a rule consists of whole parts of it, in order, followed by nothing or by a front of the next
-- part. A repeated part may come again, and a choice has the fronts of its branches.
abbrev pub Front : {T K A : Type 0} → Rule T K A → List T → Type 0
Front (Gives a) s = s ≡ []
Front {T} {K} {A} (Token f k) s = (s ≡ []) ⊎ ((a : A) × Takes (Token f k) s a [])
Front (Peek f k) s = s ≡ []
Front {T} (Then {A = A} p g) s = Front p s ⊎ ((a : A) × (m : List T) × Takes p s a m × Front (g a) m)
Front {T} (Many {A = A} {S = S} f g u) s =
    (n : ℕ) × (v : S) × (r : List T) × Times f (λ w a m. Takes (g w a) m) n u s v r
    × ((r ≡ []) ⊎ ((x : T) × (a : A) × (m : List T) × (r ≡ x ∷ m) × (f v x ≡ Some (Fits a)) × Front (g v a) m))
Front {T} (Choice {A = A} f g p) s =
    ((x : T) × (a : A) × (m : List T) × (s ≡ x ∷ m) × (f x ≡ Some (Fits a)) × Front (g a) m) ⊎ (Stops f s × Front p s)
Front (Last f a) s = s ≡ []
Front (Marked h p) s = Front p s

-- the kind with which a place refuses a token
abbrev pub Condemns : {A K : Type 0} → Verdict A K → K → Type 0
Condemns (Fits a) k = ⊥
Condemns (Foul j a) k = j ≡ k
Condemns (Misfit j) k = j ≡ k

-- a place that wants a token refuses the next one, or the end of the text
abbrev pub CondemnsNext : {T A K : Type 0} → (T → Verdict A K) → K → List T → K → Type 0
CondemnsNext f j [] k = j ≡ k
CondemnsNext f j (x ∷ s) k = Condemns (f x) k

-- the next token begins this part, and is refused
abbrev pub CondemnsFirst : {T A K : Type 0} → (T → Option (Verdict A K)) → List T → K → Type 0
CondemnsFirst f [] k = ⊥
CondemnsFirst {A = A} {K = K} f (x ∷ s) k = (v : Verdict A K) × (f x ≡ Some v) × Condemns v k

-- a token stands behind the end
abbrev pub CondemnsMore : {T K : Type 0} → (T → K) → List T → K → Type 0
CondemnsMore f [] k = ⊥
CondemnsMore f (x ∷ s) k = f x ≡ k

-- From these tokens whole parts of the rule can be taken, in order, up to a place that refuses, with this
-- kind, the first of the tokens left, or the end of the text where none is left.
abbrev pub Refuses : {T K A : Type 0} → Rule T K A → List T → K → List T → Type 0
Refuses (Gives a) s k m = ⊥
Refuses (Token f j) s k m = (s ≡ m) × CondemnsNext f j s k
Refuses (Peek f j) s k m = (s ≡ m) × CondemnsNext f j s k
Refuses {T} (Then {A = A} p g) s k m = Refuses p s k m ⊎ ((a : A) × (r : List T) × Takes p s a r × Refuses (g a) r k m)
Refuses {T} (Many {A = A} {S = S} f g u) s k m =
    (n : ℕ) × (v : S) × (r : List T) × Times f (λ w a q. Takes (g w a) q) n u s v r
    × (((r ≡ m) × CondemnsFirst (f v) r k)
    ⊎ ((x : T) × (a : A) × (q : List T) × (r ≡ x ∷ q) × (f v x ≡ Some (Fits a)) × Refuses (g v a) q k m))
Refuses {T} (Choice {A = A} f g p) s k m =
    ((s ≡ m) × CondemnsFirst f s k)
    ⊎ (((x : T) × (a : A) × (q : List T) × (s ≡ x ∷ q) × (f x ≡ Some (Fits a)) × Refuses (g a) q k m)
    ⊎ (Stops f s × Refuses p s k m))
Refuses (Last f a) s k m = (s ≡ m) × CondemnsMore f s k
Refuses (Marked {J = J} h p) s k m = (j : J) × Refuses p s j m × (h j ≡ k)
