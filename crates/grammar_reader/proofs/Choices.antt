-- Parts that begin with a token that passes a test, or stands for a value.
use Rattle.std.proofs.Common.{◌≡◌, ℕ, Bool, true, false, List, [], ◌∷◌, Option, Some, None, refl}
use Rattle.grammar_rules.specs.Reading.{Outcome, choose}
use Rattle.grammar_reader.specs.declared.refusal.Refusal.{Refusal}
use Rattle.grammar_reader.specs.Words.{begins_by, begins_as}
use Rattle.grammar_reader.specs.Next.{next_bytes, rest}

-- a part that begins with the next token
pub choose_by : {B : Type 0} (test : List ℕ → Bool) (s : List (List ℕ)) (go : List ℕ → List (List ℕ) → Outcome (List ℕ) Refusal B)
    (other : Outcome (List ℕ) Refusal B) →
    test (next_bytes s) ≡ true → test [] ≡ false → choose (begins_by test) s go other ≡ go (next_bytes s) (rest s)
choose_by test [] go other e f = absurd cc
choose_by test (x ∷ s) go other e f = rw e refl

pub choose_not_by : {B : Type 0} (test : List ℕ → Bool) (s : List (List ℕ)) (go : List ℕ → List (List ℕ)
    → Outcome (List ℕ) Refusal B) (other : Outcome (List ℕ) Refusal B) →
    test (next_bytes s) ≡ false → choose (begins_by test) s go other ≡ other
choose_not_by test [] go other e = refl
choose_not_by test (x ∷ s) go other e = rw e refl

-- a part that begins with the next token, which stands for this value
pub choose_as : {A B : Type 0} (find : List ℕ → Option A) (s : List (List ℕ)) (go : A → List (List ℕ)
    → Outcome (List ℕ) Refusal B) (other : Outcome (List ℕ) Refusal B) (a : A) →
    find (next_bytes s) ≡ Some a → find [] ≡ None → choose (begins_as find) s go other ≡ go a (rest s)
choose_as find [] go other a e f = absurd cc
choose_as find (x ∷ s) go other a e f = rw e refl

pub choose_not_as : {A B : Type 0} (find : List ℕ → Option A) (s : List (List ℕ)) (go : A → List (List ℕ)
    → Outcome (List ℕ) Refusal B) (other : Outcome (List ℕ) Refusal B) →
    find (next_bytes s) ≡ None → choose (begins_as find) s go other ≡ other
choose_not_as find [] go other e = refl
choose_not_as find (x ∷ s) go other e = rw e refl
