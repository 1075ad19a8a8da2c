-- Words that stand for values.
use Rattle.std.specs.Prelude.{ℕ, Bool, if◌then◌else◌, List, [], ◌∷◌, Option, Some, None}

-- the value beside the first of these words that a token stands for, if it stands for one
abbrev pub value_among : {A : Type 0} → (List ℕ → List ℕ → Bool) → List (List ℕ × A) → List ℕ → Option A
value_among is_same [] x = None
value_among is_same (word ∷ words) x = if is_same x word.0 then Some word.1 else value_among is_same words x
