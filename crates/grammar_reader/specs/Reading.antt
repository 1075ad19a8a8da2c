-- What a part of a text is read as, and what is returned for it.
use Rattle.std.specs.Prelude.{◌≡◌, ◌==◌, ℕ, if◌then◌else◌, List, Option, Some, None, Result, Ok, Err}
use Rattle.grammar_rules.specs.Reading.{Outcome}
pub use Rattle.grammar_rules.specs.Reading.{read}
pub use Rattle.grammar_rules.specs.Rule.{Many, Choice, Token}
use Rattle.grammar_reader.specs.declared.refusal.Refusal.{Refusal}
use Rattle.grammar_reader.specs.declared.refusal.Refusal.TheVariants.{Syntax, Unequal}
use Rattle.grammar_reader.specs.declared.refusal.Stop.{Stop}
use Rattle.grammar_reader.specs.declared.refusal.Stop.TheVariants.{Refused, Memory}
use Rattle.grammar_reader.specs.Next.{rest}

-- what is read is what was returned, with these tokens left, unless memory ran out
abbrev pub Reads : {A : Type 0} → Outcome (List ℕ) Refusal A → Result A Stop → List (List ℕ) → Type 0
Reads outcome (Ok a) left = outcome ≡ Ok (a, left)
Reads outcome (Err (Refused k)) left = outcome ≡ Err (k, left)
Reads outcome (Err Memory) left = Unit {0}

-- the same, where what is returned stands for a value
abbrev pub ReadsAs : {A B : Type 0} → (B → A) → Outcome (List ℕ) Refusal A → Result B Stop → List (List ℕ) → Type 0
ReadsAs value outcome (Ok b) left = outcome ≡ Ok (value b, left)
ReadsAs value outcome (Err (Refused k)) left = outcome ≡ Err (k, left)
ReadsAs value outcome (Err Memory) left = Unit {0}

-- what is read at a token that was found to stand for this value, or for none
abbrev pub found_at : {A : Type 0} → Option A → List (List ℕ) → Outcome (List ℕ) Refusal A
found_at None s = Err (Syntax, s)
found_at (Some a) s = Ok (a, rest s)

-- the same of a number that has to be this one
abbrev pub number_at : ℕ → Option ℕ → List (List ℕ) → Outcome (List ℕ) Refusal (Unit {0})
number_at number None s = Err (Syntax, s)
number_at number (Some n) s = if n == number then Ok (tt, rest s) else Err (Unequal, s)
