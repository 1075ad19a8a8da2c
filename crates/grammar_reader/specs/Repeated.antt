-- Parts that repeat, each behind a word, where a part is read by a function of what was found before it and of the tokens left. A
-- rule whose part is repeated so, told by `Many` and `begins`, is read as these say.
use Rattle.std.specs.Prelude.{ℕ, Bool, List, length}
use Rattle.grammar_rules.specs.Reading.{Outcome, and_then, repeat}
use Rattle.grammar_reader.specs.declared.refusal.Refusal.{Refusal}
use Rattle.grammar_reader.specs.Words.{begins}

-- how a part is read from what was found before it
abbrev pub Part : Type 0 → Type 0
Part S = S → List (List ℕ) → Outcome (List ℕ) Refusal S

-- { WORD PART }
abbrev pub repeated : {S : Type 0} → (List ℕ → List ℕ → Bool) → List ℕ → Part S → Part S
repeated is_same word part found s = repeat (λ _. begins is_same word) (λ u _ r. part u r) (length s) found s

-- PART { WORD PART }
abbrev pub one_or_more : {S : Type 0} → (List ℕ → List ℕ → Bool) → List ℕ → Part S → Part S
one_or_more is_same word part found s = and_then (part found s) (λ first r. repeated is_same word part first r)
