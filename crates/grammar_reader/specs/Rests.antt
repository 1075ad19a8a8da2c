-- What a part of a text gives, where the rest behind it was read.
use Rattle.std.specs.Prelude.{ℕ, Bool, List, [], ◌∷◌, Result, Ok, Err}
use Rattle.grammar_rules.specs.Rule as r
use Rattle.grammar_reader.specs.declared.refusal.Stop.{Stop}
use Rattle.grammar_reader.specs.Words.{Grammar, ◌>>=◌, expect}

abbrev pub where_read : {A : Type 0} → A → Result (Unit {0}) Stop → Result A Stop
where_read value (Ok done) = Ok value
where_read value (Err stop) = Err stop

-- these words, at the end of a part that gives this
abbrev pub with_end : {A : Type 0} → (List ℕ → List ℕ → Bool) → List (List ℕ) → A → Grammar A
with_end is_same [] value = r.Gives value
with_end is_same (word ∷ words) value = expect is_same word >>= λ _. with_end is_same words value
