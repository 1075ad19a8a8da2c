-- What is read of a part where the rest behind it was, and what is returned stands for a value.
use Rattle.std.proofs.Common.{◌≡◌, ℕ, List, Result, Ok, Err}
use Rattle.grammar_rules.specs.Reading.{Outcome}
use Rattle.grammar_reader.specs.declared.refusal.Refusal.{Refusal}
use Rattle.grammar_reader.specs.declared.refusal.Stop.{Stop}
use Rattle.grammar_reader.specs.declared.refusal.Stop.TheVariants.{Refused, Memory}
use Rattle.grammar_reader.specs.Reading.{ReadsAs}
use Rattle.grammar_reader.specs.Rests.{where_read}

pub part_read : {A B : Type 0} (value : B → A) (o : Outcome (List ℕ) Refusal A) (part : B) (rest : Result (Unit {0}) Stop)
    (result : Result B Stop) (left : List (List ℕ)) →
    result ≡ where_read part rest → ReadsAs {B = Unit {0}} (λ _. value part) o rest left → ReadsAs value o result left
part_read value o part (Ok done) result left e reads = rw e reads
part_read value o part (Err (Refused k)) result left e reads = rw e reads
part_read value o part (Err Memory) result left e reads = rw e tt
