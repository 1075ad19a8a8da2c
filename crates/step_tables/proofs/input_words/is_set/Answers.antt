use Rattle.std.proofs.Common.{ap, nat_eq}
use Rattle.std.proofs.lemmas.Nat.Bits.{shr_and_one}
use Rattle.statetables.specs.Lanes.{lane}
use Rattle.step_tables.proofs.input_words.is_set.Goals as goal

pub returns : goal.returns
unfolding lane
returns c = ap (λ x. nat_eq x 1) (shr_and_one c.args.number c.args.place)
