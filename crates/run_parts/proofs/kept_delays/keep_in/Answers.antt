use Rattle.std.proofs.Common.{refl}
use Rattle.run_parts.proofs.KeptDelayLemmas.{one-found, found-now}
use Rattle.run_parts.proofs.kept_delays.keep_in.Goals as goal

pub returns : goal.returns
returns c = λ a b paths are right.
    one-found a b paths c.args.turn c.args.all.now _ c.args.place _ c.put.ensures are
    (found-now a b paths c.args.turn c.in-Some.turn _ c.in-Some.is refl right)
