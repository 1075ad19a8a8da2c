use Rattle.std.proofs.Common.{ap, length, arith}
use Rattle.module_runs.proofs.WiringLemmas.{sound-wired}
use Rattle.module_runs.proofs.wiring.most_nets.Goals as goal

pub returns : goal.returns
returns c =
    sound-wired c.args.model.now c.loop-instance.most c.requires
    (λ k d inside. c.loop-instance.invariant k d (omega (arith, inside, ap length c.as_slice-instance-items.ensures)))
