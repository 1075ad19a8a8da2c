use Rattle.std.proofs.Common.{sym}
use Rattle.trit_cubes.specs.declared.trits.Trit.TheVariants.{Unknown}
use Rattle.std.proofs.lemmas.List.{length-replicate}
use Rattle.trit_cubes.proofs.ConstantLemmas.{free-places, free-fixed, free-values}
use Rattle.trit_cubes.proofs.cubes.Cube.free.Goals as goal

pub invariant_of-result : goal.invariant_of-result
invariant_of-result c =
    rw (free-places c.args.n) (c.requires, sym (length-replicate c.args.n Unknown), sym (free-fixed c.args.n), sym (free-values c.args.n))

pub returns : goal.returns
returns c = free-places c.args.n
