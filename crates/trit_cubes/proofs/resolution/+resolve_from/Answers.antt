use Rattle.trit_cubes.proofs.ResolutionLemmas.{step-none, step-zero, step-one, step-unknown}
use Rattle.trit_cubes.proofs.resolution.+resolve_from.Goals as goal

pub returns-in_default : goal.returns-in_default
returns-in_default g m c = step-none (goal.F-post g c.args.f.now) c.args.at c.args.weight _ _ c.in_default.ensures.cases c.f.ensures

pub returns-in-Zero : goal.returns-in-Zero
returns-in-Zero g m c =
    step-zero (goal.F-post g c.args.f.now) c.args.at c.args.weight _ _ _ _ c.in-Some.ensures.cases.0 c.in-Zero.is c.resolve_from.ensures

pub returns-in-One : goal.returns-in-One
returns-in-One g m c =
    step-one (goal.F-post g c.args.f.now) c.args.at c.args.weight _ _ _ _ c.in-Some.ensures.cases.0 c.in-One.is c.resolve_from-in-One.ensures

pub returns-in-Unknown : goal.returns-in-Unknown
returns-in-Unknown g m c =
    rw c.agreed.ensures (step-unknown (goal.F-post g c.args.f.now) c.args.at c.args.weight _ _ _ _ _ c.in-Some.ensures.cases.0 c.in-Unknown.is c.resolve_from-zero.ensures c.resolve_from-one.ensures)
