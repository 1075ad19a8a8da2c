use Rattle.std.proofs.Common.{◌≡◌, ◌++◌, map, drop}
use Rattle.vital_models.specs.Generated.{condition_of}
use Rattle.vital_models.proofs.generation.conditions_of.Given as goal

abbrev pub invariant-loop-i : goal.invariant-loop-i
invariant-loop-i l =
    l.truths ++ map (condition_of l.from.cell.now.pins) (map (λ f. f.now) (drop l.i l.from.conditions.now))
    ≡ map (condition_of l.from.cell.now.pins) (map (λ f. f.now) l.from.conditions.now)
