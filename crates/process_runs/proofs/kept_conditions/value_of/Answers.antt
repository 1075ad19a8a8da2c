use Rattle.vital_models.specs.Sound.{IsTruth}
use Rattle.run_parts.proofs.Fronts.{all-at}
use Rattle.process_runs.proofs.kept_conditions.value_of.Goals as goal

pub truth_value-requires-clause-rows : goal.truth_value-requires-clause-rows
truth_value-requires-clause-rows c =
    let m = c.args.tables.now.model.now in
    (all-at (IsTruth m) m.conditions c.args.i c.args.truth.now c.requires.sound.conditions c.requires.is).rows

pub truth_value-requires-clause-known : goal.truth_value-requires-clause-known
truth_value-requires-clause-known c = c.condition_rows.ensures c.args.truth.now c.requires.is
