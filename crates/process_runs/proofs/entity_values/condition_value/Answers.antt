use Rattle.std.proofs.Common.{List, ap, ◌∙◌}
use Rattle.trit_cubes.specs.declared.trits.Trit.{Trit}
use Rattle.cell_machine.specs.Inputs.{numbered_value}
use Rattle.model_traces.specs.ProcessValues.{truth_value}
use Rattle.process_runs.proofs.ConditionLemmas.{value-at}
use Rattle.process_runs.proofs.entity_values.condition_value.Goals as goal

pub returns : goal.returns
returns c =
    let v = c.args.values.now in
    let e = v.tables.model.now in
    c.numbered_value.ensures
    ∙ ap (λ (values : List Trit). numbered_value values c.args.i) v.current
    ∙ value-at (truth_value e.ports v.inputs.now) e.conditions c.args.i
