use Rattle.std.proofs.Common.{List, subst, ◌∙◌}
use Rattle.trit_cubes.specs.declared.trits.Trit.{Trit}
use Rattle.model_traces.specs.ProcessValues.{truth_value}
use Rattle.run_parts.specs.Places.{FindsAnew}
use Rattle.run_parts.proofs.PlaceLemmas.{all-inside}
use Rattle.process_runs.specs.KeptConditions.{is_fed}
use Rattle.process_runs.proofs.ConditionLemmas.{one-kept, conditions-found}
use Rattle.process_runs.proofs.process_run.change_input.Goals as goal

pub find_anew-requires-clause-inside : goal.find_anew-requires-clause-inside
find_anew-requires-clause-inside c =
    let e = c.args.tables.now.model.now in
    all-inside (is_fed e.ports c.args.change.pin) e.conditions c.fed_by-places.result.now c.fed_by-places.ensures

pub find_anew-requires-clause-one_each : goal.find_anew-requires-clause-one_each
find_anew-requires-clause-one_each c =
    one-kept c.args.tables.now.model.now c.args.run.now.inputs c.args.conditions.now c.requires.current

pub returns-clause-current : goal.returns-clause-current
returns-clause-current c =
    let e = c.args.tables.now.model.now in
    let finds = subst (λ (v : List Trit). FindsAnew (truth_value e.ports v) e.conditions c.fed_by-places.result.now c.args.conditions.now c.find_anew.new.values)
    (c.as_slice.ensures ∙ c.set.ensures) c.find_anew.ensures.anew in
    conditions-found e c.args.run.now.inputs c.args.conditions.now c.find_anew.new.values c.args.change.pin c.args.change.to
    c.fed_by-places.result.now c.fed_by-places.ensures c.requires.current finds
