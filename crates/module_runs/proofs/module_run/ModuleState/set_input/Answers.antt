use Rattle.std.proofs.Common.{length, refl}
use Rattle.model_traces.specs.declared.turns.Turned.TheVariants as turned
use Rattle.run_parts.proofs.PlaceLemmas.{all-inside}
use Rattle.module_runs.specs.FedInstances.{is_fed}
use Rattle.module_runs.proofs.KeptLemmas.{one-kept, input-found}
use Rattle.module_runs.proofs.module_run.ModuleState.set_input.Goals as goal

pub find_places_anew-requires-clause-inside : goal.find_places_anew-requires-clause-inside
find_places_anew-requires-clause-inside c =
    let m = c.args.tables.now.model.now in
    all-inside (is_fed m.ports (turned.Input c.args.change.pin)) m.instances c.fed_by.result.now c.fed_by.ensures

pub find_places_anew-requires-clause-one_each : goal.find_places_anew-requires-clause-one_each
find_places_anew-requires-clause-one_each c =
    let state = c.args.self.now in
    one-kept c.args.tables.now.model.now state.run.inputs state.run.states state.kept c.requires.current

pub returns-clause-current : goal.returns-clause-current
returns-clause-current c =
    let state = c.args.self.now in
    input-found c.args.tables.now.model.now (length state.room) state.run.inputs state.run.states state.kept
    c.find_places_anew.new.self.kept _ state.run.states c.args.change.pin c.args.change.to c.fed_by.result.now c.requires.wired
    c.fed_by.ensures c.requires.current c.set.ensures refl c.find_places_anew.ensures.anew
