use Rattle.module_runs.specs.KeptValues.{reads_state}
use Rattle.run_parts.proofs.PlaceLemmas.{all-inside}
use Rattle.module_runs.proofs.KeptLemmas.{states-found}
use Rattle.module_runs.proofs.module_run.ModuleState.find_fed_where_changed.Goals as goal

pub find_places_anew-requires-clause-inside : goal.find_places_anew-requires-clause-inside
find_places_anew-requires-clause-inside c =
    all-inside reads_state c.args.tables.now.model.now.instances c.fed_by_states.result.now c.fed_by_states.ensures

pub returns-clause-current : goal.returns-clause-current
returns-clause-current c = λ before was.
    let run = c.args.self.now.run in
    states-found c.args.tables.now.model.now run.inputs before run.states c.args.self.now.kept c.find_places_anew.new.self.kept
    c.fed_by_states.result.now c.fed_by_states.ensures was c.find_places_anew.ensures.anew
