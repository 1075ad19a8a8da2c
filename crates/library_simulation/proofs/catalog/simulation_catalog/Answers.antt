use Rattle.std.proofs.lemmas.Result.{IfOk-at_ok}
use Rattle.library_reader.specs.LibraryCells.{all_described}
use Rattle.library_simulation.proofs.CatalogLemmas.{whole_catalog}
use Rattle.library_simulation.proofs.catalog.simulation_catalog.Goals as goal

pub returns : goal.returns
returns c =
    let names = c.in_ok-names.names in
    whole_catalog c.simulated_in.result (all_described c.args.cells.now) c.args.modules.now c.args.entities.now names.0 names.1
    (IfOk-at_ok _ c.in_ok-names.ensures.one c.model_names-module_names.ensures) (IfOk-at_ok _ c.in_ok-names.ensures.other c.model_names-entity_names.ensures) c.simulated_in.ensures
