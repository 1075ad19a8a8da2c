use Rattle.module_runs.proofs.module_run.ModuleState.find_places_anew.Goals as goal

pub returns-clause-anew : goal.returns-clause-anew
returns-clause-anew c = rw (c.as_slice.ensures, c.as_slice-2.ensures) at c.find_anew.ensures.anew
