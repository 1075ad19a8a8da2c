use Rattle.module_runs.specs.OutputPaths.{output_paths}
use Rattle.module_runs.proofs.delays.least_delay.Goals as goal

pub returns-in-Some-clause-delay : goal.returns-in-Some-clause-delay
returns-in-Some-clause-delay c =
    let v = c.args.values.now in
    c.known.ensures (output_paths v.tables.model.now v.inputs.now v.states.now) c.in-Some.delay c.requires.kept c.in-Some.is

pub returns-clause-kept : goal.returns-clause-kept
returns-clause-kept c =
    let v = c.args.values.now in
    c.keep.ensures (output_paths v.tables.model.now v.inputs.now v.states.now) c.requires.kept c.found_delay-delay.ensures
