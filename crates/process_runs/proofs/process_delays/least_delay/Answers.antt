use Rattle.std.proofs.Common.{◌∙◌, sym, ap}
use Rattle.cell_machine.specs.Delay.{least_delay}
use Rattle.process_runs.specs.NumberedPaths.{numbered_paths}
use Rattle.process_runs.proofs.NumberedPathLemmas.{paths-numbered}
use Rattle.process_runs.proofs.process_delays.least_delay.Goals as goal

pub returns-in-Some-clause-delay : goal.returns-in-Some-clause-delay
returns-in-Some-clause-delay c =
    let v = c.args.values.now in
    let change = c.args.change in
    c.known.ensures (numbered_paths v.tables.model.now v.inputs.now) c.in-Some.delay c.requires.kept c.in-Some.is
    ∙ ap (least_delay change.from change.to) (paths-numbered v.tables.model.now v.inputs.now c.args.number change.input c.args.output.now c.requires.is)

pub returns-clause-kept : goal.returns-clause-kept
returns-clause-kept c =
    let v = c.args.values.now in
    let change = c.args.change in
    c.keep.ensures (numbered_paths v.tables.model.now v.inputs.now) c.requires.kept
    (c.found_delay-delay.ensures
    ∙ ap (least_delay change.from change.to)
    (sym (paths-numbered v.tables.model.now v.inputs.now c.args.number change.input c.args.output.now c.requires.is)))
