use Rattle.std.proofs.Common.{◌<◌, ◌∙◌, ap, length, arith, refl, Some}
use Rattle.std.proofs.lemmas.Option.{slice_get_read}
use Rattle.module_runs.specs.ShownPorts.{shown_first}
use Rattle.module_runs.proofs.ModuleSteps.{outputs-step}
use Rattle.module_runs.proofs.module_shown.show_start.Goals as goal

pub loop-i-preserved : goal.loop-i-preserved
loop-i-preserved c =
    let m = c.args.values.now.tables.model.now in
    let raw : c.loop-i.i < length c.as_slice-ports.result.now = omega arith in
    let inside : c.loop-i.i < length m.ports = rw c.as_slice-ports.ensures at raw in
    let read = rw c.as_slice-ports.ensures at c.index-ports-i.is in
    let is = slice_get_read m.ports (length m.ports) c.loop-i.i c.index-ports-i.result refl inside read in
    outputs-step (shown_first m c.args.values.now.inputs.now c.args.values.now.states.now) m.ports c.loop-i.i _ c.loop-i.shown
    c.add_first.new.shown (is ∙ ap Some c.index-ports-i.is) c.in_ok-add_first.ensures
    ∙ c.loop-i.invariant
