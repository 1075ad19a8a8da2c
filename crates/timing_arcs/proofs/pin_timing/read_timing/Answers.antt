use Rattle.std.proofs.Common.{◌∙◌, ap}
use Rattle.timing_arcs.specs.Adding.{with_items}
use Rattle.timing_arcs.specs.PinLimits.{with_pin_limits}
use Rattle.timing_arcs.proofs.TextLemmas.{answers}
use Rattle.timing_arcs.proofs.pin_timing.read_timing.Goals as goal

pub returns : goal.returns
returns c =
    answers c.args.room c.args.subject.now c.args.pin.now _ _ _ _ c.new-found.ensures
    (c.in_ok-add_groups.ensures ∙ ap (with_items c.args.subject.now 0 _) c.as_slice.ensures)
    (c.in_ok-add.ensures ∙ ap (with_pin_limits c.args.subject.now _) c.of_group.ensures) c.finish.ensures
