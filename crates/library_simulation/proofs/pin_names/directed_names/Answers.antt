use Rattle.std.proofs.Common.{sym, ◌∙◌}
use Rattle.library_simulation.proofs.PinLemmas.{pin_added, pin_passed}
use Rattle.library_simulation.proofs.pin_names.directed_names.Goals as goal
use Rattle.library_simulation.proofs.pin_names.directed_names.Goals.{then-same_direction+in_ok-add, else-same_direction}

pub loop-pin-preserved : goal.loop-pin-preserved
loop-pin-preserved c = record {
  names = elim c.if-same_direction.branch [
    | then-same_direction+in_ok-add w ↦
        let more = pin_added c.args.direction c.args.pins.now c.loop-pin.pin-index c.pin-item.result c.loop-pin.names _ _ c.requires c.loop-pin-test.true c.pin-item.is
        (sym c.same_direction.ensures ∙ w.if-same_direction.true) c.loop-pin.invariant.names (rw w.as_slice.ensures at w.in_ok-add.ensures.added) in
        cc
    | else-same_direction w ↦
        let more = pin_passed c.args.direction c.args.pins.now c.loop-pin.pin-index c.pin-item.result c.loop-pin.names c.loop-pin-test.true c.pin-item.is
        (sym c.same_direction.ensures ∙ w.if-same_direction.false) c.loop-pin.invariant.names in
        cc
  ];
}
