use Rattle.std.proofs.Common.{[], arith, refl}
use Rattle.text_io.specs.declared.slots.Slot.TheVariants.{Output}
use Rattle.text_io.proofs.LineLaws.{Gathers-nil, gathered_bound}
use Rattle.driver_texts.proofs.NumberedPorts.{outputs_more, put_port, part_of_port, put_ports}
use Rattle.driver_texts.proofs.numbered_ports.EachPortPart.put.Goals as goal

pub loop-port-init : goal.loop-port-init
loop-port-init g c = record {
  put = record { done = []; gathered = Gathers-nil _ _ _; others = refl };
  outputs = omega arith;
  kept = omega arith;
}

pub put-requires : goal.put-requires
put-requires g c = gathered_bound _ _ _ _ _ _ (Output c.args.slot) c.loop-port.invariant.put.gathered c.requires

pub loop-port-preserved : goal.loop-port-preserved
loop-port-preserved g c =
    let more = outputs_more c.loop-port.before.outputs c.port-item.result in
    record {
      put =
          rw (c.counts_with-before.ensures.outputs, c.counts_with-before.ensures.driven, c.port_number-number.ensures)
          (put_port (g.M.PortText.text c.args.self.now.texts) c.args.self.now.drives.now _ _ _ _ _ _ _ _ _ _ c.args.self.now.ports.now c.loop-port.port-index _ c.loop-port-test.true c.port-item.is c.loop-port.invariant.put
          (rw c.port_number-number.ensures at c.in_ok-put.ensures.text.whole));
      outputs = omega (arith, c.counts_with-before.ensures.outputs, more, c.loop-port.invariant.outputs);
      kept = omega (arith, c.in_ok-put.ensures.cause.kept, c.loop-port.invariant.kept);
    }

pub returns-in_err-put-clause-text : goal.returns-in_err-put-clause-text
returns-in_err-put-clause-text g c =
    part_of_port (g.M.PortText.text c.args.self.now.texts) c.args.self.now.drives.now _ _ _ _ _ _ _ _ _ _ _ c.args.self.now.ports.now c.loop-port.port-index _ _ _ c.loop-port-test.true c.port-item.is c.loop-port.invariant.put
    (rw c.port_number-number.ensures at c.in_err-put.ensures.text) c.from_residual.ensures.0

pub returns : goal.returns
returns g c = record {
  text = record { whole = put_ports _ _ _ _ _ _ _ _ _ _ _ _ c.loop-port-test.false c.loop-port.invariant.put; part = tt };
  cause = record { later = omega (arith, c.loop-port.invariant.kept); kept = c.loop-port.invariant.kept; failed = tt };
}
