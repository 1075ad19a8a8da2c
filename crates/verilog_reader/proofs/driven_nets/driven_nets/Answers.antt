use Rattle.std.proofs.Common.{◌≡◌, ◌<◌, List, length, get_or, subst}
use Rattle.verilog_grammar.specs.specify_blocks.declared.model.Instance.{Instance}
use Rattle.verilog_reader.proofs.DrivenNets.{driven_step}
use Rattle.verilog_reader.proofs.driven_nets.driven_nets.Goals as goal

pub returns-then-len-le-FEW-2-clause-driven : goal.returns-then-len-le-FEW-2-clause-driven
returns-then-len-le-FEW-2-clause-driven c = c.no_marks.ensures c.args.model.now.udps c.args.model.now.instances

pub loop-instance-init : goal.loop-instance-init
loop-instance-init c = c.in_ok-driven.ensures.undriven c.args.model.now.udps

pub loop-instance-preserved : goal.loop-instance-preserved
loop-instance-preserved c =
    let all = c.as_slice-instance-items.ensures in
    let k = c.loop-instance.instance-index in
    let i = c.instance-item.result in
    driven_step c.loop-instance.driven c.drive.new.self c.as_slice.result.now c.args.model.now.udps c.args.model.now.instances k i c.has_state.result c.net_driven.result
    (subst (λ (is : List Instance). k < length is) all c.loop-instance-test.true) (subst (λ (is : List Instance). i ≡ get_or is k i) all c.instance-item.is)
    c.loop-instance.invariant c.as_slice.ensures c.has_state.ensures c.net_driven.ensures c.drive.ensures
