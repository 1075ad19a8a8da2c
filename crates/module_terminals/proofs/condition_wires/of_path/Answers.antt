use Rattle.std.proofs.Common.{slice_get, ap, ◌∙◌}
use Rattle.cell_machine.specs.declared.arcs.Arc.{Arc}
use Rattle.specify_blocks.specs.declared.model.VPath.{VPath}
use Rattle.module_terminals.specs.Feeding.{gate_wire, gating}
use Rattle.module_terminals.proofs.Gatings.{bounded_condition, arc_few, gating_at}
use Rattle.module_terminals.proofs.condition_wires.of_path.Goals as goal

pub invariant_of-result : goal.invariant_of-result
invariant_of-result c = record {
  bounded = bounded_condition c.arc.result.now.condition c.arc.ensures.bounded;
  few = arc_few c.args.cell.now c.args.arc c.arc.result.now c.arc.ensures.is;
}

pub returns : goal.returns
returns c =
    ap (gating c.arc.result.now.condition) c.path_wire-wire.ensures
    ∙ gating_at (λ (arc : Arc). arc.condition) (λ (path : VPath). gate_wire path.gate) (slice_get c.args.cell.now.arcs c.args.arc)
    (slice_get c.args.model.now.paths c.args.arc) c.arc.result.now c.arc.ensures.is
