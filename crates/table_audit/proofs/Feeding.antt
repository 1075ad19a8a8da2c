-- In a module of the cell's shape the nets of each part feed the instance that stands for it.
use Rattle.cell_machine.specs.CellData.{CellData}
use Rattle.specify_blocks.specs.declared.model.VModule.{VModule}
use Rattle.module_terminals.specs.Feeding.{check_gating, path_gating}
use Rattle.module_terminals.proofs.Gatings.{at-feeds}
use Rattle.module_shapes.specs.SameShape.{HasShape}
use Rattle.module_tables.specs.SameValues.{AreFed}

pub shape-feeds : (d : CellData) (m : VModule) → HasShape d m → AreFed d m
shape-feeds d m s =
    record {
      groups = s.state_inputs;
      checks = λ i. at-feeds d m (check_gating d m i) (s.check_inputs i);
      paths = λ i. at-feeds d m (path_gating d m i) (s.path_inputs i);
      outputs = s.outputs;
    }
