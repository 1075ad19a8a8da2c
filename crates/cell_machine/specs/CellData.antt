-- The data of a cell, from which its models are generated. The definitions of generated primitives and modules speak of this
-- record and not of a cell, so that they are functions of what a library says.
use Rattle.std.specs.Prelude.{ℕ, List}
use Rattle.cell_machine.specs.declared.pins.Pin.{Pin}
use Rattle.cell_machine.specs.declared.groups.StateGroup.{StateGroup}
use Rattle.cell_machine.specs.declared.outputs.OutputPin.{OutputPin}
use Rattle.cell_machine.specs.declared.checks.Check.{Check}
use Rattle.cell_machine.specs.declared.arcs.Arc.{Arc}
use Rattle.cell_machine.specs.declared.cells.Cell.{Cell}

-- the fields of a cell, without the rules that they keep
pub record CellData : Type 0 where
  pub name : List ℕ
  pub number : ℕ
  pub pins : List Pin
  pub groups : List StateGroup
  pub outputs : List OutputPin
  pub checks : List Check
  pub arcs : List Arc

-- the data of a cell
abbrev pub data_of : Cell → CellData
data_of c =
    record {
      name = c.name;
      number = c.number;
      pins = c.pins;
      groups = c.groups;
      outputs = c.outputs;
      checks = c.checks;
      arcs =
          c.arcs;
    }
