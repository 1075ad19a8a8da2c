-- A cell as it is read where its outputs may float: a core without Z, and what drives its three-state outputs.
use Rattle.std.specs.Prelude.{◌≡◌, ℕ, Bool, List, [], ◌∷◌, ◌++◌, length, nat_lt, codes, decimal, Option}
use Rattle.liberty_text.specs.declared.time.Unit.{Unit}
use Rattle.liberty_groups.specs.declared.tree.Group.{Group}
use Rattle.cell_machine.specs.CellData.{CellData, data_of}
use Rattle.cell_machine.specs.CellTrace.{inputs_of}
use Rattle.cell_attributes.specs.Groups.{cell_name}
use Rattle.cell_attributes.specs.Pins.{pins_of}
use Rattle.cell_attributes.specs.CellLaws.{groups_of, outputs_of}
use Rattle.cell_reader.specs.declared.left_out.LeftOut.{LeftOut}
use Rattle.cell_reader.specs.CellTexts.{subject_of}
use Rattle.cell_reader.specs.Refusals.{checks_of, arcs_of, left_out_of}
use Rattle.driven_traces.specs.declared.drivers.Driver.{Driver}
use Rattle.driven_traces.specs.Drivers.{plain}
use Rattle.three_state_cells.specs.declared.driven_cell.DrivenCell.{DrivenCell}
use Rattle.core_groups.specs.Outputs.{ThreeStateOutput, three_state_outputs}
use Rattle.core_groups.specs.CoreGroups.{core_group}
use Rattle.three_state_cells.specs.Timing.{driver_of, all_left_out, in_pin_order}

-- what is read of a cell, its core without the rules that a cell keeps
pub record DrivenData : Type 0 where
  pub core : CellData
  pub name : List ℕ
  pub driver : Driver
  pub left_out : List LeftOut

abbrev pub driven_data_of : DrivenCell → DrivenData
driven_data_of cell = record { core = data_of cell.core; name = cell.name; driver = cell.driver; left_out = cell.left_out }

-- whether some outputs of a cell may float
abbrev pub may_float : DrivenData → Bool
may_float cell = nat_lt 0 (length cell.driver.drives)

-- the cell with this name and number that a group describes
abbrev pub cell_data : Option Unit → List ℕ → ℕ → Group → CellData
cell_data unit name number group = record {
  name = name;
  number = number;
  pins = pins_of group;
  groups = groups_of group;
  outputs = outputs_of group;
  checks = checks_of (subject_of unit group) group;
  arcs = arcs_of (subject_of unit group) group;
}

-- The name of the core of the cell with this number: none that model texts keep.
abbrev pub core_name : ℕ → List ℕ
core_name number = codes "-z" ++ decimal number

-- A cell with this core and these three-state outputs, of which there are some. Its own name is that of its core's group.
unfoldable pub floating_of : Option Unit → ℕ → Group → List ThreeStateOutput → DrivenData
floating_of unit number core outputs =
    record {
      core = cell_data unit (core_name number) number core;
      name = cell_name core;
      driver = driver_of (subject_of unit core) outputs;
      left_out =
          in_pin_order 0 (pins_of core) (left_out_of (subject_of unit core) core) (all_left_out (subject_of unit core) outputs);
    }

-- A driven cell is that of such a core.
abbrev pub IsOfCore : Option Unit → ℕ → Group → List ThreeStateOutput → DrivenCell → Type 0
IsOfCore unit number core outputs cell = driven_data_of cell ≡ floating_of unit number core outputs

-- A cell that is its own core, with what it leaves out.
abbrev pub plain_of : CellData → List LeftOut → DrivenData
plain_of core left_out =
    record { core = core; name = core.name; driver = plain (inputs_of core) (length core.outputs); left_out = left_out }

-- A cell without three-state outputs is its own core under its own name.
abbrev pub data_by : Option Unit → ℕ → Group → List ThreeStateOutput → DrivenData
data_by unit number cell [] =
    plain_of (cell_data unit (cell_name cell) number cell) (left_out_of (subject_of unit cell) cell)
data_by unit number cell (output ∷ outputs) = floating_of unit number (core_group cell) (output ∷ outputs)

-- What is read of the cell with this number that a group describes, where its library has this time unit and nothing refuses it.
unfoldable pub driven_data : Option Unit → ℕ → Group → DrivenData
driven_data unit number cell = data_by unit number cell (three_state_outputs cell)
