-- A law of the generated modules.
use Rattle.std.specs.Prelude.{IsTrue}
use Rattle.cell_machine.specs.CellRules.{is_cell}
use Rattle.cell_machine.specs.CellData.{CellData}
use Rattle.specify_blocks.specs.Sound.{IsSound}
use Rattle.specify_blocks.specs.Generated.{module_of}

-- the module of data that keep the rules of cells is sound
abbrev pub GeneratedIsSound : Type 0
GeneratedIsSound =
    (cell : CellData)
    → IsTrue (is_cell cell.name cell.pins cell.groups cell.outputs cell.checks cell.arcs) → IsSound (module_of cell)
