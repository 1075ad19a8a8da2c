-- The numbers of the primitives of a cell's outputs and conditions, from 1.
use Rattle.std.specs.Prelude.{ℕ}
use Rattle.cell_machine.specs.CellData.{CellData}
use Rattle.udp_tables.specs.declared.parts.Part.{Part}
use Rattle.udp_tables.specs.declared.parts.Part.TheVariants as part
use Rattle.udp_tables.specs.CellPrimitives.{output_number, condition_number}

-- the number of the primitive of an output or a condition
abbrev pub part_number : CellData → Part → ℕ
part_number cell (part.Output i) = output_number cell i
part_number cell (part.Condition i) = condition_number cell i
