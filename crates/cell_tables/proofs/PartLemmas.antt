-- The primitive of an output or a condition, by its number, its places and its value.
use Rattle.std.proofs.Common.{◌≡◌, refl}
use Rattle.cell_machine.specs.CellData.{CellData}
use Rattle.udp_tables.specs.declared.parts.Part.{Part}
use Rattle.udp_tables.specs.declared.parts.Part.TheVariants as part
use Rattle.udp_tables.specs.Generated.{primitive_of}
use Rattle.udp_tables.specs.CellPrimitives.{primitive_name, part_primitive, part_places, part_value}
use Rattle.cell_tables.specs.PartNumbers.{part_number}

pub part_primitive-is : (cell : CellData) (which : Part)
    → part_primitive cell which
    ≡ primitive_of (primitive_name cell.number (part_number cell which)) (part_places cell which) (part_value cell which)
part_primitive-is cell (part.Output i) = refl
part_primitive-is cell (part.Condition i) = refl
