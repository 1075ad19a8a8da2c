-- What the verdict says.
use Rattle.std.specs.Prelude.{◌≡◌, ◌↔◌}
use Rattle.cell_machine.specs.CellData.{CellData}
use Rattle.specify_blocks.specs.declared.model.VModule.{VModule}
use Rattle.table_audit.specs.declared.verdicts.Verdict.TheVariants.{Same}
use Rattle.table_audit.specs.Matches.{Matches}
use Rattle.table_audit.specs.Verdict.{verdict_of}

-- The verdict is that they are the same exactly where the module matches the cell.
abbrev pub SameIsMatching : Type 0
SameIsMatching = (d : CellData) (m : VModule) → (verdict_of d m ≡ Same) ↔ Matches d m
