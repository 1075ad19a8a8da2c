-- When a model is caught. This project's rule.
use Rattle.std.specs.Prelude.{Bool, List, map, is_some}
use Rattle.cell_machine.specs.Lines.{Line}
use Rattle.stimulus.specs.DriveLines.{drive_line}
use Rattle.stimulus.specs.Differences.{first_difference}

-- whether a model is caught: its trace is unlike that of the cell
abbrev pub is_caught : List Line → List Line → Bool
is_caught cell model = is_some (first_difference (map drive_line cell) (map drive_line model))
