-- A section of a stimulus as the report shows it (this project's format).
use Rattle.std.specs.Prelude.{ℕ, List, [], ◌∷◌, ◌++◌, codes, Some, None}
use Rattle.cell_machine.specs.declared.changes.Change.{Change}
use Rattle.stimulus.specs.declared.ports.Ports.{Ports}
use Rattle.stimulus.specs.DriveLines.{DriveLine}
use Rattle.stimulus.specs.TraceLine.{drive_line_text}

-- the line with which the section of a cell begins
unfoldable pub heading_text : List ℕ → List ℕ
heading_text name = codes "cell " ++ (name ++ codes "\n")

-- the lines of a trace that stand on these changes, one on each
abbrev pub change_texts : ℕ → Ports → List Change → List DriveLine → List ℕ
change_texts tag ports (change ∷ changes) (line ∷ lines) =
    drive_line_text tag (Some change) ports.inputs ports.outputs line ++ change_texts tag ports changes lines
change_texts tag ports _ _ = []

-- A trace on these changes: the line of its start, and one on each change, all with this tag and the names of these ports.
abbrev pub trace_text : ℕ → Ports → List Change → List DriveLine → List ℕ
trace_text tag ports changes [] = []
trace_text tag ports changes (line ∷ lines) =
    drive_line_text tag None ports.inputs ports.outputs line ++ change_texts tag ports changes lines
