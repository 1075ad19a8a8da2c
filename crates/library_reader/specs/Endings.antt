-- How a library ends. This project's rules.
use Rattle.std.specs.Prelude.{ℕ, List}
use Rattle.liberty_groups.specs.declared.read.End.{End}
use Rattle.liberty_groups.specs.declared.read.End.TheVariants as ends
use Rattle.cell_cursor.specs.Ends.{end_within}
use Rattle.library_reader.specs.declared.ending.Ending.{Ending}
use Rattle.library_reader.specs.declared.ending.Ending.TheVariants as ending

-- the most bytes that a library may have
abbrev pub library_limit : ℕ
library_limit = 67108864

-- how a library whose bytes are read so ends
abbrev pub ending_by : End → Ending
ending_by ends.Whole = ending.Whole
ending_by ends.Cut = ending.TooLong
ending_by (ends.Fault fault) = ending.Fault fault

-- how a library ends: as its bytes do or, where it has more than this many, as the first of them do as the front of a file;
-- it is too long where some library text begins with them
abbrev pub ending_of : ℕ → List ℕ → Ending
ending_of limit bytes = ending_by (end_within limit bytes)
