-- How the sections of Verilog text are marked: from `celldefine to the next `endcelldefine. (IEEE 1364-2005, 19.1. That such a
-- section holds a driver is this project's rule.)
use Rattle.std.specs.Prelude.{[], ◌∷◌, codes}
use Rattle.driver_sections.specs.Marks.{Marks}

abbrev pub verilog_marks : Marks
verilog_marks = record {
  beginning = codes "`celldefine" ∷ [];
  ending = record { words = codes "`endcelldefine" ∷ []; closing = codes "`endcelldefine" };
}
