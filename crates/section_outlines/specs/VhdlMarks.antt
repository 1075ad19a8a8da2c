-- How the sections of VHDL text are marked: from `use` directly before `work` to the next `;` from `end` directly before
-- `driven` on. (IEEE 1076-1993, 10.4, use clauses, and 1.2, architecture bodies. That such a section holds a driver is this
-- project's rule.)
use Rattle.std.specs.Prelude.{[], ◌∷◌, codes}
use Rattle.driver_sections.specs.Marks.{Marks}

abbrev pub vhdl_marks : Marks
vhdl_marks = record {
  beginning = codes "use" ∷ codes "work" ∷ [];
  ending = record { words = codes "end" ∷ codes "driven" ∷ []; closing = codes ";" };
}
