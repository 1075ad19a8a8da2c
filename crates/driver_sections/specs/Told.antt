-- What marks are as they are given to the code.
use Rattle.std.specs.Prelude.{map}
use Rattle.driver_sections.specs.declared.marks.Ending.{Ending}
use Rattle.driver_sections.specs.declared.marks.Marks.{Marks}
use Rattle.driver_sections.specs.Marks as spec

abbrev pub ending_of : Ending → spec.Ending
ending_of e = record { words = map (λ word. word.now) e.words.now; closing = e.closing.now }

abbrev pub marks_of : Marks → spec.Marks
marks_of m = record { beginning = map (λ word. word.now) m.beginning.now; ending = ending_of m.ending }
