use Rattle.std.proofs.Common.{◌≡◌, ◌++◌, length, drop}
use Rattle.driver_sections.specs.Sections.{blanked_from, blanked, StandApart}
use Rattle.driver_sections.proofs.blanks.blanked.Given as goal

abbrev pub invariant-loop-section : goal.invariant-loop-section
invariant-loop-section l = record {
  copied : l.rest.items ++ blanked_from l.text l.next (drop l.section-index l.sections) ≡ blanked l.text l.sections;
  apart : StandApart l.next (length l.text) (drop l.section-index l.sections);
}
