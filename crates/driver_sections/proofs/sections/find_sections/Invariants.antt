use Rattle.std.proofs.Common.{◌≡◌, ◌≤◌, ◌-◌, ◌++◌, length, drop}
use Rattle.lexer.specs.Spans.{LieInside}
use Rattle.driver_sections.specs.Marks.{vocabulary}
use Rattle.driver_sections.specs.Sections.{sections_from, sections, StandApart}
use Rattle.driver_sections.specs.Told.{marks_of}
use Rattle.driver_sections.proofs.sections.find_sections.Given as goal

abbrev pub invariant-loop-token : goal.invariant-loop-token
invariant-loop-token g l = record {
  all : l.found.items ++ sections_from (vocabulary g.S.Lexicon.lexis g.L.Language.is_same) (marks_of l.marks) (g.S.TokenState.flag l.before) l.next 0 (drop l.next l.text)
      ≡ sections (vocabulary g.S.Lexicon.lexis g.L.Language.is_same) (marks_of l.marks) l.text;
  apart : StandApart 0 l.next l.found.items;
  inside : LieInside l.text l.found.items;
  within : l.next ≤ length l.text;
}

abbrev pub decreases-loop-token : goal.decreases-loop-token
decreases-loop-token g l = length l.text - l.next
