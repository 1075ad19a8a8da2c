-- The line on the test cell of a cell.
use Rattle.std.proofs.Common.{◌≡◌, sym, ap, ◌∙◌, Option, Some, None, Ok}
use Rattle.text_io.specs.Desk.{DeskState}
use Rattle.liberty_groups.specs.declared.tree.Group.{Group}
use Rattle.three_state_cells.specs.DrivenCells.{DrivenData}
use Rattle.run_outcome.specs.Written.{in_report, wrote_all, Writes}
use Rattle.run_outcome.proofs.WrittenLaws.{wrote_all-nothing}
use Rattle.scan_cells.specs.declared.answers.Agreement.{Agreement}
use Rattle.scan_cells.specs.TestGroup.{test_of}
use Rattle.scan_cells.specs.TestLines.{test_line}
use Rattle.library_translation.specs.Cells.{found_of_test, lines_on_test, test_lines}

-- a cell without a test cell has no line
pub none_whole : {E : Type 0} (s : DeskState) (cell : DrivenData) (group : Group) → test_of group ≡ None
    → Writes {T = Unit {0}} {E = E} s s (in_report (test_lines cell group)) (Ok (tt {0}))
unfolding test_lines
none_whole s cell group e = record {
  whole = sym (wrote_all-nothing s) ∙ ap (λ o. wrote_all s (in_report (lines_on_test cell o))) (sym e);
  part = tt;
}

-- the line on a test cell, by what was found of it
pub line_as : (cell : DrivenData) (group test : Group) (found : Option Agreement) → test_of group ≡ Some test
    → found ≡ found_of_test cell test → test_line cell.core.number found ≡ test_lines cell group
unfolding test_lines
line_as cell group test found e f = ap (test_line cell.core.number) f ∙ ap (lines_on_test cell) (sym e)
