-- The lines of worked libraries. One has the cells `INV`, `TB`, whose output may float, and `BUF`.
use Rattle.std.specs.Prelude.{◌≡◌, refl, codes}
use Rattle.std.specs.Fmt.{digits}
use Rattle.liberty_groups.specs.declared.fault.Expected.TheVariants as expected
use Rattle.liberty_groups.specs.declared.fault.LibraryFault.TheVariants as fault
use Rattle.cell_reader.specs.declared.refusal.Reason.TheVariants as reason
use Rattle.run_outcome.specs.Refusals.{refusal_text}
use Rattle.library_reader.specs.CellLines.{printed_name}
use Rattle.library_reader.specs.ReportLines.{cell_text, accepted_line, refused_line, totals_line}
use Rattle.library_reader.specs.LeftOutLines.{left_out_line}
use Rattle.library_reader.specs.FaultLines.{library_fault_line}

inverter-line : accepted_line 1 (codes "INV") ≡ codes "cell 1 INV ok\n"
unfolding digits cell_text printed_name accepted_line
inverter-line = refl

driver-line : accepted_line 2 (codes "TB") ≡ codes "cell 2 TB ok\n"
unfolding digits cell_text printed_name accepted_line
driver-line = refl

totals : totals_line 3 0 ≡ codes "accepted 3 refused 0\n"
unfolding digits totals_line
totals = refl

-- a cell with `three_state` at an input
input-line : refused_line 2 (codes "TB") (record { reason = reason.ThreeState; at = 182 }) ≡ codes
    "cell 2 TB refused 2 three_state at 182\n"
unfolding digits cell_text printed_name refusal_text refused_line
input-line = refl

-- a cell without a name
nameless-line : refused_line 1 (codes "") (record { reason = reason.Limit; at = 14 }) ≡ codes "cell 1 ? refused 13 limit at 14\n"
unfolding digits cell_text printed_name refusal_text refused_line
nameless-line = refl

-- a cell in which the name of a bus stands where it has no bit
register-line : refused_line 1 (codes "REG2") (record { reason = reason.Width; at = 240 }) ≡ codes
    "cell 1 REG2 refused 15 width at 240\n"
unfolding digits cell_text printed_name refusal_text refused_line
register-line = refl

-- a check of a kind that is not made
skew-line : left_out_line 7 (codes "CK") (codes "skew_rising") ≡ codes "left-out 7 CK skew_rising\n"
unfolding digits left_out_line
skew-line = refl

-- an empty file
empty-line : library_fault_line (fault.NotLibrary 0) ≡ codes "library refused at 0: not a library\n"
unfolding digits library_fault_line
empty-line = refl

-- a file that ends within a text, and one that ends where a statement may stand
cut-line : library_fault_line (fault.OpenText 32) ≡ codes "library refused at 32: text not closed\n"
unfolding digits library_fault_line
cut-line = refl

ended-line : library_fault_line (fault.Syntax 200 expected.Statement) ≡ codes "library refused at 200: expected statement\n"
unfolding digits library_fault_line
ended-line = refl
