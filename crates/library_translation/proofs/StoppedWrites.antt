-- What is written, and counted, where the run stops as a write does.
use Rattle.std.proofs.Common.{◌≡◌, ℕ, List, Result, Ok, Err, refl}
use Rattle.std.specs.Result.{result_map_both}
use Rattle.text_io.specs.declared.outside.Failed.{Failed}
use Rattle.text_io.specs.declared.slots.OutSlot.TheVariants.{VerilogText, VitalText, Report}
use Rattle.text_io.specs.declared.stop.Stop.{Stop}
use Rattle.text_io.specs.declared.stop.Stop.TheVariants as stops
use Rattle.text_io.specs.Desk.{DeskState, HasCause, StopsWithCause, WritesText}
use Rattle.run_outcome.specs.Written.{in_verilog, in_vital, in_report, Writes}
use Rattle.run_outcome.proofs.WrittenLaws.{verilog_stops, verilog_whole, vital_stops, vital_whole, report_stops, report_whole}

abbrev stopped : Result (Unit {0}) Failed → Result (Unit {0}) Stop
stopped written = result_map_both (λ done. done) (λ (failed : Failed). stops.Failed) written

module _ (r : Result (Unit {0}) Stop) where
  pub verilog_written : (old new : DeskState) (text : List ℕ) (w : Result (Unit {0}) Failed)
      → r ≡ stopped w → WritesText old new VerilogText text w → Writes old new (in_verilog text) r
  verilog_written old new text (Ok done) e h = rw e (record { whole = verilog_whole old new text h.whole; part = tt })
  verilog_written old new text (Err y) e h = verilog_stops old new text y r h (rw e refl)

  pub vital_written : (old new : DeskState) (text : List ℕ) (w : Result (Unit {0}) Failed)
      → r ≡ stopped w → WritesText old new VitalText text w → Writes old new (in_vital text) r
  vital_written old new text (Ok done) e h = rw e (record { whole = vital_whole old new text h.whole; part = tt })
  vital_written old new text (Err y) e h = vital_stops old new text y r h (rw e refl)

  pub report_written : (old new : DeskState) (text : List ℕ) (w : Result (Unit {0}) Failed)
      → r ≡ stopped w → WritesText old new Report text w → Writes old new (in_report text) r
  report_written old new text (Ok done) e h = rw e (record { whole = report_whole old new text h.whole; part = tt })
  report_written old new text (Err y) e h = report_stops old new text y r h (rw e refl)

  pub cause_kept : (before now : ℕ) (w : Result (Unit {0}) Failed)
      → r ≡ stopped w → HasCause before now w → StopsWithCause before now r
  cause_kept before now (Ok done) e h = rw e (record { later = h.later; kept = h.kept; failed = tt })
  cause_kept before now (Err y) e h =
      rw e (record {
        later = h.later;
        kept = λ (memory : stops.Failed ≡ stops.Memory). absurd cc;
        failed = λ failed. h.failed;
      })
