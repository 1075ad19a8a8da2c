use Rattle.std.proofs.Common.{refl}
use Rattle.library_reader.specs.declared.ending.Ending.TheVariants as ending
use Rattle.library_translation.proofs.LastLines.{last_stops, last_told, fault_stops, fault_told}
use Rattle.library_translation.proofs.run.finish.Goals as goal

pub returns-in_err-write_totals-in-Whole-clause-text : goal.returns-in_err-write_totals-in-Whole-clause-text
returns-in_err-write_totals-in-Whole-clause-text g c =
    rw c.in-Whole.is (last_stops _ _ c.args.progress.now ending.Whole _ _ c.in_err-write_totals-in-Whole.ensures.text c.from_residual.ensures.0)

pub returns-in_ok-write_totals-in-Whole-clause-text : goal.returns-in_ok-write_totals-in-Whole-clause-text
returns-in_ok-write_totals-in-Whole-clause-text g c =
    rw c.in-Whole.is (last_told _ _ c.args.progress.now ending.Whole _ c.in_ok-write_totals-in-Whole.ensures.text.whole refl c.whole_status.ensures)

pub returns-in_err-write_library_fault-in-Fault-clause-text : goal.returns-in_err-write_library_fault-in-Fault-clause-text
returns-in_err-write_library_fault-in-Fault-clause-text g c =
    rw c.in-Fault.is (fault_stops _ _ c.args.progress.now (ending.Fault c.in-Fault.fault) _ _ c.in_err-write_library_fault-in-Fault.ensures.text c.from_residual-in_err-write_library_fault-in-Fault.ensures.0)

pub returns-in_ok-write_library_fault-in-Fault-clause-text : goal.returns-in_ok-write_library_fault-in-Fault-clause-text
returns-in_ok-write_library_fault-in-Fault-clause-text g c =
    rw c.in-Fault.is (fault_told _ _ c.args.progress.now (ending.Fault c.in-Fault.fault) _ c.in_ok-write_library_fault-in-Fault.ensures.text.whole refl refl)

pub returns-in_err-write_library_too_long-in-TooLong-clause-text : goal.returns-in_err-write_library_too_long-in-TooLong-clause-text
returns-in_err-write_library_too_long-in-TooLong-clause-text g c =
    rw c.in-TooLong.is (fault_stops _ _ c.args.progress.now ending.TooLong _ _ c.in_err-write_library_too_long-in-TooLong.ensures.text c.from_residual-in_err-write_library_too_long-in-TooLong.ensures.0)

pub returns-in_ok-write_library_too_long-in-TooLong-clause-text : goal.returns-in_ok-write_library_too_long-in-TooLong-clause-text
returns-in_ok-write_library_too_long-in-TooLong-clause-text g c =
    rw c.in-TooLong.is (fault_told _ _ c.args.progress.now ending.TooLong _ c.in_ok-write_library_too_long-in-TooLong.ensures.text.whole refl refl)
