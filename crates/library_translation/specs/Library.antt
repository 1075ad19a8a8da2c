-- What translating a library comes to. This project's rules.
use Rattle.std.specs.Prelude.{◌≡◌, ℕ, List, [], nat_eq, Result, IfOk, IfSome, IsTrue, if◌then◌else◌}
use Rattle.cell_cursor.specs.Ends.{items_within}
use Rattle.text_io.specs.declared.outside.Failed.{Failed}
use Rattle.text_io.specs.declared.slots.InSlot.TheVariants.{Library}
use Rattle.text_io.specs.declared.slots.OutSlot.TheVariants.{Faults}
use Rattle.text_io.specs.declared.slots.Slot.TheVariants.{Input}
use Rattle.text_io.specs.Desk.{DeskState, is_bound, took, wrote, IsPrefix}
use Rattle.verilog_writer.specs.Model.{prelude_text}
use Rattle.library_reader.specs.ReportLines.{totals_line}
use Rattle.library_reader.specs.FaultLines.{library_fault_line, library_too_long_line}
use Rattle.run_outcome.specs.declared.status.Status.{Status}
use Rattle.run_outcome.specs.declared.status.Status.TheVariants as status
use Rattle.text_io.specs.declared.stop.Stop.{Stop}
use Rattle.library_reader.specs.declared.progress.Progress.{Progress}
use Rattle.cell_cursor.specs.declared.item.LibraryItem.{LibraryItem}
use Rattle.library_reader.specs.declared.ending.Ending.{Ending}
use Rattle.library_reader.specs.declared.ending.Ending.TheVariants as ending
use Rattle.run_outcome.specs.Outcome.{Outcome, IsPartOf, IsAllOf}
use Rattle.run_outcome.specs.Written.{Written, in_verilog, in_report, joined, IsPart, wrote_all}
use Rattle.library_reader.specs.Progress.{no_progress, progress_after}
use Rattle.library_reader.specs.Endings.{library_limit, ending_of}
use Rattle.library_reader.specs.WrittenItems.{HoldsCells}
use Rattle.library_translation.specs.Cells.{ModelsAreBound, item_written, items_written}
use Rattle.library_translation.specs.Models.{HoldsModels}

-- the line behind those of the cells, where the library was read to its end
abbrev pub last_line : Ending → Progress → List ℕ
last_line ending.Whole p = totals_line p.accepted p.refused
last_line (ending.Fault fault) p = []
last_line ending.TooLong p = []

-- the line on a library that was not
abbrev pub fault_line : Ending → List ℕ
fault_line ending.Whole = []
fault_line (ending.Fault fault) = library_fault_line fault
fault_line ending.TooLong = library_too_long_line

-- the status at the end
abbrev pub status_at : Ending → Progress → Status
status_at ending.Whole p = if nat_eq p.refused 0 then status.Done else status.Cells
status_at (ending.Fault fault) p = status.Library
status_at ending.TooLong p = status.TooLong

-- what translating a library with these items and this end comes to: its three files are bound; the Verilog prelude, then
-- what is written for each item, in order, then the last line. The VHDL file has no prelude: each entity's text stands by itself
unfoldable pub outcome_at : List LibraryItem → Ending → Outcome
outcome_at items ending = record {
  status = status_at ending (progress_after no_progress items);
  binds = 3;
  text = joined (joined (in_verilog prelude_text) (items_written no_progress items))
      (in_report (last_line ending (progress_after no_progress items)));
  faults = fault_line ending;
}

-- what translating a library with these bytes comes to
abbrev pub translate_outcome : List ℕ → Outcome
translate_outcome bytes = outcome_at (items_within library_limit bytes) (ending_of library_limit bytes)

-- the library and both model files are bound, and no item of the library was handled
pub record IsReady (s : DeskState) (p : Progress) : Type 0 where
  pub library : IsTrue (is_bound s (Input Library))
  pub models : ModelsAreBound s
  pub fresh : p ≡ no_progress

-- the items of a library were handled, and it ended so
pub record IsHandled (limit : ℕ) (bytes : List ℕ) (before after : Progress) (text : Written) (ending : Ending) : Type 0 where
  pub same_text : text ≡ items_written before (items_within limit bytes)
  pub same_progress : after ≡ progress_after before (items_within limit bytes)
  pub same_ending : ending ≡ ending_of limit bytes

-- After a call that handles the items of a library: what was appended is a part of what its bytes come to, where the desk
-- tells them, and all of it where the call came to the library's end. However the call ended, the cells are written that ended
-- well before the last byte taken.
pub record Handles (limit : ℕ) (old new : DeskState) (before after : Progress) (result : Result Ending Stop) : Type 0 where
  pub taken : ℕ
  pub text : Written
  pub state : new ≡ wrote_all (took old Library taken) text
  pub part : IfSome (old.left Library) (λ bytes. IsPart text (items_written before (items_within limit bytes)))
  pub cells : IfSome (old.left Library) (λ bytes. HoldsCells item_written before bytes taken text)
  pub whole : IfOk result (λ ending. IfSome (old.left Library) (λ bytes. IsHandled limit bytes before after text ending))

-- all that stands behind the items was written, and the status is that of the end
pub record IsFinished (p : Progress) (ending : Ending) (status : Status) (report faults : List ℕ) : Type 0 where
  pub same_report : report ≡ last_line ending p
  pub same_faults : faults ≡ fault_line ending
  pub same_status : status ≡ status_at ending p

-- after a call that writes what stands behind the items
pub record Finishes (old new : DeskState) (p : Progress) (ending : Ending) (result : Result Status Failed) : Type 0 where
  pub report : List ℕ
  pub faults : List ℕ
  pub state : new ≡ wrote (wrote_all old (in_report report)) Faults faults
  pub report_part : IsPrefix report (last_line ending p)
  pub faults_part : IsPrefix faults (fault_line ending)
  pub whole : IfOk result (λ status. IsFinished p ending status report faults)

-- after a call that translates the library that is bound
pub record Translates (old new : DeskState) (result : Result Status Stop) : Type 0 where
  pub taken : ℕ
  pub text : Written
  pub models : IfSome (old.left Library) (λ bytes. HoldsModels bytes taken text)
  pub faults : List ℕ
  pub state : new ≡ wrote (wrote_all (took old Library taken) text) Faults faults
  pub part : IfSome (old.left Library) (λ bytes. IsPartOf text faults (translate_outcome bytes))
  pub whole : IfOk result (λ status. IfSome (old.left Library) (λ bytes. IsAllOf status text faults (translate_outcome bytes)))
