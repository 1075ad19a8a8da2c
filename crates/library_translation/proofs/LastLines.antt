-- What stands on the desk once the last line of a translation was written, in part or whole.
use Rattle.std.proofs.Common.{◌≡◌, ℕ, List, [], Result, Ok, Err, IsErr, refl, sym, ap, ◌∙◌}
use Rattle.std.proofs.lemmas.List.{append-nil}
use Rattle.text_io.specs.declared.outside.Failed.{Failed}
use Rattle.text_io.specs.declared.slots.OutSlot.TheVariants.{Report, Faults}
use Rattle.text_io.specs.Desk.{DeskState, wrote, WritesText}
use Rattle.text_io.proofs.Wrote.{wrote-nil}
use Rattle.run_outcome.specs.declared.status.Status.{Status}
use Rattle.library_reader.specs.declared.progress.Progress.{Progress}
use Rattle.library_reader.specs.declared.ending.Ending.{Ending}
use Rattle.run_outcome.specs.Written.{in_report, wrote_all}
use Rattle.library_translation.specs.Library.{last_line, fault_line, status_at, Finishes}
use Rattle.run_outcome.proofs.WrittenLaws.{wrote_all-nothing, wrote_all-report}
use Rattle.run_outcome.proofs.RunsLaws.{nothing}
use Rattle.library_reader.proofs.Claims.{IfOk-err}

-- a stop within the last line
pub last_stops : {S : Type 0} (old new : DeskState) (p : Progress) (end : Ending) (y : Failed) (r : Result Status Failed)
    → WritesText {T = S} old new Report (last_line end p) (Err y) → IsErr r → Finishes old new p end r
last_stops old new p end y r w e = record {
  report = w.part.0;
  faults = [];
  state = w.part.2 ∙ sym (wrote_all-report old w.part.0) ∙ sym (wrote-nil _ Faults);
  report_part = w.part.1;
  faults_part = nothing _;
  whole = IfOk-err r _ e;
}

-- all of it, where nothing is to be told of the library
pub last_told : (old new : DeskState) (p : Progress) (end : Ending) (status : Status)
    → new ≡ wrote old Report (last_line end p) → [] ≡ fault_line end → status ≡ status_at end p
    → Finishes old new p end (Ok status)
last_told old new p end status w none s = record {
  report = last_line end p;
  faults = [];
  state = w ∙ sym (wrote_all-report old (last_line end p)) ∙ sym (wrote-nil _ Faults);
  report_part = ([], append-nil (last_line end p));
  faults_part = nothing _;
  whole = record { same_report = refl; same_faults = none; same_status = s };
}

silent : (s : DeskState) (line : List ℕ) → wrote s Faults line ≡ wrote (wrote_all s (in_report [])) Faults line
silent s line = ap (λ t. wrote t Faults line) (sym (wrote_all-nothing s))

-- a stop within the line on the library
pub fault_stops : {S : Type 0} (old new : DeskState) (p : Progress) (end : Ending) (y : Failed) (r : Result Status Failed)
    → WritesText {T = S} old new Faults (fault_line end) (Err y) → IsErr r → Finishes old new p end r
fault_stops old new p end y r w e = record {
  report = [];
  faults = w.part.0;
  state = w.part.2 ∙ silent old w.part.0;
  report_part = nothing _;
  faults_part = w.part.1;
  whole = IfOk-err r _ e;
}

-- all of it, where nothing is to be told of the cells
pub fault_told : (old new : DeskState) (p : Progress) (end : Ending) (status : Status)
    → new ≡ wrote old Faults (fault_line end) → [] ≡ last_line end p → status ≡ status_at end p
    → Finishes old new p end (Ok status)
fault_told old new p end status w none s = record {
  report = [];
  faults = fault_line end;
  state = w ∙ silent old (fault_line end);
  report_part = nothing _;
  faults_part = ([], append-nil (fault_line end));
  whole = record { same_report = none; same_faults = refl; same_status = s };
}
