-- What a run that draws the waves of a report leaves on the desk.
use Rattle.std.specs.Prelude.{◌≡◌, ℕ, List, Result, IfOk, IfSome}
use Rattle.text_io.specs.declared.slots.InSlot.TheVariants.{Library}
use Rattle.text_io.specs.declared.slots.OutSlot.TheVariants.{Faults}
use Rattle.text_io.specs.declared.stop.Stop.{Stop}
use Rattle.text_io.specs.Desk.{DeskState, took, wrote}
use Rattle.run_outcome.specs.declared.status.Status.{Status}
use Rattle.run_outcome.specs.Written.{Written, wrote_all}
use Rattle.run_outcome.specs.Outcome.{IsPartOf, IsAllOf}
use Rattle.wave_reports.specs.Outcome.{report_outcome}

-- After a call that draws the waves of the report that is bound: some bytes of it were read, and a part was appended of what its
-- bytes come to, where the desk tells them, and all of it where the call ended with a status.
pub record Draws (old new : DeskState) (result : Result Status Stop) : Type 0 where
  pub taken : ℕ
  pub text : Written
  pub faults : List ℕ
  pub state : new ≡ wrote (wrote_all (took old Library taken) text) Faults faults
  pub whole : IfOk result (λ status. IfSome (old.left Library) (λ bytes. IsAllOf status text faults (report_outcome bytes)))
  pub part : IfSome (old.left Library) (λ bytes. IsPartOf text faults (report_outcome bytes))
