-- What a run that prints leaves on the desk. This project's rule.
use Rattle.std.specs.Prelude.{◌≡◌, ℕ, List, [], ◌++◌, length, Result, OnOk, OnErr}
use Rattle.text_io.specs.declared.slots.OutSlot.TheVariants.{Report}
use Rattle.text_io.specs.declared.stop.Stop.{Stop}
use Rattle.text_io.specs.Desk.{DeskState, wrote}
use Rattle.text_io.specs.Line.{Gathers, StopsWithin}
use Rattle.cell_machine.specs.declared.changes.Change.{Change}
use Rattle.cell_machine.specs.History.{IsProperFrom}
use Rattle.stimulus.specs.declared.ports.Ports.{Ports}
use Rattle.stimulus.specs.DriveLines.{DriveMachine}

-- Such a simulator at its start can be given the changes, and the ports name its inputs and its outputs.
pub record CanBegin (ports : Ports) (machine : DriveMachine) (stands : List Change → Type 0) (changes : List Change) :
    Type 0 where
  pub inputs : length ports.inputs ≡ machine.inputs
  pub outputs : length ports.outputs ≡ machine.outputs
  pub start : stands []
  pub proper : IsProperFrom machine.inputs [] changes

-- After a call that appends this text to the report: on `Ok` all of it was appended, else a prefix of it. Nothing else
-- changed.
pub record WritesTrace {T : Type 0} (old new : DeskState) (text : List ℕ) (result : Result T Stop) : Type 0 where
  pub whole : OnOk result (new ≡ wrote old Report text)
  pub part : OnErr result (StopsWithin old new Report text)

-- After a call that puts a text behind the bytes that wait: on `Ok` some of them were written, and the others wait; else a
-- prefix of all was written. Nothing else changed.
pub record PutsTrace {T : Type 0} (old new : DeskState) (before text after : List ℕ) (result : Result T Stop) : Type 0 where
  pub whole : OnOk result (Gathers old new Report before text after)
  pub part : OnErr result (StopsWithin old new Report (before ++ text))
