-- The statuses of a run, and the program's exit codes. This project's rule.
use Rattle.std.specs.Prelude.{ℕ, Bool, true, false, Result, Ok, Err, if◌then◌else◌}
use Rattle.text_io.specs.declared.stop.Stop.{Stop}
use Rattle.text_io.specs.declared.stop.Stop.TheVariants as stops
use Rattle.run_outcome.specs.declared.status.Status.{Status}
use Rattle.run_outcome.specs.declared.status.Status.TheVariants.{Done, Usage, Library, Cells, Stimulus, Model, Differ, Outside}
use Rattle.run_outcome.specs.declared.status.Status.TheVariants.{Memory, TooLong}

-- the program's exit code for a status
abbrev pub code_of : Status → ℕ
code_of Done = 0
code_of Usage = 1
code_of Library = 2
code_of Cells = 3
code_of Stimulus = 4
code_of Model = 5
code_of Differ = 6
code_of Outside = 7
code_of Memory = 8
code_of TooLong = 9

-- the run came to its end: no call failed, and memory was found
abbrev pub is_decided : Status → Bool
is_decided Outside = false
is_decided Memory = false
is_decided _ = true

-- the run ended without a failed call
abbrev pub is_unfailed : Status → Bool
is_unfailed Outside = false
is_unfailed _ = true

-- the status of a run that stops so
abbrev pub stop_status : Stop → Status
stop_status stops.Failed = Outside
stop_status stops.Memory = Memory

-- the status of a run that comes to one by what its last call gives, or stops with that call
abbrev pub status_by : {T : Type 0} → (T → Status) → Result T Stop → Status
status_by ends (Ok value) = ends value
status_by ends (Err stop) = stop_status stop

-- the status of a run that compares, by whether something differs
abbrev pub status_where : Bool → Status
status_where some_differ = if some_differ then Differ else Done

-- the status of a run that compares, and comes to its end or stops with its last call
abbrev pub compared_status : Result Bool Stop → Status
compared_status compared = status_by status_where compared
