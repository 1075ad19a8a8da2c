-- Files that a run reads one after another: each is read as something, or ends the run. The first that ends it decides. This
-- project's rule.
use Rattle.std.specs.Prelude.{◌≡◌, ◌⊎◌, ℕ, Bool, true, false, List, [], length, nat_lt, Result, Ok, Err, IfSome, IsTrue}
use Rattle.text_io.specs.declared.slots.InSlot.{InSlot}
use Rattle.text_io.specs.declared.slots.OutSlot.TheVariants.{Faults}
use Rattle.text_io.specs.Desk.{DeskState, opened, took, wrote, IsFileAt, IsPrefix}
use Rattle.run_outcome.specs.declared.status.Status.{Status}
use Rattle.run_outcome.specs.Status.{is_decided}
use Rattle.run_outcome.specs.Written.{nothing_written}
use Rattle.run_outcome.specs.Outcome.{Outcome}
pub use Rattle.run_outcome.specs.Runs.{StopsWithStatus}

-- how a file ends a run: the status, and the line of the faults
pub record FileStop : Type 0 where
  pub status : Status
  pub line : List ℕ

-- what a file's bytes are read as, or how they end the run
abbrev pub FileAnswer : Type 0 → Type 0
FileAnswer T = List ℕ → Result T FileStop

-- what a file with these bytes is read as, or one with these and more than its limit, of which the first stop tells
abbrev pub answer_where : {T : Type 0} → FileStop → FileAnswer T → Bool → FileAnswer T
answer_where long read true bytes = Err long
answer_where long read false bytes = read bytes

-- what a file is read as within a limit on its bytes
abbrev pub answer_within : {T : Type 0} → ℕ → FileStop → FileAnswer T → FileAnswer T
answer_within limit long read bytes = answer_where long read (nat_lt limit (length bytes)) bytes

-- what a run comes to at a file which is the last of so many that are bound, where the run goes on with what the file is read as
abbrev pub outcome_by : {T : Type 0} → ℕ → Result T FileStop → (T → Outcome) → Outcome
outcome_by binds (Ok value) more = more value
outcome_by binds (Err stop) more = record { status = stop.status; binds = binds; text = nothing_written; faults = stop.line }

-- after the slot was bound to a file with these bytes, or was not
abbrev pub opened_where : Bool → DeskState → InSlot → List ℕ → DeskState
opened_where true s slot bytes = opened s slot bytes
opened_where false s slot bytes = s

-- The file that the word at this place names was bound, some of its bytes were read, and nothing else changed. Where the desk
-- tells what is left of the slot, the file's bytes are read as this.
pub record FileIsTaken {T : Type 0} (answer : FileAnswer T) (old new : DeskState) (slot : InSlot) (place : ℕ) (value : T) :
    Type 0 where
  pub bytes : List ℕ
  pub count : ℕ
  pub named : IsFileAt old place bytes
  pub state : new ≡ took (opened old slot bytes) slot count
  pub told : IfSome (old.left slot) (λ _. answer bytes ≡ Ok value)

-- The file that the word at this place names ended the run: it was bound or not, and some of its bytes were read. What was told
-- is a part of the line with which its bytes end the run, and all of it where no call failed and memory was found; the status is
-- then theirs. Nothing else changed.
pub record FileEndsRun {T : Type 0} (answer : FileAnswer T) (old new : DeskState) (slot : InSlot) (place : ℕ) (status : Status) :
    Type 0 where
  pub bound : Bool
  pub bytes : List ℕ
  pub count : ℕ
  pub line : List ℕ
  pub named : bound ≡ true → IsFileAt old place bytes
  pub state : new ≡ wrote (took (opened_where bound old slot bytes) slot count) Faults line
  pub part : (line ≡ []) ⊎ ((bound ≡ true)
      × IfSome (old.left slot) (λ _. (stop : FileStop) × (answer bytes ≡ Err stop) × IsPrefix line stop.line))
  pub whole : IsTrue (is_decided status) → (bound ≡ true)
      × IfSome (old.left slot) (λ _. answer bytes ≡ Err (record { status = status; line = line }))

-- This stop was told, and the run ends with this status: a part of the line was told, and all of it where no call failed and
-- memory was found; the status is then the stop's. Nothing else changed.
pub record TellsStop (stop : FileStop) (old new : DeskState) (end : Status) : Type 0 where
  pub line : List ℕ
  pub state : new ≡ wrote old Faults line
  pub part : IsPrefix line stop.line
  pub whole : IsTrue (is_decided end) → (end ≡ stop.status) × (line ≡ stop.line)

-- The run ends by this answer, with this status: a part of the answer's line was told, and all of it where no call failed and
-- memory was found; the status is then the answer's. Nothing else changed.
pub record EndsBy {T : Type 0} (answer : Result T FileStop) (old new : DeskState) (end : Status) : Type 0 where
  pub line : List ℕ
  pub state : new ≡ wrote old Faults line
  pub part : (line ≡ []) ⊎ ((stop : FileStop) × (answer ≡ Err stop) × IsPrefix line stop.line)
  pub whole : IsTrue (is_decided end) → answer ≡ Err (record { status = end; line = line })
