-- What a run of a command comes to. This project's rule.
use Rattle.std.specs.Prelude.{◌≡◌, ℕ, List}
use Rattle.text_io.specs.Desk.{IsPrefix}
use Rattle.run_outcome.specs.declared.status.Status.{Status}
use Rattle.run_outcome.specs.Written.{Written, IsPart}

-- A status, how many of the command's files are bound, in order, what is appended to the model files and the report, and the
-- line of the faults. No file is bound after one that decides the status.
pub record Outcome : Type 0 where
  pub status : Status
  pub binds : ℕ
  pub text : Written
  pub faults : List ℕ

-- a part of what an outcome appends
pub record IsPartOf (text : Written) (faults : List ℕ) (outcome : Outcome) : Type 0 where
  pub text_part : IsPart text outcome.text
  pub faults_part : IsPrefix faults outcome.faults

-- all of it, with its status
pub record IsAllOf (status : Status) (text : Written) (faults : List ℕ) (outcome : Outcome) : Type 0 where
  pub same_status : status ≡ outcome.status
  pub same_text : text ≡ outcome.text
  pub same_faults : faults ≡ outcome.faults
