-- What a run of a command leaves on the desk.
use Rattle.std.specs.Prelude.{◌≡◌, ℕ, List, take, IsTrue}
use Rattle.text_io.specs.declared.slots.InSlot.{InSlot}
use Rattle.text_io.specs.declared.slots.OutSlot.TheVariants.{Faults}
use Rattle.text_io.specs.Desk.{DeskState, Folder, wrote, CountsFaults}
use Rattle.run_outcome.specs.declared.status.Status.{Status}
use Rattle.run_outcome.specs.declared.status.Status.TheVariants.{Outside, Usage}
use Rattle.run_outcome.specs.Status.{is_decided, is_unfailed}
use Rattle.run_outcome.specs.Written.{Written, wrote_all}
use Rattle.run_outcome.specs.Binding.{Files, bound_state, AreNamed, IsFront, HasOutputs, took_all, Tells}
use Rattle.run_outcome.specs.Outcome.{Outcome, IsPartOf, IsAllOf}

-- After a run of a command with these files and this outcome: the first of its files were bound, in order, some bytes of each
-- were read, some bytes were appended, and nothing else changed. Where the desk tells the files, what was appended is a part of
-- what the outcome appends, whatever the status. Where no call failed and memory was found all files that are written were
-- bound; where the desk tells the files the status is then the outcome's, exactly so many files were bound, and all that the
-- outcome appends was appended.
pub record RunsAs (files : Files) (outcome : Folder → Outcome) (old new : DeskState) (result : Status) : Type 0 where
  pub bound : Files
  pub bytes : InSlot → List ℕ
  pub taken : InSlot → ℕ
  pub text : Written
  pub faults : List ℕ
  pub state : new ≡ wrote (wrote_all (took_all (bound_state old bound bytes) taken) text) Faults faults
  pub planned : IsFront bound files
  pub named : AreNamed old bound bytes
  pub part : (folder : Folder) → Tells files old folder → IsPartOf text faults (outcome folder)
  pub outputs : IsTrue (is_decided result) → HasOutputs bound files
  pub all_bound : IsTrue (is_decided result) → (folder : Folder) → Tells files old folder
      → bound ≡ take (outcome folder).binds files
  pub whole : IsTrue (is_decided result) → (folder : Folder) → Tells files old folder
      → IsAllOf result text faults (outcome folder)

-- The count of faults rose where a call failed, and in every other case it stayed as it was. Words without a reading end no run
-- here.
pub record StopsWithStatus (before now : ℕ) (end : Status) : Type 0 where
  pub counts : CountsFaults (λ P. IsTrue (is_unfailed end) → P) (λ P. end ≡ Outside → P) before now
  pub usage : end ≡ Usage → ⊥
