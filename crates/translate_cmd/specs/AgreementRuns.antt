-- A run that simulates a library beside its own models. This project's promise.
use Rattle.std.specs.Prelude.{◌≡◌, ◌≢◌, ◌⊎◌, ℕ, List}
use Rattle.text_io.specs.declared.file_commands.FileCommand.TheVariants.{Simulate}
use Rattle.text_io.specs.declared.slots.InSlot.{InSlot}
use Rattle.text_io.specs.declared.slots.OutSlot.TheVariants.{Report}
use Rattle.text_io.specs.Desk.{DeskState, Folder, wrote}
use Rattle.run_outcome.specs.declared.status.Status.{Status}
use Rattle.run_outcome.specs.declared.status.Status.TheVariants as status
use Rattle.run_outcome.specs.Binding.{bound_state, AreNamed, took_all, Tells, bytes_at}
use Rattle.command_words.specs.declared.commands.Command.TheVariants as command
use Rattle.command_words.specs.Reading.{reading}
use Rattle.library_translation.specs.Library.{translate_outcome}
use Rattle.library_simulation.specs.Simulate.{simulate_files}
use Rattle.translate_cmd.specs.Agreement.{SaysAllEqual, IsWithoutFault}

-- the files of models that these words name hold the Verilog and the VHDL that translating the library that they name writes
pub record NameOwnModels (words : List (List ℕ)) (folder : Folder) : Type 0 where
  pub verilog : bytes_at words folder 2 ≡ (translate_outcome (bytes_at words folder 1)).text.verilog
  pub vital : bytes_at words folder 3 ≡ (translate_outcome (bytes_at words folder 1)).text.vital

-- All four files were bound, and some bytes of each were read. Such a report was written, and nothing else changed.
pub record WritesAllEqual (library stimulus : List ℕ) (old new : DeskState) : Type 0 where
  pub bytes : InSlot → List ℕ
  pub named : AreNamed old simulate_files bytes
  pub taken : InSlot → ℕ
  pub report : List ℕ
  pub equal : SaysAllEqual library stimulus report
  pub state : new ≡ wrote (took_all (bound_state old simulate_files bytes) taken) Report report

-- A run that ends so on a desk: neither for want of a model nor with traces that differ. Where no call failed, the library is
-- whole, no line of the stimulus is bad and no file is over its limit, it is done, or there was no memory. Where it is done, its
-- report says that all traces are equal.
pub record EndsInAgreement (library stimulus : List ℕ) (old new : DeskState) (result : Status) : Type 0 where
  pub not_model : result ≢ status.Model
  pub not_differ : result ≢ status.Differ
  pub ended : result ≢ status.Outside → IsWithoutFault library stimulus → (result ≡ status.Done) ⊎ (result ≡ status.Memory)
  pub done : result ≡ status.Done → WritesAllEqual library stimulus old new

-- Where the words ask for a simulation of a library beside its own models, and the desk tells the files, the run ends so.
abbrev pub OwnModelsEndInAgreement : DeskState → DeskState → Status → Type 0
OwnModelsEndInAgreement old new result =
    reading old.words ≡ command.Files Simulate → (folder : Folder) → Tells simulate_files old folder
    → NameOwnModels old.words folder
    → EndsInAgreement (bytes_at old.words folder 1) (bytes_at old.words folder 4) old new result
