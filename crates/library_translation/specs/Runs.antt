-- What a run that translates a library leaves on the desk.
use Rattle.std.specs.Prelude.{List, ℕ, [], ◌∷◌}
use Rattle.text_io.specs.declared.slots.InSlot.TheVariants.{Library}
use Rattle.text_io.specs.declared.slots.OutSlot.TheVariants.{VerilogText, VitalText}
use Rattle.text_io.specs.declared.slots.Slot.TheVariants.{Input, Output}
use Rattle.text_io.specs.Desk.{DeskState, Folder}
use Rattle.run_outcome.specs.declared.status.Status.{Status}
use Rattle.run_outcome.specs.Binding.{Files, Tells, bytes_at}
use Rattle.run_outcome.specs.Outcome.{Outcome}
use Rattle.run_outcome.specs.Runs.{RunsAs}
use Rattle.library_translation.specs.Library.{translate_outcome}
use Rattle.library_translation.specs.Models.{HoldsModels}

-- the files of `translate`: the library that it reads, and the two model files that it writes
abbrev pub translate_files : Files
translate_files = (Input Library, 1) ∷ (Output VerilogText, 2) ∷ (Output VitalText, 3) ∷ []

-- what the words of the command come to, with these files
abbrev pub translate_of : List (List ℕ) → Folder → Outcome
translate_of words folder = translate_outcome (bytes_at words folder 1)

-- The desk is as a run of the command leaves it. Whatever the status, both whole models are there of the accepted cells whose
-- closing braces lie more than 65,536 bytes before the end of the bytes that were read of the library.
pub record RunsTranslation (old new : DeskState) (result : Status) : Type 0 where
  pub run : RunsAs translate_files (translate_of old.words) old new result
  pub models : (folder : Folder) → Tells translate_files old folder
      → HoldsModels (bytes_at old.words folder 1) (run.taken Library) run.text
