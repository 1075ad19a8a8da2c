-- What a run of a command leaves on the desk.
use Rattle.std.specs.Prelude.{◌≡◌}
use Rattle.text_io.specs.declared.file_commands.FileCommand.TheVariants.{Translate}
use Rattle.text_io.specs.declared.slots.InSlot.TheVariants.{Library}
use Rattle.text_io.specs.Desk.{DeskState, Folder}
use Rattle.run_outcome.specs.declared.status.Status.{Status}
use Rattle.run_outcome.specs.Binding.{Tells, bytes_at}
use Rattle.run_outcome.specs.Runs.{RunsAs}
use Rattle.command_words.specs.declared.commands.Command.TheVariants as command
use Rattle.command_words.specs.Reading.{reading}
use Rattle.library_translation.specs.Models.{HoldsModels}
use Rattle.library_translation.specs.Runs.{translate_files}
use Rattle.translate_cmd.specs.Outcome.{files_of, outcome}

-- After the run the desk is as a run of the command leaves it that the words ask for, with its files and its outcome. Where
-- they ask for a translation, whatever the status, both whole models are there of the accepted cells whose closing braces lie
-- more than 65,536 bytes before the end of the bytes that were read of the library.
pub record Runs (old new : DeskState) (result : Status) : Type 0 where
  pub run : RunsAs (files_of (reading old.words)) (outcome old.words) old new result
  pub models : reading old.words ≡ command.Files Translate → (folder : Folder) → Tells translate_files old folder
      → HoldsModels (bytes_at old.words folder 1) (run.taken Library) run.text
