-- The files that words bind, and a run with the files and the outcome of what they ask for, which is one of their command.
use Rattle.std.proofs.Common.{◌≡◌, ℕ, List, Some, sym, ap, subst, ◌∙◌}
use Rattle.text_io.specs.declared.file_commands.FileCommand.{FileCommand}
use Rattle.text_io.specs.declared.file_commands.FileCommand.TheVariants.{Translate}
use Rattle.text_io.specs.declared.slots.InSlot.TheVariants.{Library}
use Rattle.text_io.specs.Desk.{DeskState, Folder}
use Rattle.text_io.specs.Plan.{plan, planned_files}
use Rattle.run_outcome.specs.declared.status.Status.{Status}
use Rattle.run_outcome.specs.Binding.{Tells, bytes_at}
use Rattle.run_outcome.specs.Runs.{RunsAs}
use Rattle.command_words.specs.declared.commands.Command.{Command}
use Rattle.command_words.specs.declared.commands.Command.TheVariants as command
use Rattle.command_words.specs.Reading.{reading}
use Rattle.command_words.proofs.ReadingLaws.{files_asked}
use Rattle.library_translation.specs.Models.{HoldsModels}
use Rattle.library_translation.specs.Runs.{translate_files, RunsTranslation}
use Rattle.translate_cmd.specs.Outcome.{files_of, file_outcome, outcome_of}
use Rattle.translate_cmd.specs.Runs.{Runs}

-- the files that such words bind
pub named_files : (words : List (List ℕ)) (asked one : FileCommand) → reading words ≡ command.Files asked → asked ≡ one
    → plan words ≡ planned_files (Some one)
named_files words asked one e is = ap planned_files (files_asked words asked e ∙ ap Some is)

-- a run of a command of files that is no translation
pub files_run : (one asked : FileCommand) (old new : DeskState) (result : Status)
    → (command.Files one ≡ command.Files Translate → ⊥) → reading old.words ≡ command.Files asked
    → asked ≡ one → RunsAs (planned_files (Some one)) (file_outcome one old.words) old new result → Runs old new result
files_run one asked old new result other e is run =
    let reads : reading old.words ≡ command.Files one = e ∙ ap command.Files is in
    record {
      run = subst (λ read. RunsAs (files_of read) (outcome_of read old.words) old new result) (sym reads) run;
      models = λ asks. absurd (other (sym reads ∙ asks));
    }

-- a run of this command that holds the models of a library
abbrev HoldsWhat : DeskState → DeskState → Status → Command → Type 0
HoldsWhat old new result asked =
    (run : RunsAs (files_of asked) (outcome_of asked old.words) old new result)
    × ((folder : Folder) → Tells translate_files old folder
    → HoldsModels (bytes_at old.words folder 1) (run.taken Library) run.text)

-- a run of a translation
pub translation_run : (asked : FileCommand) (old new : DeskState) (result : Status) → reading old.words ≡ command.Files asked
    → asked ≡ Translate
    → RunsTranslation old new result → Runs old new result
translation_run asked old new result e is t =
    let held = subst (HoldsWhat old new result) (sym (e ∙ ap command.Files is)) (t.run, t.models) in
    record { run = held.0; models = λ _. held.1 }
