-- How a comparison of a library with a Verilog file ends. This project's promise.
use Rattle.std.specs.Prelude.{◌≡◌, ◌↔◌, ℕ, List, IsTrue}
use Rattle.text_io.specs.declared.file_commands.FileCommand.TheVariants.{Audit}
use Rattle.text_io.specs.Desk.{DeskState, Folder}
use Rattle.run_outcome.specs.declared.status.Status.{Status}
use Rattle.run_outcome.specs.declared.status.Status.TheVariants.{Done}
use Rattle.run_outcome.specs.Status.{is_decided}
use Rattle.run_outcome.specs.Binding.{Tells, bytes_at}
use Rattle.command_words.specs.declared.commands.Command.TheVariants as command
use Rattle.command_words.specs.Reading.{reading}
use Rattle.library_audit.specs.Outcome.{audit_files}
use Rattle.library_audit.specs.Laws.{AllMatch}
use Rattle.translate_cmd.specs.Audits.{AllAgree}

-- Such a run of a library and a Verilog file with these bytes: it is done exactly where both files are read and each accepted
-- cell of the library none of whose outputs may float has a module that matches it, and where it is done, each of these cells
-- agrees with its module.
pub record IsDoneWhereAllMatch (library text : List ℕ) (result : Status) : Type 0 where
  pub matched : (result ≡ Done) ↔ AllMatch library text
  pub agreed : result ≡ Done → AllAgree library text

-- Where the words ask for one, the desk tells the files, no call failed and memory was found, the run is one of these.
abbrev pub DoneWhereAllMatch : DeskState → Status → Type 0
DoneWhereAllMatch old result =
    reading old.words ≡ command.Files Audit → (folder : Folder) → Tells audit_files old folder → IsTrue (is_decided result)
    → IsDoneWhereAllMatch (bytes_at old.words folder 1) (bytes_at old.words folder 2) result
