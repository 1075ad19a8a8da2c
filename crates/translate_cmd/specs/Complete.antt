-- When a command does all that it was asked for. This project's promise.
use Rattle.std.specs.Prelude.{◌≡◌, ◌≤◌, ◌⊎◌, ℕ, List, length, true, Ok}
use Rattle.written_driven_models.specs.liberty_groups.declared.read.End.TheVariants.{Whole}
use Rattle.written_driven_models.specs.liberty_groups.Answer.{end_of_bytes}
use Rattle.text_io.specs.declared.file_commands.FileCommand.{FileCommand}
use Rattle.text_io.specs.declared.file_commands.FileCommand.TheVariants.{Translate, Simulate, ReplayVerilog, ReplayVital, Audit}
use Rattle.text_io.specs.declared.slots.InSlot.{InSlot}
use Rattle.text_io.specs.Desk.{DeskState, Folder}
use Rattle.run_outcome.specs.declared.status.Status.{Status}
use Rattle.run_outcome.specs.declared.status.Status.TheVariants as status
use Rattle.command_words.specs.declared.commands.Command.{Command}
use Rattle.command_words.specs.declared.commands.Command.TheVariants as command
use Rattle.command_words.specs.Reading.{reading}
use Rattle.run_outcome.specs.Written.{wrote_all}
use Rattle.run_outcome.specs.Binding.{bound_state, AreNamed, took_all, Tells, bytes_at}
use Rattle.library_simulation.specs.model_replay.Complete.{CanBeReplayed}
use Rattle.library_simulation.specs.model_files.Limits.{model_limit, stimulus_limit}
use Rattle.cell_cursor.specs.Ends.{items_within}
use Rattle.written_driven_models.specs.specify_blocks.declared.model.VModule.{VModule}
use Rattle.written_driven_models.specs.vital_models.declared.model.VEntity.{VEntity}
use Rattle.library_simulation.specs.file_models.declared.file_model.FileModel.{FileModel}
use Rattle.library_simulation.specs.file_models.stimulus.declared.sections.Section.{Section}
use Rattle.library_simulation.specs.file_models.stimulus.PortEntries.{listed}
use Rattle.library_simulation.specs.file_models.stimulus.Stimulus.{stimulus_of}
use Rattle.library_simulation.specs.library_reader.KeptCells.{kept_cells}
use Rattle.library_simulation.specs.library_reader.Progress.{no_progress}
use Rattle.library_simulation.specs.Catalog.{cells_named}
use Rattle.library_simulation.specs.Verilog.{verilog}
use Rattle.library_simulation.specs.Vital.{vital}
use Rattle.library_simulation.specs.library_reader.Endings.{library_limit}
use Rattle.translate_cmd.specs.Outcome.{files_of, outcome}

-- a library within its limit, whose text is whole; its cells may be refused or not
pub record IsWholeLibrary (bytes : List ℕ) : Type 0 where
  pub within : length bytes ≤ library_limit
  pub whole : end_of_bytes bytes true ≡ Whole

-- a whole library, a Verilog file and a VHDL file that are not refused, and a stimulus without a bad line over the library's
-- cells beside these models, each within its limit
pub record CanBeSimulated (library text vhdl stimulus : List ℕ) : Type 0 where
  pub whole : IsWholeLibrary library
  pub text_within : length text ≤ model_limit
  pub modules : List (FileModel VModule)
  pub verilog : verilog.text text ≡ Ok modules
  pub vhdl_within : length vhdl ≤ model_limit
  pub entities : List (FileModel VEntity)
  pub vital : vital.text vhdl ≡ Ok entities
  pub stimulus_within : length stimulus ≤ stimulus_limit
  pub sections : List Section
  pub lines : stimulus_of (listed (cells_named (kept_cells no_progress (items_within library_limit library)) modules entities))
      stimulus ≡ Ok sections

-- a whole library and a Verilog file that is not refused, each within its limit
pub record CanBeAudited (library text : List ℕ) : Type 0 where
  pub whole : IsWholeLibrary library
  pub text_within : length text ≤ model_limit
  pub modules : List (FileModel VModule)
  pub verilog : verilog.text text ≡ Ok modules

-- A command of files can be done with these words and files: a whole library be translated, its cells be simulated beside the
-- models of files that are not refused, under a stimulus that is not, a Verilog or VHDL file be replayed so, and the cells be
-- compared with the modules of a Verilog file that is not refused.
abbrev pub FilesCanBeDone : FileCommand → List (List ℕ) → Folder → Type 0
FilesCanBeDone Translate words folder = IsWholeLibrary (bytes_at words folder 1)
FilesCanBeDone Simulate words folder =
    CanBeSimulated (bytes_at words folder 1) (bytes_at words folder 2) (bytes_at words folder 3) (bytes_at words folder 4)
FilesCanBeDone ReplayVerilog words folder = CanBeReplayed verilog (bytes_at words folder 1) (bytes_at words folder 2)
FilesCanBeDone ReplayVital words folder = CanBeReplayed vital (bytes_at words folder 1) (bytes_at words folder 2)
FilesCanBeDone Audit words folder = CanBeAudited (bytes_at words folder 1) (bytes_at words folder 2)

-- The command can be done: a primitive can always be printed, and a run on test cells be made. Words without a reading ask for
-- nothing.
abbrev pub CanBeDone : Command → List (List ℕ) → Folder → Type 0
CanBeDone (command.Udp udp) words folder = Unit {0}
CanBeDone (command.Files asked) words folder = FilesCanBeDone asked words folder
CanBeDone (command.Selftest cells) words folder = Unit {0}
CanBeDone command.Usage words folder = ⊥

-- All was done: the files of the command were bound, all that the outcome appends was appended, and nothing was told as a
-- fault. Cells of a library may have been refused, and traces or tables that are compared may differ.
pub record IsAllDone (old new : DeskState) (folder : Folder) (result : Status) : Type 0 where
  pub good : (result ≡ status.Done) ⊎ ((result ≡ status.Cells) ⊎ (result ≡ status.Differ))
  pub same_status : result ≡ (outcome old.words folder).status
  pub bytes : InSlot → List ℕ
  pub named : AreNamed old (files_of (reading old.words)) bytes
  pub taken : InSlot → ℕ
  pub state : new ≡ wrote_all (took_all (bound_state old (files_of (reading old.words)) bytes) taken)
      (outcome old.words folder).text

-- Where the desk tells its files and the command can be done, all was done, or there was no memory.
abbrev pub Completes : DeskState → DeskState → Status → Type 0
Completes old new result =
    (folder : Folder) → Tells (files_of (reading old.words)) old folder → CanBeDone (reading old.words) old.words folder
    → (result ≡ status.Memory) ⊎ IsAllDone old new folder result
