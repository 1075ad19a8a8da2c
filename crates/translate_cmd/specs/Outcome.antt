-- What a run of a command comes to: its status, and the bytes of its outputs. This project's rule.
use Rattle.std.specs.Prelude.{List, [], ℕ, Some, codes}
use Rattle.text_io.specs.declared.file_commands.FileCommand.{FileCommand}
use Rattle.text_io.specs.declared.file_commands.FileCommand.TheVariants.{Translate, Simulate, ReplayVerilog, ReplayVital, Audit}
use Rattle.text_io.specs.Desk.{Folder}
use Rattle.text_io.specs.Plan.{planned_files}
use Rattle.verilog_writer.specs.Primitive.{primitive_text}
use Rattle.run_outcome.specs.declared.status.Status.TheVariants.{Done, Usage}
use Rattle.run_outcome.specs.Written.{nothing_written, in_report}
use Rattle.run_outcome.specs.Binding.{Files}
use Rattle.run_outcome.specs.Outcome.{Outcome}
use Rattle.library_simulation.specs.model_replay.Outcome.{replay_of}
use Rattle.library_simulation.specs.Verilog.{verilog}
use Rattle.library_simulation.specs.Vital.{vital}
use Rattle.selftest_runs.specs.OwnCounts.{own_counts}
use Rattle.selftest_runs.specs.Report.{report_text}
use Rattle.command_words.specs.declared.commands.Command.{Command}
use Rattle.command_words.specs.declared.commands.Command.TheVariants as command
use Rattle.command_words.specs.Reading.{reading}
use Rattle.library_translation.specs.Runs.{translate_of}
use Rattle.library_simulation.specs.Simulate.{simulate_of}
use Rattle.library_audit.specs.Outcome.{audit_of}

-- the files that a command names
abbrev pub files_of : Command → Files
files_of (command.Files asked) = planned_files (Some asked)
files_of (command.Udp udp) = []
files_of (command.Selftest cells) = []
files_of command.Usage = []

-- what a command of files comes to with these words and files
abbrev pub file_outcome : FileCommand → List (List ℕ) → Folder → Outcome
file_outcome Translate words folder = translate_of words folder
file_outcome Simulate words folder = simulate_of words folder
file_outcome ReplayVerilog words folder = replay_of verilog words folder
file_outcome ReplayVital words folder = replay_of vital words folder
file_outcome Audit words folder = audit_of words folder

-- what a run on so many test cells comes to: its report on what is counted of them
abbrev pub selftest_outcome : ℕ → Outcome
selftest_outcome cells = record { status = Done; binds = 0; text = in_report (report_text cells (own_counts cells)); faults = [] }

-- what a command comes to with these words and files; words without a reading are usage
abbrev pub outcome_of : Command → List (List ℕ) → Folder → Outcome
outcome_of (command.Udp udp) words folder =
    record { status = Done; binds = 0; text = in_report (primitive_text udp); faults = [] }
outcome_of (command.Files asked) words folder = file_outcome asked words folder
outcome_of (command.Selftest cells) words folder = selftest_outcome cells
outcome_of command.Usage words folder =
    record { status = Usage; binds = 0; text = nothing_written; faults = codes "lib2sim: usage\n" }

-- what words come to, with these files
abbrev pub outcome : List (List ℕ) → Folder → Outcome
outcome words folder = outcome_of (reading words) words folder
