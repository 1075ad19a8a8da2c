-- What drawing the waves of a report comes to. This project's rule.
use Rattle.std.specs.Prelude.{ℕ, Bool, true, false, List, [], ◌∷◌, length, nat_lt, codes, Option, Some}
use Rattle.text_io.specs.declared.file_commands.FileCommand.{FileCommand}
use Rattle.text_io.specs.declared.file_commands.FileCommand.TheVariants.{Translate}
use Rattle.text_io.specs.declared.slots.InSlot.TheVariants.{Library}
use Rattle.text_io.specs.declared.slots.OutSlot.TheVariants.{VerilogText, VitalText}
use Rattle.text_io.specs.declared.slots.Slot.TheVariants.{Input, Output}
use Rattle.text_io.specs.Desk.{Folder}
use Rattle.text_io.specs.Plan.{asked_files}
use Rattle.run_outcome.specs.declared.status.Status.{Status}
use Rattle.run_outcome.specs.declared.status.Status.TheVariants.{Done, Usage, Stimulus, TooLong}
use Rattle.run_outcome.specs.Written.{nothing_written, in_verilog}
use Rattle.run_outcome.specs.Binding.{Files, bytes_at}
use Rattle.run_outcome.specs.Outcome.{Outcome}
use Rattle.wave_reports.specs.Waves.{Drawing, drawing_of}
use Rattle.wave_reports.specs.Dump.{dump_text}

-- the most bytes that a report may have
abbrev pub report_limit : ℕ
report_limit = 67108864

-- the files of a translation, by the places of their words
abbrev pub translation_files : Files
translation_files = (Input Library, 1) ∷ (Output VerilogText, 2) ∷ (Output VitalText, 3) ∷ []

-- the report stands where a translation has its library, and the dump where it has its Verilog text
abbrev pub wave_files : Files
wave_files = (Input Library, 1) ∷ (Output VerilogText, 2) ∷ []

-- the status behind these lines on lines that cannot be read
abbrev pub status_behind : List ℕ → Status
status_behind [] = Done
status_behind (b ∷ rest) = Stimulus

-- a report from which this is drawn
abbrev pub drawn_outcome : Drawing → Outcome
drawn_outcome d = record {
  status = status_behind d.faults;
  binds = 2;
  text =
      in_verilog (dump_text d.definitions d.changes);
  faults = d.faults;
}

unfoldable pub too_long_line : List ℕ
too_long_line = codes "report too long\n"

abbrev pub long_outcome : Outcome
long_outcome = record { status = TooLong; binds = 2; text = nothing_written; faults = too_long_line }

-- what a report comes to whose first bytes these are, with more than its limit or without
abbrev pub outcome_where : Bool → List ℕ → Outcome
outcome_where true bytes = long_outcome
outcome_where false bytes = drawn_outcome (drawing_of bytes)

-- what a report with these bytes comes to; both files are bound
abbrev pub report_outcome : List ℕ → Outcome
report_outcome bytes = outcome_where (nat_lt report_limit (length bytes)) bytes

unfoldable pub usage_line : List ℕ
usage_line = codes "usage: report_waves REPORT VCD\n"

-- the words name the two, as files of a translation
abbrev pub names_both : Option FileCommand → Bool
names_both (Some Translate) = true
names_both _ = false

-- the files that words name, where they name the two
abbrev pub files_where : Bool → Files
files_where true = wave_files
files_where false = []

-- what words come to with these files, where they name the two
abbrev pub run_where : Bool → List (List ℕ) → Folder → Outcome
run_where true words folder = report_outcome (bytes_at words folder 1)
run_where false words folder = record { status = Usage; binds = 0; text = nothing_written; faults = usage_line }

-- the files that these words name
abbrev pub files_of : List (List ℕ) → Files
files_of words = files_where (names_both (asked_files words))

-- what these words come to with these files
abbrev pub run_of : List (List ℕ) → Folder → Outcome
run_of words folder = run_where (names_both (asked_files words)) words folder
