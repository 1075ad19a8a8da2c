-- What comparing a library with a Verilog file comes to: both files are read one after another, the first of them that ends the
-- run decides, and behind them the line of each accepted cell is printed. This project's rule.
use Rattle.std.specs.Prelude.{ℕ, List, [], ◌∷◌}
use Rattle.text_io.specs.declared.slots.InSlot.TheVariants.{Library, Verilog}
use Rattle.text_io.specs.declared.slots.Slot.TheVariants.{Input}
use Rattle.text_io.specs.Desk.{Folder}
use Rattle.library_reader.specs.LibraryCells.{CellEntry}
use Rattle.specify_blocks.specs.declared.model.VModule.{VModule}
use Rattle.file_models.specs.declared.file_model.FileModel.{FileModel}
use Rattle.run_outcome.specs.Status.{status_where}
use Rattle.run_outcome.specs.Written.{in_report}
use Rattle.run_outcome.specs.Binding.{Files, bytes_at}
use Rattle.run_outcome.specs.Outcome.{Outcome}
use Rattle.run_outcome.specs.FileSteps.{outcome_by}
use Rattle.library_reader.specs.LibraryAnswer.{library_answer}
use Rattle.model_files.specs.ModelAnswer.{model_answer}
use Rattle.model_replay.specs.Verilog.{verilog}
use Rattle.library_audit.specs.Audits.{audits_text, any_differs}

-- the files of `audit`: the library and the Verilog file
abbrev pub audit_files : Files
audit_files = (Input Library, 1) ∷ (Input Verilog, 2) ∷ []

-- what the cells come to beside these models; both files are bound then
abbrev pub audits_outcome : List CellEntry → List (FileModel VModule) → Outcome
audits_outcome cells models =
    record {
      status = status_where (any_differs models cells);
      binds = 2;
      text = in_report (audits_text models cells);
      faults =
          [];
    }

-- behind the cells, by the Verilog file
abbrev pub behind_cells : List CellEntry → List ℕ → Outcome
behind_cells cells text = outcome_by 2 (model_answer verilog text) (λ models. audits_outcome cells models)

-- What these bytes of a library and of a Verilog file come to. The Verilog file is bound only behind a library that is read.
abbrev pub audit_outcome : List ℕ → List ℕ → Outcome
audit_outcome library text = outcome_by 1 (library_answer library) (λ cells. behind_cells cells text)

-- what the words of the command come to, with these files
abbrev pub audit_of : List (List ℕ) → Folder → Outcome
audit_of words folder = audit_outcome (bytes_at words folder 1) (bytes_at words folder 2)
