-- The two files of a comparison, one after the other.
use Rattle.std.proofs.Common.{◌≡◌, ℕ, Bool, true, false, List, [], ◌∷◌, Result, Ok, Err, IfOk, Contains, refl, sym, ap, subst}
use Rattle.std.proofs.Common.{◌∙◌, arith}
use Rattle.std.specs.Prelude.{All}
use Rattle.std.proofs.lemmas.List.{append-nil}
use Rattle.text_io.specs.declared.slots.InSlot.TheVariants.{Library, Verilog}
use Rattle.text_io.specs.declared.slots.Slot.TheVariants.{Input}
use Rattle.text_io.specs.declared.stop.Stop.{Stop}
use Rattle.text_io.specs.declared.stop.Stop.TheVariants as stops
use Rattle.text_io.specs.Plan.{plan}
use Rattle.text_io.specs.Desk.{DeskState, Folder}
use Rattle.library_reader.specs.LibraryCells.{CellEntry}
use Rattle.specify_blocks.specs.declared.model.VModule.{VModule}
use Rattle.file_models.specs.declared.file_model.FileModel.{FileModel}
use Rattle.specify_blocks.specs.Sound.{IsSound}
use Rattle.stimulus.specs.Writes.{WritesTrace}
use Rattle.run_outcome.specs.declared.status.Status.{Status}
use Rattle.run_outcome.specs.declared.status.Status.TheVariants as status
use Rattle.run_outcome.specs.Status.{is_decided, status_where, compared_status}
use Rattle.run_outcome.specs.Binding.{Files, bytes_at}
use Rattle.run_outcome.specs.Outcome.{Outcome}
use Rattle.run_outcome.specs.Runs.{RunsAs}
use Rattle.run_outcome.specs.FileSteps.{FileIsTaken, FileEndsRun}
use Rattle.run_outcome.specs.FilesRead.{HasRead}
use Rattle.run_outcome.proofs.FileLaws.{words_before}
use Rattle.run_outcome.proofs.FilesReadLaws.{nothing_read, one_more, ends_there, stops_between, reports_all}
use Rattle.library_reader.specs.LibraryAnswer.{library_answer}
use Rattle.model_files.specs.ModelAnswer.{model_answer}
use Rattle.model_replay.specs.Verilog.{verilog}
use Rattle.library_audit.specs.Audits.{audits_text, any_differs}
use Rattle.library_audit.specs.Outcome.{audit_files, audits_outcome, behind_cells, audit_of}

-- the library alone
abbrev one_file : Files
one_file = (Input Library, 1) ∷ []

-- what the run comes to behind the cells
abbrev pub after_cells : List (List ℕ) → List CellEntry → Folder → Outcome
after_cells words cells folder = behind_cells cells (bytes_at words folder 2)

-- the library was read, and the run goes on behind its cells
abbrev pub HasCells : DeskState → DeskState → List CellEntry → Type 0
HasCells old now cells = HasRead audit_files one_file (audit_of old.words) (after_cells old.words cells) old now

-- both files were read, and the run goes on behind the models
abbrev pub HasModels : DeskState → DeskState → List CellEntry → List (FileModel VModule) → Type 0
HasModels old now cells models = HasRead audit_files audit_files (audit_of old.words) (λ _. audits_outcome cells models) old now

-- the Verilog file is still among those that the words name
pub verilog_planned : (old now : DeskState) (cells : List CellEntry) → HasCells old now cells → plan old.words ≡ audit_files
    → Contains (plan now.words) (Input Verilog, 2)
verilog_planned old now cells r planned =
    subst (λ words. Contains (plan words) (Input Verilog, 2)) (sym (words_before old now one_file r.bytes r.taken r.state))
    (subst (λ files. Contains files (Input Verilog, 2)) (sym planned) (1, omega arith, refl))

-- The files that are read.

pub cells_read : (old now : DeskState) (cells : List CellEntry) → FileIsTaken library_answer old now Library 1 cells
    → HasCells old now cells
cells_read old now cells t =
    one_more audit_files [] (audit_of old.words) library_answer (after_cells old.words) old old now Library 1 1 cells
    (nothing_read audit_files (audit_of old.words) old) refl ((Input Verilog, 2) ∷ [], refl) t

pub models_read : (old now new : DeskState) (cells : List CellEntry) (models : List (FileModel VModule)) → HasCells old now cells
    → FileIsTaken (model_answer verilog) now new Verilog 2 models → HasModels old new cells models
models_read old now new cells models r t =
    one_more audit_files one_file (audit_of old.words) (model_answer verilog) (λ found _. audits_outcome cells found) old now new
    Verilog 2 2 models
    r refl ([], refl) t

pub modules_sound : (models : List (FileModel VModule)) → All verilog.is_well_formed models
    → All (λ (model : FileModel VModule). IsSound model.core) models
modules_sound models h = λ k d below. (h k d below).core

-- The file that ends the run.

-- how the run ended, by another name of the status
pub ended_as : (old new : DeskState) (result other : Status) → result ≡ other
    → RunsAs audit_files (audit_of old.words) old new other → RunsAs audit_files (audit_of old.words) old new result
ended_as old new result other is = subst (RunsAs audit_files (audit_of old.words) old new) (sym is)

pub library_ends : (old new : DeskState) (result : Status) → FileEndsRun library_answer old new Library 1 result
    → RunsAs audit_files (audit_of old.words) old new result
library_ends old new result f =
    ends_there audit_files [] (audit_of old.words) library_answer (after_cells old.words) old old new Library 1 1 result
    (nothing_read audit_files (audit_of old.words) old) refl ((Input Verilog, 2) ∷ [], refl) refl refl f

pub verilog_ends : (old now new : DeskState) (cells : List CellEntry) (result : Status) → HasCells old now cells
    → FileEndsRun (model_answer verilog) now new Verilog 2 result → RunsAs audit_files (audit_of old.words) old new result
verilog_ends old now new cells result r f =
    ends_there audit_files one_file (audit_of old.words) (model_answer verilog) (λ found _. audits_outcome cells found) old now
    new Verilog 2 2 result
    r refl ([], refl) refl refl f

-- want of memory behind the models
pub no_memory : (old now : DeskState) (cells : List CellEntry) (models : List (FileModel VModule)) (result : Status)
    → HasModels old now cells models → result ≡ status.Memory
    → RunsAs audit_files (audit_of old.words) old now result
no_memory old now cells models result r is =
    stops_between audit_files audit_files (audit_of old.words) (λ _. audits_outcome cells models) old now result r
    (ap is_decided is)

-- The lines are printed.

pub printed_runs : (old now new : DeskState) (cells : List CellEntry) (models : List (FileModel VModule))
    (printed : Result Bool Stop) (result : Status) → HasModels old now cells models
    → WritesTrace now new (audits_text models cells) printed → IfOk printed (λ differ. differ ≡ any_differs models cells)
    → result ≡ compared_status printed
    → RunsAs audit_files (audit_of old.words) old new result
printed_runs old now new cells models (Ok differ) result r w d is =
    let text = audits_text models cells in
    let ends = status_where (any_differs models cells) in
    let same : result ≡ ends = is ∙ ap status_where d in
    reports_all audit_files (audit_of old.words) old now new ends result text text r refl w.whole ([], append-nil text)
    (λ _. (same, refl))
printed_runs old now new cells models (Err stops.Failed) result r w d is =
    let ends = status_where (any_differs models cells) in
    reports_all audit_files (audit_of old.words) old now new ends result w.part.part (audits_text models cells) r refl
    w.part.state w.part.front (λ k. absurd (let h = rw is at k in cc))
printed_runs old now new cells models (Err stops.Memory) result r w d is =
    let ends = status_where (any_differs models cells) in
    reports_all audit_files (audit_of old.words) old now new ends result w.part.part (audits_text models cells) r refl
    w.part.state w.part.front (λ k. absurd (let h = rw is at k in cc))
