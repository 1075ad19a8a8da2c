-- The four files of a simulation, one after another.
use Rattle.std.proofs.Common.{◌≡◌, ℕ, Bool, if◌then◌else◌, List, [], ◌∷◌, Result, Ok, Err, IfOk, Contains, refl, sym, ap, subst}
use Rattle.std.proofs.Common.{◌∙◌, arith}
use Rattle.std.proofs.lemmas.List.{append-nil}
use Rattle.text_io.specs.declared.slots.InSlot.TheVariants.{Library, Verilog, Vital, Stimulus}
use Rattle.text_io.specs.declared.slots.Slot.{Slot}
use Rattle.text_io.specs.declared.slots.Slot.TheVariants.{Input}
use Rattle.text_io.specs.declared.stop.Stop.TheVariants as stops
use Rattle.text_io.specs.Plan.{plan}
use Rattle.text_io.specs.Desk.{DeskState, Folder}
use Rattle.file_models.specs.declared.file_model.FileModel.{FileModel}
use Rattle.library_reader.specs.LibraryCells.{CellEntry, all_described}
use Rattle.specify_blocks.specs.declared.model.VModule.{VModule}
use Rattle.vital_models.specs.declared.model.VEntity.{VEntity}
use Rattle.stimulus.specs.declared.sections.Section.{Section}
use Rattle.stimulus.specs.PortEntries.{listed}
use Rattle.stimulus.specs.Stimulus.{stimulus_of}
use Rattle.text_io.specs.declared.stop.Stop.{Stop}
use Rattle.stimulus.specs.Writes.{WritesTrace}
use Rattle.run_outcome.specs.declared.status.Status.{Status}
use Rattle.run_outcome.specs.declared.status.Status.TheVariants as status
use Rattle.run_outcome.specs.Status.{is_decided}
use Rattle.run_outcome.specs.Binding.{Files, bytes_at}
use Rattle.run_outcome.specs.Outcome.{Outcome}
use Rattle.run_outcome.specs.Runs.{RunsAs}
use Rattle.run_outcome.specs.FileSteps.{FileIsTaken, FileEndsRun}
use Rattle.run_outcome.specs.FilesRead.{HasRead}
use Rattle.run_outcome.proofs.FileLaws.{words_before}
use Rattle.run_outcome.proofs.FilesReadLaws.{nothing_read, one_more, ends_there, stops_between, reports_all}
use Rattle.model_replay.specs.Verilog.{verilog}
use Rattle.model_replay.specs.Vital.{vital}
use Rattle.library_simulation.specs.declared.catalog.Simulated.{Simulated}
use Rattle.library_simulation.specs.Catalog.{cells_named, simulated_of}
use Rattle.library_simulation.specs.Comparisons.{sections_text, any_differs}
use Rattle.library_simulation.specs.Ends.{sections_outcome}
use Rattle.library_simulation.specs.Sections.{SectionsCanBeCompared}
use Rattle.model_files.specs.StimulusAnswer.{stimulus_answer}
use Rattle.library_simulation.specs.FaultLines.{cause_stop}
use Rattle.library_simulation.specs.declared.simulation.ModelsRead.{ModelsRead}
use Rattle.library_reader.specs.LibraryAnswer.{library_answer}
use Rattle.model_files.specs.ModelAnswer.{model_answer}
use Rattle.library_simulation.specs.Simulate.{simulate_files, model_files, simulate_of, behind_cells, behind_modules}
use Rattle.library_simulation.specs.Simulate.{behind_entities, behind_models}
use Rattle.library_simulation.specs.Simulations.{ReadsModels, ReadsSimulation}
use Rattle.run_outcome.specs.Status.{compared_status}

-- the library, and the library with the Verilog file
abbrev pub one_file : Files
one_file = (Input Library, 1) ∷ []

abbrev pub two_files : Files
two_files = (Input Library, 1) ∷ (Input Verilog, 2) ∷ []

-- what the run comes to behind the cells, and behind the modules
abbrev pub after_cells : List (List ℕ) → List CellEntry → Folder → Outcome
after_cells words cells folder = behind_cells cells (bytes_at words folder 2) (bytes_at words folder 3) (bytes_at words folder 4)

abbrev pub after_modules : List (List ℕ) → List CellEntry → List (FileModel VModule) → Folder → Outcome
after_modules words cells modules folder = behind_modules cells modules (bytes_at words folder 3) (bytes_at words folder 4)

abbrev pub after_entities : List (List ℕ) → List CellEntry → List (FileModel VModule) → List (FileModel VEntity) → Folder
    → Outcome
after_entities words cells modules entities folder = behind_entities cells modules entities (bytes_at words folder 4)

-- a file of the command is still among those that its words name
pub still_planned : (done : Files) (behind : Folder → Outcome) (old now : DeskState) (file : Slot × ℕ)
    → HasRead simulate_files done (simulate_of old.words) behind old now
    → plan old.words ≡ simulate_files → Contains simulate_files file → Contains (plan now.words) file
still_planned done behind old now file r planned has =
    subst (λ words. Contains (plan words) file) (sym (words_before old now done r.bytes r.taken r.state))
    (subst (λ files. Contains files file) (sym planned) has)

pub has_verilog : Contains simulate_files (Input Verilog, 2)
has_verilog = (1, omega arith, refl)

pub has_vital : Contains simulate_files (Input Vital, 3)
has_vital = (2, omega arith, refl)

pub has_stimulus : Contains simulate_files (Input Stimulus, 4)
has_stimulus = (3, omega arith, refl)

-- The files that are read.

pub cells_read : (old now : DeskState) (cells : List CellEntry) → FileIsTaken library_answer old now Library 1 cells
    → HasRead simulate_files one_file (simulate_of old.words) (after_cells old.words cells) old now
cells_read old now cells t =
    one_more simulate_files [] (simulate_of old.words) library_answer (after_cells old.words) old old now Library 1 1 cells
    (nothing_read simulate_files (simulate_of old.words) old) refl
    ((Input Verilog, 2) ∷ (Input Vital, 3) ∷ (Input Stimulus, 4) ∷ [], refl) t

pub modules_read : (old now new : DeskState) (cells : List CellEntry) (modules : List (FileModel VModule))
    → HasRead simulate_files one_file (simulate_of old.words) (after_cells old.words cells) old now
    → FileIsTaken (model_answer verilog) now new Verilog 2 modules
    → HasRead simulate_files two_files (simulate_of old.words) (after_modules old.words cells modules) old new
modules_read old now new cells modules r t =
    one_more simulate_files one_file (simulate_of old.words) (model_answer verilog) (after_modules old.words cells) old now new
    Verilog 2 2 modules
    r refl ((Input Vital, 3) ∷ (Input Stimulus, 4) ∷ [], refl) t

pub entities_read : (old now new : DeskState) (cells : List CellEntry) (modules : List (FileModel VModule))
    (entities : List (FileModel VEntity))
    → HasRead simulate_files two_files (simulate_of old.words) (after_modules old.words cells modules) old now
    → FileIsTaken (model_answer vital) now new Vital 3 entities
    → HasRead simulate_files model_files (simulate_of old.words) (behind_models cells modules entities old.words) old new
entities_read old now new cells modules entities r t =
    one_more simulate_files two_files (simulate_of old.words) (model_answer vital) (after_entities old.words cells modules) old
    now new Vital 3 3 entities
    r refl ((Input Stimulus, 4) ∷ [], refl) t

pub sections_read : (old now new : DeskState) (cells : List CellEntry) (modules : List (FileModel VModule))
    (entities : List (FileModel VEntity)) (sections : List Section)
    → HasRead simulate_files model_files (simulate_of old.words) (behind_models cells modules entities old.words) old now
    → FileIsTaken (stimulus_answer (cause_stop cells) (cells_named cells modules entities)) now new Stimulus 4 sections
    → HasRead simulate_files simulate_files (simulate_of old.words) (λ _. sections_outcome cells modules entities sections) old
    new
sections_read old now new cells modules entities sections r t =
    one_more simulate_files model_files (simulate_of old.words)
    (stimulus_answer (cause_stop cells) (cells_named cells modules entities))
    (λ found _. sections_outcome cells modules entities found) old now new Stimulus 4 4 sections
    r refl ([], refl) t

-- The file that ends the run.

pub library_ends : (old new : DeskState) (result : Status) → FileEndsRun library_answer old new Library 1 result
    → RunsAs simulate_files (simulate_of old.words) old new result
library_ends old new result f =
    ends_there simulate_files [] (simulate_of old.words) library_answer (after_cells old.words) old old new Library 1 1 result
    (nothing_read simulate_files (simulate_of old.words) old) refl
    ((Input Verilog, 2) ∷ (Input Vital, 3) ∷ (Input Stimulus, 4) ∷ [], refl) refl refl f

pub verilog_ends : (old now new : DeskState) (cells : List CellEntry) (result : Status)
    → HasRead simulate_files one_file (simulate_of old.words) (after_cells old.words cells) old now
    → FileEndsRun (model_answer verilog) now new Verilog 2 result → RunsAs simulate_files (simulate_of old.words) old new result
verilog_ends old now new cells result r f =
    ends_there simulate_files one_file (simulate_of old.words) (model_answer verilog) (after_modules old.words cells) old now new
    Verilog 2 2 result
    r refl ((Input Vital, 3) ∷ (Input Stimulus, 4) ∷ [], refl) refl refl f

pub vital_ends : (old now new : DeskState) (cells : List CellEntry) (modules : List (FileModel VModule)) (result : Status)
    → HasRead simulate_files two_files (simulate_of old.words) (after_modules old.words cells modules) old now
    → FileEndsRun (model_answer vital) now new Vital 3 result → RunsAs simulate_files (simulate_of old.words) old new result
vital_ends old now new cells modules result r f =
    ends_there simulate_files two_files (simulate_of old.words) (model_answer vital) (after_entities old.words cells modules) old
    now new Vital 3 3 result
    r refl ((Input Stimulus, 4) ∷ [], refl) refl refl f

pub stimulus_ends : (old now new : DeskState) (cells : List CellEntry) (modules : List (FileModel VModule))
    (entities : List (FileModel VEntity)) (result : Status)
    → HasRead simulate_files model_files (simulate_of old.words) (behind_models cells modules entities old.words) old now
    → FileEndsRun (stimulus_answer (cause_stop cells) (cells_named cells modules entities)) now new Stimulus 4 result
    → RunsAs simulate_files (simulate_of old.words) old new result
stimulus_ends old now new cells modules entities result r f =
    ends_there simulate_files model_files (simulate_of old.words)
    (stimulus_answer (cause_stop cells) (cells_named cells modules entities))
    (λ found _. sections_outcome cells modules entities found) old now new Stimulus 4 4 result
    r refl ([], refl) refl refl f

-- want of memory behind the models
pub no_memory : (old now : DeskState) (cells : List CellEntry) (modules : List (FileModel VModule))
    (entities : List (FileModel VEntity)) (result : Status)
    → HasRead simulate_files model_files (simulate_of old.words) (behind_models cells modules entities old.words) old now
    → result ≡ status.Memory
    → RunsAs simulate_files (simulate_of old.words) old now result
no_memory old now cells modules entities result r is =
    stops_between simulate_files model_files (simulate_of old.words) (behind_models cells modules entities old.words) old now
    result r (ap is_decided is)

-- Behind the models, by the catalog of the cells that are simulated.

-- the stimulus ends the run
pub stimulus_stops : (old now new : DeskState) (read : ModelsRead) (simulated : Simulated) (result : Status)
    → ReadsModels old now read
    → simulated ≡ simulated_of (all_described read.cells) read.modules read.entities
    → FileEndsRun (stimulus_answer (cause_stop (all_described read.cells)) simulated.catalog) now new Stimulus 4 result
    → RunsAs simulate_files (simulate_of old.words) old new result
stimulus_stops old now new read simulated result r is f =
    let cells = all_described read.cells in
    stimulus_ends old now new cells read.modules read.entities result r.files
    (subst (λ (s : Simulated). FileEndsRun (stimulus_answer (cause_stop cells) s.catalog) now new Stimulus 4 result) is f)

-- the stimulus is read, and its sections can be run
pub simulation_read : (old now new : DeskState) (read : ModelsRead) (simulated : Simulated) (sections : List Section)
    (bytes : List ℕ) → SectionsCanBeCompared → ReadsModels old now read
    → simulated ≡ simulated_of (all_described read.cells) read.modules read.entities
    → FileIsTaken (stimulus_answer (cause_stop (all_described read.cells)) simulated.catalog) now new Stimulus 4 sections
    → stimulus_of (listed simulated.catalog) bytes ≡ Ok sections
    → ReadsSimulation old new (record { read = read; simulated = simulated; sections = sections })
simulation_read old now new read simulated sections bytes can r is taken text =
    let cells = all_described read.cells in
    record {
      files = sections_read old now new cells read.modules read.entities sections r.files
          (subst (λ (s : Simulated). FileIsTaken (stimulus_answer (cause_stop cells) s.catalog) now new Stimulus 4 sections) is
          taken);
      runs = record {
        simulated = is;
        sections = can read.cells read.modules read.entities bytes sections r.modules r.entities
            (subst (λ (s : Simulated). stimulus_of (listed s.catalog) bytes ≡ Ok sections) is text);
      };
    }

-- The sections are printed.

pub printed_runs : (old now new : DeskState) (cells : List CellEntry) (modules : List (FileModel VModule))
    (entities : List (FileModel VEntity)) (sections : List Section) (printed : Result Bool Stop) (result : Status)
    → HasRead simulate_files simulate_files (simulate_of old.words) (λ _. sections_outcome cells modules entities sections) old
    now
    → WritesTrace now new (sections_text cells modules entities sections) printed
    → IfOk printed (λ differ. differ ≡ any_differs cells modules entities sections)
    → result ≡ compared_status printed → RunsAs simulate_files (simulate_of old.words) old new result
printed_runs old now new cells modules entities sections (Ok differ) result r w d is =
    let text = sections_text cells modules entities sections in
    let ends = if any_differs cells modules entities sections then status.Differ else status.Done in
    let same : result ≡ ends = is ∙ ap (λ b. if b then status.Differ else status.Done) d in
    reports_all simulate_files (simulate_of old.words) old now new ends result text text r refl w.whole ([], append-nil text)
    (λ _. (same, refl))
printed_runs old now new cells modules entities sections (Err stops.Failed) result r w d is =
    let ends = if any_differs cells modules entities sections then status.Differ else status.Done in
    reports_all simulate_files (simulate_of old.words) old now new ends result w.part.part
    (sections_text cells modules entities sections) r refl w.part.state w.part.front (λ k. absurd (let h = rw is at k in cc))
printed_runs old now new cells modules entities sections (Err stops.Memory) result r w d is =
    let ends = if any_differs cells modules entities sections then status.Differ else status.Done in
    reports_all simulate_files (simulate_of old.words) old now new ends result w.part.part
    (sections_text cells modules entities sections) r refl w.part.state w.part.front (λ k. absurd (let h = rw is at k in cc))
