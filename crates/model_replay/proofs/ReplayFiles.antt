-- The two files of a replay, one after the other.
use Rattle.std.proofs.Common.{◌≡◌, ◌≤◌, ℕ, false, List, [], ◌∷◌, length, Result, Ok, Err, Contains, refl, sym, ap, subst, arith}
use Rattle.std.specs.Prelude.{All}
use Rattle.std.proofs.lemmas.List.{append-nil}
use Rattle.text_io.specs.declared.slots.InSlot.TheVariants.{Stimulus}
use Rattle.text_io.specs.declared.slots.Slot.TheVariants.{Input}
use Rattle.text_io.specs.declared.stop.Stop.{Stop}
use Rattle.text_io.specs.declared.stop.Stop.TheVariants as stops
use Rattle.text_io.specs.Plan.{plan}
use Rattle.text_io.specs.Desk.{DeskState, Folder}
use Rattle.stimulus.specs.declared.sections.Section.{Section}
use Rattle.stimulus.specs.PortEntries.{NamedCells, listed}
use Rattle.stimulus.specs.Stimulus.{stimulus_of}
use Rattle.stimulus.specs.Writes.{WritesTrace}
use Rattle.run_outcome.specs.declared.status.Status.{Status}
use Rattle.run_outcome.specs.declared.status.Status.TheVariants as status
use Rattle.run_outcome.specs.Status.{is_decided, status_by}
use Rattle.run_outcome.specs.Binding.{Files, bytes_at}
use Rattle.run_outcome.specs.Outcome.{Outcome}
use Rattle.run_outcome.specs.Runs.{RunsAs}
use Rattle.run_outcome.specs.FileSteps.{FileIsTaken, FileEndsRun}
use Rattle.run_outcome.specs.FilesRead.{is_read_among, HasRead}
use Rattle.run_outcome.proofs.FileLaws.{words_before}
use Rattle.run_outcome.proofs.FilesReadLaws.{nothing_read, one_more, ends_there, stops_between, reports_all}
use Rattle.model_files.specs.declared.format.ModelFormat.{ModelFormat}
use Rattle.model_files.specs.declared.format.ModelFormat.TheVariants as format
use Rattle.model_files.specs.Formats.{slot_of}
use Rattle.model_files.specs.Languages.{Language}
use Rattle.model_files.specs.Limits.{model_limit}
use Rattle.model_files.specs.ModelNames.{HaveOwnNames}
use Rattle.model_files.specs.ModelAnswer.{model_answer}
use Rattle.model_files.specs.StimulusAnswer.{stimulus_answer}
use Rattle.model_replay.specs.ModelPorts.{models_named}
use Rattle.model_replay.specs.Outcome.{replay_files, replayed_sections_text, replay_line_stop, replayed_outcome, behind_models}
use Rattle.model_replay.specs.Outcome.{replay_of}
use Rattle.model_replay.specs.Replays.{ReadsReplay}
use Rattle.model_replay.proofs.Sections.{all_can_be_run}

-- the file of models alone
abbrev pub one_file : ModelFormat → Files
one_file f = (Input (slot_of f), 1) ∷ []

-- what the run comes to behind the models
abbrev pub after_models : {M : Type 0} → Language M → List (List ℕ) → List M → Folder → Outcome
after_models l words models folder = behind_models l models (bytes_at words folder 2)

-- the stimulus is another slot
other_slot : (f : ModelFormat) → is_read_among Stimulus (one_file f) ≡ false
other_slot format.Verilog = refl
other_slot format.Vital = refl

-- The files are still among those that the words name.

pub models_planned : (words : List (List ℕ)) (f : ModelFormat) → plan words ≡ replay_files f
    → Contains (plan words) (Input (slot_of f), 1)
models_planned words f h = subst (λ files. Contains files (Input (slot_of f), 1)) (sym h) (0, omega arith, refl)

pub stimulus_planned : {M : Type 0} (l : Language M) (old now : DeskState) (models : List M)
    → HasRead (replay_files l.format) (one_file l.format) (replay_of l old.words) (after_models l old.words models) old now
    → plan old.words ≡ replay_files l.format → Contains (plan now.words) (Input Stimulus, 2)
stimulus_planned l old now models r h =
    subst (λ words. Contains (plan words) (Input Stimulus, 2))
    (sym (words_before old now (one_file l.format) r.bytes r.taken r.state))
    (subst (λ files. Contains files (Input Stimulus, 2)) (sym h) (1, omega arith, refl))

-- The files that are read.

pub models_read : {M : Type 0} (l : Language M) (old now : DeskState) (models : List M)
    → FileIsTaken (model_answer l) old now (slot_of l.format) 1 models
    → HasRead (replay_files l.format) (one_file l.format) (replay_of l old.words) (after_models l old.words models) old now
models_read l old now models t =
    one_more (replay_files l.format) [] (replay_of l old.words) (model_answer l) (after_models l old.words) old old now
    (slot_of l.format) 1 1 models
    (nothing_read (replay_files l.format) (replay_of l old.words) old) refl ((Input Stimulus, 2) ∷ [], refl) t

pub sections_read : {M : Type 0} (l : Language M) (old now new : DeskState) (models : List M) (catalog : NamedCells)
    (sections : List Section)
    → HasRead (replay_files l.format) (one_file l.format) (replay_of l old.words) (after_models l old.words models) old now
    → catalog ≡ models_named l models → FileIsTaken (stimulus_answer replay_line_stop catalog) now new Stimulus 2 sections
    → HasRead (replay_files l.format) (replay_files l.format) (replay_of l old.words) (λ _. replayed_outcome l models sections)
    old new
sections_read l old now new models catalog sections r named t =
    one_more (replay_files l.format) (one_file l.format) (replay_of l old.words)
    (stimulus_answer replay_line_stop (models_named l models)) (λ found _. replayed_outcome l models found) old now new
    Stimulus 2 2 sections
    r (other_slot l.format) ([], refl)
    (subst (λ c. FileIsTaken (stimulus_answer replay_line_stop c) now new Stimulus 2 sections) named t)

-- both files, whose sections can be run
pub replay_read : {M : Type 0} (l : Language M) (old now new : DeskState) (models : List M) (catalog : NamedCells)
    (sections : List Section) → FileIsTaken (model_answer l) old now (slot_of l.format) 1 models
    → (bytes : List ℕ) × (length bytes ≤ model_limit) × (l.text bytes ≡ Ok models) → All l.is_well_formed models
    → HaveOwnNames l models → catalog ≡ models_named l models
    → FileIsTaken (stimulus_answer replay_line_stop catalog) now new Stimulus 2 sections → (bytes : List ℕ)
    × (stimulus_of (listed catalog) bytes ≡ Ok sections)
    → ReadsReplay l old new (record { models = models; catalog = catalog; sections = sections })
replay_read l old now new models catalog sections taken text well own named t read =
    let bytes : (bytes : List ℕ) × (stimulus_of (listed (models_named l models)) bytes ≡ Ok sections) =
    subst (λ c. (bytes : List ℕ) × (stimulus_of (listed c) bytes ≡ Ok sections)) named read in
    record {
      files = sections_read l old now new models catalog sections (models_read l old now models taken) named t;
      text = text;
      well_formed = well;
      catalog = named;
      stimulus = bytes;
      runs = all_can_be_run l models well own bytes.0 sections bytes.1;
    }

-- The file that ends the run.

pub models_end : {M : Type 0} (l : Language M) (old new : DeskState) (result : Status)
    → FileEndsRun (model_answer l) old new (slot_of l.format) 1 result
    → RunsAs (replay_files l.format) (replay_of l old.words) old new result
models_end l old new result f =
    ends_there (replay_files l.format) [] (replay_of l old.words) (model_answer l) (after_models l old.words) old old new
    (slot_of l.format) 1 1 result
    (nothing_read (replay_files l.format) (replay_of l old.words) old) refl ((Input Stimulus, 2) ∷ [], refl) refl refl f

pub stimulus_ends : {M : Type 0} (l : Language M) (old now new : DeskState) (models : List M) (catalog : NamedCells)
    (result : Status)
    → HasRead (replay_files l.format) (one_file l.format) (replay_of l old.words) (after_models l old.words models) old now
    → catalog ≡ models_named l models → FileEndsRun (stimulus_answer replay_line_stop catalog) now new Stimulus 2 result
    → RunsAs (replay_files l.format) (replay_of l old.words) old new result
stimulus_ends l old now new models catalog result r named f =
    ends_there (replay_files l.format) (one_file l.format) (replay_of l old.words)
    (stimulus_answer replay_line_stop (models_named l models)) (λ found _. replayed_outcome l models found) old now new
    Stimulus 2 2 result
    r (other_slot l.format) ([], refl) refl refl
    (subst (λ c. FileEndsRun (stimulus_answer replay_line_stop c) now new Stimulus 2 result) named f)

-- want of memory behind the models
pub no_memory : {M : Type 0} (l : Language M) (old now : DeskState) (models : List M) (result : Status)
    → HasRead (replay_files l.format) (one_file l.format) (replay_of l old.words) (after_models l old.words models) old now
    → result ≡ status.Memory
    → RunsAs (replay_files l.format) (replay_of l old.words) old now result
no_memory l old now models result r is =
    stops_between (replay_files l.format) (one_file l.format) (replay_of l old.words) (after_models l old.words models) old now
    result r (ap is_decided is)

-- The sections are printed.

pub printed_runs : {T M : Type 0} (l : Language M) (old now new : DeskState) (models : List M) (sections : List Section)
    (printed : Result T Stop) (result : Status)
    → HasRead (replay_files l.format) (replay_files l.format) (replay_of l old.words) (λ _. replayed_outcome l models sections)
    old now
    → WritesTrace now new (replayed_sections_text l models sections) printed → result ≡ status_by (λ _. status.Done) printed
    → RunsAs (replay_files l.format) (replay_of l old.words) old new result
printed_runs l old now new models sections (Ok x) result r w is =
    let text = replayed_sections_text l models sections in
    reports_all (replay_files l.format) (replay_of l old.words) old now new status.Done result text text r refl w.whole
    ([], append-nil text) (λ _. (is, refl))
printed_runs l old now new models sections (Err stops.Failed) result r w is =
    reports_all (replay_files l.format) (replay_of l old.words) old now new status.Done result w.part.part
    (replayed_sections_text l models sections) r refl w.part.state w.part.front (λ d. absurd (let h = rw is at d in cc))
printed_runs l old now new models sections (Err stops.Memory) result r w is =
    reports_all (replay_files l.format) (replay_of l old.words) old now new status.Done result w.part.part
    (replayed_sections_text l models sections) r refl w.part.state w.part.front (λ d. absurd (let h = rw is at d in cc))
