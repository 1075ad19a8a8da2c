-- A run on which no call failed did all that it was asked for.
use Rattle.std.proofs.Common.{◌≡◌, ℕ, Bool, true, false, List, [], take, length, Some, ◌⊎◌, inl, inr, if◌then◌else◌}
use Rattle.std.proofs.Common.{IsTrue, refl, sym, ap, subst, ◌∙◌}
use Rattle.std.proofs.lemmas.List.{take_all}
use Rattle.std.proofs.lemmas.Bool.{le-leb as fits_within}
use Rattle.text_io.specs.declared.file_commands.FileCommand.{FileCommand}
use Rattle.text_io.specs.declared.file_commands.FileCommand.TheVariants.{Translate, Simulate, ReplayVerilog, ReplayVital, Audit}
use Rattle.text_io.specs.declared.slots.OutSlot.TheVariants.{Faults}
use Rattle.text_io.specs.Desk.{DeskState, Folder, wrote}
use Rattle.text_io.specs.Plan.{planned_files}
use Rattle.text_io.proofs.Wrote.{wrote-nil}
use Rattle.cell_cursor.specs.Ends.{items_within, end_within}
use Rattle.cell_cursor.specs.declared.item.LibraryItem.{LibraryItem}
use Rattle.run_outcome.specs.declared.status.Status.{Status}
use Rattle.run_outcome.specs.declared.status.Status.TheVariants as status
use Rattle.library_simulation.specs.library_reader.declared.ending.Ending.{Ending}
use Rattle.library_simulation.specs.library_reader.declared.ending.Ending.TheVariants as ending
use Rattle.command_words.specs.declared.commands.Command.{Command}
use Rattle.command_words.specs.declared.commands.Command.TheVariants as command
use Rattle.run_outcome.specs.Status.{is_decided}
use Rattle.command_words.specs.Reading.{reading}
use Rattle.run_outcome.specs.Written.{Written, wrote_all}
use Rattle.run_outcome.specs.Outcome.{Outcome}
use Rattle.run_outcome.specs.Binding.{Files, bound_state, AreNamed, took_all, Tells, bytes_at}
use Rattle.library_simulation.specs.library_reader.Endings.{library_limit, ending_of}
use Rattle.library_translation.specs.Library.{outcome_at}
use Rattle.translate_cmd.specs.Outcome.{files_of, file_outcome, outcome_of, outcome}
use Rattle.translate_cmd.specs.Runs.{Runs}
use Rattle.translate_cmd.specs.Complete.{IsWholeLibrary, CanBeSimulated, CanBeAudited, FilesCanBeDone, CanBeDone, IsAllDone}
use Rattle.translate_cmd.specs.Complete.{Completes}
use Rattle.library_simulation.specs.library_reader.KeptCells.{kept_cells, cells_by}
use Rattle.library_simulation.specs.library_reader.Progress.{no_progress}
use Rattle.library_simulation.specs.Catalog.{cells_named}
use Rattle.library_simulation.specs.Comparisons.{any_differs}
use Rattle.library_simulation.specs.Ends.{sections_outcome}
use Rattle.library_simulation.specs.library_reader.LibraryAnswer.{answer_by}
use Rattle.library_simulation.specs.Simulate.{simulate_files, simulate_outcome}
use Rattle.library_simulation.proofs.model_files.WholeAnswers.{model_whole, stimulus_whole}
use Rattle.library_simulation.proofs.WholeSimulations.{simulated_whole}
use Rattle.library_audit.specs.Audits as audits
use Rattle.library_audit.specs.Outcome.{audit_files, audit_outcome, audits_outcome}
use Rattle.library_audit.proofs.WholeAudits.{audited_whole}
use Rattle.library_simulation.specs.FaultLines.{cause_stop}
use Rattle.library_simulation.specs.model_files.Languages.{Language}
use Rattle.library_simulation.specs.model_replay.Outcome.{replay_files, replay_outcome}
use Rattle.library_simulation.specs.model_replay.Complete.{CanBeReplayed}
use Rattle.library_simulation.proofs.model_replay.Completes.{replayed_whole}
use Rattle.library_simulation.specs.Verilog.{verilog}
use Rattle.library_simulation.specs.Vital.{vital}

-- how a status came about
pub decided_or : (s : Status) → (s ≡ status.Outside) ⊎ ((s ≡ status.Memory) ⊎ IsTrue (is_decided s))
decided_or status.Outside = inl refl
decided_or status.Memory = inr (inl refl)
decided_or status.Done = inr (inr cc)
decided_or status.Usage = inr (inr cc)
decided_or status.Library = inr (inr cc)
decided_or status.Cells = inr (inr cc)
decided_or status.Stimulus = inr (inr cc)
decided_or status.Model = inr (inr cc)
decided_or status.Differ = inr (inr cc)
decided_or status.TooLong = inr (inr cc)

-- a whole library within its limit ends so
ends_whole : (bytes : List ℕ) → IsWholeLibrary bytes → ending_of library_limit bytes ≡ ending.Whole
unfolding end_within
ends_whole bytes h =
    let same : take library_limit bytes ≡ bytes = take_all library_limit bytes h.within in
    let fits = fits_within (length bytes) library_limit h.within in
    rw (same, fits, h.whole) refl

-- what is good of an outcome
pub record IsGood (o : Outcome) : Type 0 where
  status : (o.status ≡ status.Done) ⊎ ((o.status ≡ status.Cells) ⊎ (o.status ≡ status.Differ))
  faults : o.faults ≡ []

done_or_cells : (none : Bool) (s : Status) → s ≡ (if none then status.Done else status.Cells) → (s ≡ status.Done)
    ⊎ ((s ≡ status.Cells) ⊎ (s ≡ status.Differ))
done_or_cells true s e = inl e
done_or_cells false s e = inr (inl e)

differ_or_done : (some_differ : Bool) (s : Status) → s ≡ (if some_differ then status.Differ else status.Done) → (s ≡ status.Done)
    ⊎ ((s ≡ status.Cells) ⊎ (s ≡ status.Differ))
differ_or_done true s e = inr (inr e)
differ_or_done false s e = inl e

whole_is_good : (items : List LibraryItem) (end : Ending) → end ≡ ending.Whole → IsGood (outcome_at items end)
unfolding outcome_at
whole_is_good items end e = rw e (record { status = done_or_cells _ _ refl; faults = refl })

-- then its outcome is good, and all its files are bound
record IsGoodOf (files : Files) (o : Outcome) : Type 0 where
  good : IsGood o
  binds : take o.binds files ≡ files

replay_is_good : {M : Type 0} (l : Language M) (text stimulus : List ℕ) → CanBeReplayed l text stimulus
    → IsGoodOf (replay_files l.format) (replay_outcome l text stimulus)
replay_is_good l text stimulus can =
    subst (IsGoodOf (replay_files l.format)) (sym (replayed_whole l text stimulus can))
    (record { good = record { status = inl refl; faults = refl }; binds = refl })

-- the sections of a simulation that can be done
abbrev pub sections_simulated : (library text vhdl stimulus : List ℕ) → CanBeSimulated library text vhdl stimulus → Outcome
sections_simulated library text vhdl stimulus can =
    sections_outcome (kept_cells no_progress (items_within library_limit library)) can.modules can.entities can.sections

-- it comes to these
pub simulation_comes_to : (library text vhdl stimulus : List ℕ) (can : CanBeSimulated library text vhdl stimulus)
    → simulate_outcome library text vhdl stimulus ≡ sections_simulated library text vhdl stimulus can
simulation_comes_to library text vhdl stimulus can =
    let cells = kept_cells no_progress (items_within library_limit library) in
    simulated_whole library text vhdl stimulus cells can.modules can.entities can.sections
    (ap (λ end. answer_by (cells_by end cells)) (ends_whole library can.whole))
    (model_whole verilog text can.modules can.text_within can.verilog)
    (model_whole vital vhdl can.entities can.vhdl_within can.vital)
    (stimulus_whole (cause_stop cells) (cells_named cells can.modules can.entities) stimulus can.sections can.stimulus_within
    can.lines)

simulation_is_good : (library text vhdl stimulus : List ℕ) → CanBeSimulated library text vhdl stimulus
    → IsGoodOf simulate_files (simulate_outcome library text vhdl stimulus)
simulation_is_good library text vhdl stimulus can =
    let cells = kept_cells no_progress (items_within library_limit library) in
    subst (IsGoodOf simulate_files) (sym (simulation_comes_to library text vhdl stimulus can))
    (record {
      good = record {
        status = differ_or_done (any_differs cells can.modules can.entities can.sections) _ refl;
        faults =
            refl;
      };
      binds = refl;
    })

-- what comparing a library with a Verilog file that is not refused comes to
pub audit_comes_to : (library text : List ℕ) (can : CanBeAudited library text)
    → audit_outcome library text ≡ audits_outcome (kept_cells no_progress (items_within library_limit library)) can.modules
audit_comes_to library text can =
    let cells = kept_cells no_progress (items_within library_limit library) in
    audited_whole library text cells can.modules (ap (λ end. answer_by (cells_by end cells)) (ends_whole library can.whole))
    (model_whole verilog text can.modules can.text_within can.verilog)

audit_is_good : (library text : List ℕ) → CanBeAudited library text → IsGoodOf audit_files (audit_outcome library text)
audit_is_good library text can =
    let cells = kept_cells no_progress (items_within library_limit library) in
    subst (IsGoodOf audit_files) (sym (audit_comes_to library text can))
    (record {
      good = record { status = differ_or_done (audits.any_differs can.modules cells) _ refl; faults = refl };
      binds =
          refl;
    })

files_are_good : (asked : FileCommand) (words : List (List ℕ)) (folder : Folder) → FilesCanBeDone asked words folder
    → IsGoodOf (planned_files (Some asked)) (file_outcome asked words folder)
unfolding outcome_at
files_are_good Translate words folder can =
    let bytes = bytes_at words folder 1 in
    record {
      good = whole_is_good (items_within library_limit bytes) (ending_of library_limit bytes) (ends_whole bytes can);
      binds
          = refl;
    }
files_are_good Simulate words folder can =
    simulation_is_good (bytes_at words folder 1) (bytes_at words folder 2) (bytes_at words folder 3) (bytes_at words folder 4) can
files_are_good ReplayVerilog words folder can = replay_is_good verilog (bytes_at words folder 1) (bytes_at words folder 2) can
files_are_good ReplayVital words folder can = replay_is_good vital (bytes_at words folder 1) (bytes_at words folder 2) can
files_are_good Audit words folder can = audit_is_good (bytes_at words folder 1) (bytes_at words folder 2) can

can_is_good : (asked : Command) (words : List (List ℕ)) (folder : Folder) → CanBeDone asked words folder
    → IsGoodOf (files_of asked) (outcome_of asked words folder)
can_is_good (command.Udp udp) words folder can = record { good = record { status = inl refl; faults = refl }; binds = refl }
can_is_good (command.Files asked) words folder can = files_are_good asked words folder can
can_is_good (command.Selftest cells) words folder can =
    record { good = record { status = inl refl; faults = refl }; binds = refl }
can_is_good command.Usage words folder can = absurd can

-- a state behind some that was appended is the same where what was appended is
same_state : (read new : DeskState) (text all : Written) (faults none : List ℕ) → new ≡ wrote (wrote_all read text) Faults faults
    → text ≡ all
    → faults ≡ none → none ≡ [] → new ≡ wrote_all read all
same_state read new text all faults none e t f n =
    e ∙ ap (λ w. wrote (wrote_all read w) Faults faults) t ∙ ap (wrote (wrote_all read all) Faults) (f ∙ n)
    ∙ wrote-nil (wrote_all read all) Faults

all_done : (old new : DeskState) (folder : Folder) (result : Status) → Runs old new result → IsTrue (is_decided result)
    → Tells (files_of (reading old.words)) old folder
    → IsGoodOf (files_of (reading old.words)) (outcome old.words folder) → IsAllDone old new folder result
all_done old new folder result r d tells good =
    let all = r.run.whole d folder tells in
    let bound = r.run.all_bound d folder tells ∙ good.binds in
    record {
      good = rw all.same_status good.good.status;
      same_status = all.same_status;
      bytes = r.run.bytes;
      named = subst (λ b. AreNamed old b r.run.bytes) bound r.run.named;
      taken = r.run.taken;
      state = same_state _ new r.run.text _ r.run.faults _
          (r.run.state ∙ ap (λ b. wrote (wrote_all (took_all (bound_state old b r.run.bytes) r.run.taken) r.run.text) Faults
          r.run.faults) bound) all.same_text all.same_faults good.good.faults;
    }

pub completes : (old new : DeskState) (result : Status) → Runs old new result → (result ≡ status.Outside → ⊥)
    → Completes old new result
completes old new result r sound = λ folder tells can.
    elim (decided_or result) [
      | inl outside ↦ absurd (sound outside)
      | inr (inl memory) ↦ inl memory
      | inr (inr d) ↦ inr (all_done old new folder result r d tells (can_is_good (reading old.words) old.words folder can))
    ]
