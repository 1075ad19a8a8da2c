-- A report and a dump bound one after the other, and what stands on the desk whether they were or not.
use Rattle.std.proofs.Common.{◌≡◌, ℕ, Bool, true, false, List, [], ◌∷◌, Option, Some, None, Result, Ok, Err, MatchResult, IsTrue}
use Rattle.std.proofs.Common.{IsErr, IfSome, OnOk, OnErr, take, length, nat_lt, refl, sym, ap, subst, ◌∙◌}
use Rattle.text_io.specs.declared.file_commands.FileCommand.{FileCommand}
use Rattle.text_io.specs.declared.file_commands.FileCommand.TheVariants.{Translate, Simulate, ReplayVerilog, ReplayVital, Audit}
use Rattle.text_io.specs.declared.outside.Failed.{Failed}
use Rattle.text_io.specs.declared.slots.InSlot.{InSlot}
use Rattle.text_io.specs.declared.slots.InSlot.TheVariants.{Library}
use Rattle.text_io.specs.declared.slots.OutSlot.TheVariants.{VerilogText, Faults}
use Rattle.text_io.specs.declared.slots.Slot.TheVariants.{Input, Output}
use Rattle.text_io.specs.Desk.{DeskState, Folder, is_bound, opened, created, took, wrote, IsFileAt, WritesText}
use Rattle.text_io.specs.Plan.{plan, asked_files, planned_files}
use Rattle.run_outcome.specs.declared.status.Status.{Status}
use Rattle.run_outcome.specs.declared.status.Status.TheVariants.{Outside, Usage}
use Rattle.run_outcome.specs.Status.{is_decided}
use Rattle.run_outcome.specs.Written.{Written, wrote_all}
use Rattle.run_outcome.specs.Outcome.{Outcome, IsPartOf, IsAllOf}
use Rattle.run_outcome.specs.Binding.{bound_state, AreNamed, Binds, bytes_at}
use Rattle.run_outcome.specs.Runs.{RunsAs}
use Rattle.run_outcome.proofs.RunsLaws.{faults_runs}
use Rattle.run_outcome.proofs.LibraryRunLaws.{ReadsLibrary, library_runs}
use Rattle.wave_reports.specs.Outcome.{report_limit, outcome_where, wave_files, translation_files, report_outcome, names_both}
use Rattle.wave_reports.specs.Outcome.{files_where, run_where, files_of, run_of, usage_line}

-- The files of a report are bound by its words.

-- an answer that a fault gives owes nothing
unowed : {T : Type 0} (r : Result T Failed) (P : Type 0) → IsErr r → OnOk r P
unowed (Ok x) P e = absurd cc
unowed (Err y) P e = tt

-- the report could not be bound
pub unbound : {T : Type 0} (old new : DeskState) (r : Result T Failed) → IsErr r → new ≡ old → Binds wave_files old new r
unbound old new r e h = record {
  bound = [];
  bytes = λ _. [];
  state = h;
  planned = (wave_files, refl);
  named = tt;
  whole =
      unowed r _ e;
}

-- the report was bound, and the dump or not
pub bound_last : {T : Type 0} (old now new : DeskState) (bytes : List ℕ) (r : Result T Failed) → now ≡ opened old Library bytes
    → IsFileAt old 1 bytes
    → OnOk r (new ≡ created now VerilogText) → OnErr r (new ≡ now) → Binds wave_files old new r
bound_last old now new bytes (Ok x) h f ok err = record {
  bound = wave_files;
  bytes = λ _. bytes;
  state = ok ∙ ap (λ s. created s VerilogText) h;
  planned = ([], refl);
  named = (f, (tt, tt));
  whole = refl;
}
bound_last old now new bytes (Err y) h f ok err = record {
  bound = (Input Library, 1) ∷ [];
  bytes = λ _. bytes;
  state = err ∙ h;
  planned = ((Output VerilogText, 2) ∷ [], refl);
  named = (f, tt);
  whole = tt;
}

-- the report is bound then, and the dump
pub both_bound : (old now : DeskState) (bytes : InSlot → List ℕ) → now ≡ bound_state old wave_files bytes
    → IsTrue (is_bound now (Input Library)) × IsTrue (is_bound now (Output VerilogText))
unfolding opened created
both_bound old now bytes e = rw e (refl, refl)

-- the report is the file that is read
reads_report : ReadsLibrary wave_files ((Output VerilogText, 2) ∷ [])
unfolding opened created
reads_report = (refl, λ old bytes. refl)

-- every report binds both
both_bound_by : (more : Bool) (bytes : List ℕ) → (outcome_where more bytes).binds ≡ 2
both_bound_by true bytes = refl
both_bound_by false bytes = refl

binds_both : (all : List ℕ) → wave_files ≡ take (report_outcome all).binds wave_files
binds_both all = ap (λ n. take n wave_files) (sym (both_bound_by (nat_lt report_limit (length all)) all))

-- what the words of a report come to
abbrev pub report_of : List (List ℕ) → Folder → Outcome
report_of words folder = report_outcome (bytes_at words folder 1)

-- both were bound, and the waves were drawn or not
pub drawn_runs : (old now new : DeskState) (bytes : InSlot → List ℕ) (result : Status) (taken : ℕ) (text : Written)
    (faults : List ℕ)
    → now ≡ bound_state old wave_files bytes
    → AreNamed old wave_files bytes
    → new ≡ wrote (wrote_all (took now Library taken) text) Faults faults
    → IfSome (now.left Library) (λ all. IsPartOf text faults (report_outcome all))
    → (IsTrue (is_decided result) → IfSome (now.left Library) (λ all. IsAllOf result text faults (report_outcome all)))
    → RunsAs wave_files (report_of old.words) old new result
drawn_runs old now new bytes result taken text faults h f state part whole =
    library_runs wave_files _ report_outcome old now new bytes result taken text faults reads_report binds_both h f state part
    whole

-- The words that ask for a report are planned as files.

planned : (asked : Option FileCommand) → names_both asked ≡ true
    → planned_files asked ≡ translation_files
planned (Some Translate) e = refl
planned (Some Simulate) e = absurd cc
planned (Some ReplayVerilog) e = absurd cc
planned (Some ReplayVital) e = absurd cc
planned (Some Audit) e = absurd cc
planned None e = absurd cc

-- the plan of words that name the two
pub both_planned : (words : List (List ℕ)) → names_both (asked_files words) ≡ true
    → plan words ≡ translation_files
both_planned words e = planned (asked_files words) e

-- a run of such words
pub named_runs : (old new : DeskState) (result : Status) → names_both (asked_files old.words) ≡ true
    → RunsAs wave_files (report_of old.words) old new result
    → RunsAs (files_of old.words) (run_of old.words) old new result
named_runs old new result e run = subst (λ b. RunsAs (files_where b) (run_where b old.words) old new result) (sym e) run

-- a run of others
pub usage_runs : {T : Type 0} (old new : DeskState) (written : Result T Failed) (result : Status)
    → names_both (asked_files old.words) ≡ false
    → WritesText old new Faults usage_line written → MatchResult written (λ _. result ≡ Usage) (λ _. result ≡ Outside)
    → RunsAs (files_of old.words) (run_of old.words) old new result
usage_runs old new written result e w r =
    (faults_runs (files_of old.words) (run_of old.words) old new usage_line Usage written result (ap files_where e)
    (λ folder. ap (λ b. run_where b old.words folder) e) w r).0
