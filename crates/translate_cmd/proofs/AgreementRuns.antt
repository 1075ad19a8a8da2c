-- A run of `simulate` on a library and its own models.
use Rattle.std.proofs.Common.{◌≡◌, ℕ, List, [], take, IsTrue, inl, inr, refl, sym, ap, subst, ◌∙◌}
use Rattle.text_io.specs.declared.file_commands.FileCommand.TheVariants.{Simulate}
use Rattle.text_io.specs.declared.slots.OutSlot.TheVariants.{Report, Faults}
use Rattle.text_io.specs.Desk.{DeskState, Folder, wrote}
use Rattle.text_io.proofs.Wrote.{wrote-nil}
use Rattle.run_outcome.specs.declared.status.Status.{Status}
use Rattle.run_outcome.specs.declared.status.Status.TheVariants as status
use Rattle.run_outcome.specs.Status.{is_decided}
use Rattle.run_outcome.specs.Written.{Written, in_report, wrote_all}
use Rattle.run_outcome.specs.Binding.{Files, bound_state, AreNamed, took_all, Tells, bytes_at}
use Rattle.run_outcome.specs.Outcome.{Outcome}
use Rattle.run_outcome.specs.Runs.{RunsAs}
use Rattle.run_outcome.proofs.WrittenLaws.{wrote_all-report}
use Rattle.command_words.specs.declared.commands.Command.{Command}
use Rattle.command_words.specs.declared.commands.Command.TheVariants as command
use Rattle.command_words.specs.Reading.{reading}
use Rattle.library_translation.specs.Library.{translate_outcome}
use Rattle.library_simulation.specs.Simulate.{simulate_files, simulate_outcome, simulate_of}
use Rattle.translate_cmd.specs.Outcome.{files_of, outcome_of}
use Rattle.translate_cmd.specs.Runs.{Runs}
use Rattle.translate_cmd.specs.Agreement.{Agrees, ReportsAllEqual}
use Rattle.translate_cmd.specs.AgreementRuns.{NameOwnModels, WritesAllEqual, OwnModelsEndInAgreement}
use Rattle.translate_cmd.proofs.Agreement.{own_models_agree}
use Rattle.translate_cmd.proofs.CompleteLemmas.{decided_or}
use Rattle.translate_cmd.proofs.OwnEnds.{own_words_are_done}

-- what such words come to
own_outcome : (words : List (List ℕ)) (folder : Folder) → NameOwnModels words folder
    → Agrees (bytes_at words folder 1) (bytes_at words folder 4) (simulate_of words folder)
own_outcome words folder own =
    let library = bytes_at words folder 1 in
    let stimulus = bytes_at words folder 4 in
    subst (λ text. Agrees library stimulus (simulate_outcome library text (bytes_at words folder 3) stimulus)) (sym own.verilog)
    (subst (λ text. Agrees library stimulus (simulate_outcome library (translate_outcome library).text.verilog text stimulus))
    (sym own.vital)
    (own_models_agree library stimulus))

-- a run of the simulation that these words ask for
abbrev Simulates : DeskState → DeskState → Status → Type 0
Simulates old new result = RunsAs simulate_files (simulate_of old.words) old new result

simulates : (old new : DeskState) (result : Status) → reading old.words ≡ command.Files Simulate → Runs old new result
    → Simulates old new result
simulates old new result e r = subst (λ (asked : Command). RunsAs (files_of asked) (outcome_of asked old.words) old new result) e
    r.run

-- A run with a status that is decided ends as its outcome says.

ends_so : (old new : DeskState) (result s : Status) (folder : Folder) → Simulates old new result → Tells simulate_files old folder
    → IsTrue (is_decided s)
    → result ≡ s → (simulate_of old.words folder).status ≡ s
ends_so old new result s folder r tells d e =
    sym (r.whole (subst (λ (one : Status). IsTrue (is_decided one)) (sym e) d) folder tells).same_status ∙ e

-- the report is all that was written
report_alone : (s : DeskState) (text : Written) (faults report : List ℕ) → text ≡ in_report report → faults ≡ []
    → wrote (wrote_all s text) Faults faults ≡ wrote s Report report
report_alone s text faults report t f =
    ap (λ w. wrote (wrote_all s w) Faults faults) t ∙ ap (wrote (wrote_all s (in_report report)) Faults) f
    ∙ wrote-nil (wrote_all s (in_report report)) Faults ∙ wrote_all-report s report

is_done : (library stimulus : List ℕ) (old new : DeskState) (result : Status) (folder : Folder) → Simulates old new result
    → Tells simulate_files old folder
    → result ≡ status.Done → ReportsAllEqual library stimulus (simulate_of old.words folder)
    → WritesAllEqual library stimulus old new
is_done library stimulus old new result folder r tells e h =
    let d : IsTrue (is_decided result) = rw e refl in
    let all = r.whole d folder tells in
    let bound : r.bound ≡ simulate_files =
    r.all_bound d folder tells ∙ ap (λ (o : Outcome). take o.binds simulate_files) h.outcome_is in
    record {
      bytes = r.bytes;
      named = subst (λ (files : Files). AreNamed old files r.bytes) bound r.named;
      taken = r.taken;
      report = h.report;
      equal = h.equal;
      state = r.state ∙ ap (λ (files : Files). wrote (wrote_all (took_all (bound_state old files r.bytes) r.taken) r.text) Faults
          r.faults) bound
          ∙ report_alone _ r.text r.faults h.report (all.same_text ∙ ap (λ (o : Outcome). o.text) h.outcome_is)
          (all.same_faults ∙ ap (λ (o : Outcome). o.faults) h.outcome_is);
    }

pub own_models_end_in_agreement : (old new : DeskState) (result : Status) → Runs old new result
    → OwnModelsEndInAgreement old new result
own_models_end_in_agreement old new result run = λ asked folder tells own.
    let r = simulates old new result asked run in
    let agrees = own_outcome old.words folder own in
    record {
      not_model = λ e. agrees.not_model (ends_so old new result status.Model folder r tells refl e);
      not_differ = λ e. agrees.not_differ (ends_so old new result status.Differ folder r tells refl e);
      ended = λ sound h.
          elim (decided_or result) [
            | inl outside ↦ absurd (sound outside)
            | inr (inl memory) ↦ inr memory
            | inr (inr d) ↦ inl ((r.whole d folder tells).same_status ∙ own_words_are_done old.words folder own h)
          ];
      done = λ e. is_done _ _ old new result folder r tells e
          (agrees.done (ends_so old new result status.Done folder r tells refl e));
    }
