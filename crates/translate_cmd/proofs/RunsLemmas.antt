-- A run that writes one text, or nothing.
use Rattle.std.proofs.Common.{◌≡◌, ℕ, Result, MatchResult, codes, sym, ap, subst}
use Rattle.text_io.specs.declared.slots.InSlot.TheVariants.{Library}
use Rattle.text_io.specs.declared.outside.Failed.{Failed}
use Rattle.text_io.specs.declared.slots.OutSlot.TheVariants.{Report, Faults}
use Rattle.text_io.specs.Desk.{DeskState, WritesText}
use Rattle.library_simulation.specs.file_models.udp_tables.declared.table.Udp.{Udp}
use Rattle.verilog_writer.specs.Primitive.{primitive_text}
use Rattle.selftest_runs.specs.declared.counts.Counts.{Counts}
use Rattle.selftest_runs.specs.OwnCounts.{own_counts}
use Rattle.selftest_runs.specs.Report.{report_text}
use Rattle.run_outcome.specs.declared.status.Status.{Status}
use Rattle.run_outcome.specs.declared.status.Status.TheVariants.{Done, Usage, Outside, Memory}
use Rattle.run_outcome.proofs.RunsLaws.{RunsUnread, report_runs, faults_runs, nothing_runs as did_nothing}
use Rattle.command_words.specs.declared.commands.Command.TheVariants as command
use Rattle.command_words.specs.Reading.{reading}
use Rattle.translate_cmd.specs.Outcome.{files_of, outcome, outcome_of}
use Rattle.run_outcome.specs.Binding.{bytes_at}
use Rattle.library_translation.specs.Models.{HoldsModels}
use Rattle.translate_cmd.specs.Runs.{Runs}
use Rattle.library_translation.proofs.ModelsLemmas.{no_model_owed}

-- a run that has read nothing owes no models
unread_runs : (old new : DeskState) (result : Status)
    → RunsUnread (files_of (reading old.words)) (outcome old.words) old new result → Runs old new result
unread_runs old new result r = record {
  run = r.0;
  models = λ _ folder _. subst (λ n. HoldsModels (bytes_at old.words folder 1) n r.0.text) (sym (ap (λ taken. taken Library) r.1))
      (no_model_owed _ r.0.text);
}

-- the primitive was written to the report
pub udp_runs : {T : Type 0} (old new : DeskState) (udp : Udp) (written : Result T Failed) (result : Status)
    → reading old.words ≡ command.Udp udp
    → WritesText old new Report (primitive_text udp) written → MatchResult written (λ _. result ≡ Done) (λ _. result ≡ Outside)
    → Runs old new result
udp_runs old new udp written result e w r =
    unread_runs old new result
    (report_runs (files_of (reading old.words)) (outcome old.words) old new (primitive_text udp) Done written result
    (ap files_of e) (λ folder. ap (λ c. outcome_of c old.words folder) e) w r)

-- the report of a run on test cells was written
pub selftest_runs : {T : Type 0} (old new : DeskState) (cells : ℕ) (counts : Counts) (written : Result T Failed) (result : Status)
    → reading old.words ≡ command.Selftest cells
    → counts ≡ own_counts cells → WritesText old new Report (report_text cells counts) written
    → MatchResult written (λ _. result ≡ Done) (λ _. result ≡ Outside) → Runs old new result
selftest_runs old new cells counts written result e own w r =
    unread_runs old new result
    (report_runs (files_of (reading old.words)) (outcome old.words) old new (report_text cells (own_counts cells)) Done written
    result (ap files_of e)
    (λ folder. ap (λ c. outcome_of c old.words folder) e)
    (subst (λ counted. WritesText old new Report (report_text cells counted) written) own w) r)

-- the line of usage was written to the faults
pub usage_runs : {T : Type 0} (old new : DeskState) (written : Result T Failed) (result : Status)
    → reading old.words ≡ command.Usage
    → WritesText old new Faults (codes "lib2sim: usage\n") written
    → MatchResult written (λ _. result ≡ Usage) (λ _. result ≡ Outside) → Runs old new result
usage_runs old new written result e w r =
    unread_runs old new result
    (faults_runs (files_of (reading old.words)) (outcome old.words) old new (codes "lib2sim: usage\n") Usage written result
    (ap files_of e) (λ folder. ap (λ c. outcome_of c old.words folder) e) w r)

-- nothing was written, for want of memory
pub nothing_runs : (old : DeskState) → Runs old old Memory
nothing_runs old = unread_runs old old Memory (did_nothing (files_of (reading old.words)) (outcome old.words) old)
