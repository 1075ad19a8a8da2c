-- A run that compares a library with a Verilog file is done exactly where all accepted cells have matches, and then these cells
-- agree with their modules.
use Rattle.std.proofs.Common.{◌≡◌, sym, subst, ◌∙◌}
use Rattle.text_io.specs.declared.file_commands.FileCommand.TheVariants.{Audit}
use Rattle.text_io.specs.Desk.{DeskState}
use Rattle.run_outcome.specs.declared.status.Status.{Status}
use Rattle.run_outcome.specs.Binding.{bytes_at}
use Rattle.run_outcome.specs.Runs.{RunsAs}
use Rattle.command_words.specs.declared.commands.Command.{Command}
use Rattle.command_words.specs.declared.commands.Command.TheVariants as command
use Rattle.command_words.specs.Reading.{reading}
use Rattle.library_audit.specs.Laws.{DoneIsMatch}
use Rattle.library_audit.specs.Outcome.{audit_files, audit_of}
use Rattle.translate_cmd.specs.Outcome.{files_of, outcome_of}
use Rattle.translate_cmd.specs.Runs.{Runs}
use Rattle.translate_cmd.specs.Audits.{AuditedCellsAgree}
use Rattle.translate_cmd.specs.AuditRuns.{DoneWhereAllMatch}

audits : (old new : DeskState) (result : Status) → reading old.words ≡ command.Files Audit → Runs old new result
    → RunsAs audit_files (audit_of old.words) old new result
audits old new result e r = subst (λ (asked : Command). RunsAs (files_of asked) (outcome_of asked old.words) old new result) e
    r.run

pub done_where_all_match : DoneIsMatch → AuditedCellsAgree → (old new : DeskState) (result : Status) → Runs old new result
    → DoneWhereAllMatch old result
done_where_all_match law agree old new result run = λ asked folder tells decided.
    let library = bytes_at old.words folder 1 in
    let text = bytes_at old.words folder 2 in
    let ended = ((audits old new result asked run).whole decided folder tells).same_status in
    let matches = law library text in
    record {
      matched = (λ done. matches.0 (sym ended ∙ done), λ all. ended ∙ matches.1 all);
      agreed = λ done. (agree library text).done (sym ended ∙ done);
    }
