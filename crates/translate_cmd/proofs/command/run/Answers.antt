use Rattle.translate_cmd.proofs.AgreementRuns.{own_models_end_in_agreement}
use Rattle.translate_cmd.proofs.AuditRuns.{done_where_all_match}
use Rattle.translate_cmd.proofs.CompleteLemmas.{completes}
use Rattle.translate_cmd.proofs.SelftestLemmas.{selftests_end}
use Rattle.translate_cmd.proofs.command.run.Goals as goal

pub returns-clause-complete : goal.returns-clause-complete
returns-clause-complete g c = λ sound. completes _ _ _ c.carry_out.ensures.writes (λ outside. sound (c.carry_out.ensures.outside outside))

pub returns-clause-agree : goal.returns-clause-agree
returns-clause-agree g c = own_models_end_in_agreement _ _ _ c.carry_out.ensures.writes

pub returns-clause-selftest : goal.returns-clause-selftest
returns-clause-selftest g c = selftests_end _ _ _ c.carry_out.ensures.writes

pub returns-clause-audit : goal.returns-clause-audit
returns-clause-audit g c = done_where_all_match c.done_is_match.ensures c.audited_cells_agree.ensures _ _ _ c.carry_out.ensures.writes
