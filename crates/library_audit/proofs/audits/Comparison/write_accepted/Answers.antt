use Rattle.stimulus.proofs.Runs.{appends_nothing}
use Rattle.library_audit.proofs.audits.Comparison.write_accepted.Goals as goal

pub returns-in_err-found-clause-text : goal.returns-in_err-found-clause-text
returns-in_err-found-clause-text g c = appends_nothing _ _ _ c.from_residual-in_err-found.ensures.0
