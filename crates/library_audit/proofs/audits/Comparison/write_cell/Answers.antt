use Rattle.std.proofs.Common.{sym}
use Rattle.text_io.proofs.Wrote.{wrote-nil}
use Rattle.library_audit.proofs.audits.Comparison.write_cell.Goals as goal

pub returns-in-Refused-clause-text : goal.returns-in-Refused-clause-text
returns-in-Refused-clause-text g c = rw c.in-Refused.is (record { whole = sym (wrote-nil _ _); part = tt })
