use Rattle.std.proofs.Common.{sym, ◌∙◌}
use Rattle.library_audit.proofs.ListedValues.{no_values, some_values}
use Rattle.library_audit.proofs.words.ValuesPart.put.Goals as goal

pub returns-then-len-eq0-clause-text : goal.returns-then-len-eq0-clause-text
returns-then-len-eq0-clause-text g c = rw (no_values c.args.self.now.0 (sym c.len.ensures.value ∙ c.if-len-eq0.true)) c.put.ensures.text

pub returns-else-len-eq0-clause-text : goal.returns-else-len-eq0-clause-text
returns-else-len-eq0-clause-text g c = rw (some_values c.args.self.now.0 (λ e. c.if-len-eq0.false (c.len.ensures.value ∙ e))) c.put-else-len-eq0.ensures.text
