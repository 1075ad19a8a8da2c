use Rattle.std.proofs.Common.{not, sym, ap, ◌∙◌}
use Rattle.udp_tables.proofs.RowMatches.{other_change, wrong_change, not-holds}
use Rattle.udp_tables.proofs.sequential.is_no_change.Goals as goal

pub returns-then-is_level : goal.returns-then-is_level
returns-then-is_level c = λ told change.
    other_change c.args.entries.now c.args.inputs.now c.args.changed c.in-Some.entry.now c.args.old (sym c.in-Some.ensures)
    (sym c.is_level.ensures ∙ told) change

pub returns-else-is_level : goal.returns-else-is_level
returns-else-is_level c = λ told change.
    wrong_change c.args.entries.now c.args.inputs.now c.args.changed c.in-Some.entry.now c.args.old c.in-Some-at.value.now
    (sym c.in-Some.ensures) (sym c.in-Some-at.ensures) (not-holds _ (ap not (sym c.matches.ensures) ∙ told))
