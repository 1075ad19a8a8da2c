use Rattle.std.proofs.Common.{◌∙◌, sym}
use Rattle.cell_machine.proofs.Agreement.{agreed-unknown}
use Rattle.cell_machine.proofs.fillings.+forced_around.Goals as goal

pub returns-then-is_unknown : goal.returns-then-is_unknown
returns-then-is_unknown t c =
    let same = rw (c.with.ensures, c.get-value.ensures) at c.forced_around-same.ensures in
    rw c.in-Some.ensures.cases.0 (agreed-unknown _ _ _ same (sym c.is_unknown.ensures ∙ c.if-is_unknown.true))

pub returns : goal.returns
returns t c =
    let same = rw (c.with.ensures, c.get-value.ensures) at c.forced_around-same.ensures in
    let copy = rw (c.with-2.ensures, c.get-value.ensures) at c.copied-other.ensures in
    let other = rw copy at c.both_states-2.ensures in
    rw c.in-Some.ensures.cases.0 (rw (same, other) at c.agreed.ensures)
