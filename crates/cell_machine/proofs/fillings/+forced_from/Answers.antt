use Rattle.std.proofs.Common.{◌∙◌, sym}
use Rattle.cell_machine.proofs.Agreement.{agreed-unknown}
use Rattle.cell_machine.proofs.fillings.+forced_from.Goals as goal

pub returns-then-is_unknown : goal.returns-then-is_unknown
returns-then-is_unknown t c =
    let zero = rw c.set-in-Unknown.ensures at c.forced_from-zero.ensures in
    rw (c.in-Some-Some.ensures.cases.0, c.in-Some-Some.ensures'.cases.0, c.in-Unknown.is)
    (agreed-unknown _ _ _ zero (sym c.is_unknown.ensures ∙ c.if-is_unknown.true))

pub returns-else-is_unknown : goal.returns-else-is_unknown
returns-else-is_unknown t c =
    let zero = rw c.set-in-Unknown.ensures at c.forced_from-zero.ensures in
    let one = rw c.set-in-Unknown-2.ensures at c.forced_from-one.ensures in
    rw (c.in-Some-Some.ensures.cases.0, c.in-Some-Some.ensures'.cases.0, c.in-Unknown.is) (rw (zero, one) at c.agreed.ensures)
