use Rattle.std.proofs.Common.{◌∙◌, sym}
use Rattle.std.proofs.lemmas.List.{nil_from_length}
use Rattle.cell_machine.proofs.Agreement.{agreed-unknown}
use Rattle.cell_machine.proofs.evaluation.+chosen_from.Goals as goal

pub returns-in_default : goal.returns-in_default
returns-in_default t c =
    rw (nil_from_length c.args.rest.now c.in_default.ensures.cases) (rw c.value.ensures at c.from.ensures)

pub returns-in_default-first : goal.returns-in_default-first
returns-in_default-first t c = rw (c.in-Some.ensures.cases.0, c.in_default-first.is) c.chosen_from.ensures

pub returns-in-Zero : goal.returns-in-Zero
returns-in-Zero t c =
    rw (c.in-Some.ensures.cases.0, c.in-State.is, ← c.in-Zero.ensures)
    (rw (c.set.ensures, c.state_name-name.ensures.name) at c.chosen_from-in-Zero.ensures)

pub returns-in-One : goal.returns-in-One
returns-in-One t c =
    rw (c.in-Some.ensures.cases.0, c.in-State.is, ← c.in-One.ensures)
    (rw (c.set-in-One.ensures, c.state_name-name.ensures.name) at c.chosen_from-in-One.ensures)

pub returns-then-is_unknown : goal.returns-then-is_unknown
returns-then-is_unknown t c =
    let zero = rw (c.set-in-Unknown.ensures, c.state_name-name.ensures.name) at c.chosen_from-zero.ensures in
    rw (c.in-Some.ensures.cases.0, c.in-State.is, ← c.in-Unknown.ensures)
    (agreed-unknown _ _ _ zero (sym c.is_unknown.ensures ∙ c.if-is_unknown.true))

pub returns-else-is_unknown : goal.returns-else-is_unknown
returns-else-is_unknown t c =
    let zero = rw (c.set-in-Unknown.ensures, c.state_name-name.ensures.name) at c.chosen_from-zero.ensures in
    let one = rw (c.set-in-Unknown-2.ensures, c.state_name-name.ensures.name) at c.chosen_from-one.ensures in
    rw (c.in-Some.ensures.cases.0, c.in-State.is, ← c.in-Unknown.ensures) (rw (zero, one) at c.agreed.ensures)
