use Rattle.std.proofs.Common.{◌≡◌, sym, ap, ◌∙◌, not}
use Rattle.cell_machine.specs.declared.arcs.Arc.{Arc}
use Rattle.cell_machine.specs.Places.{entries_at}
use Rattle.cell_machine.proofs.KeptValues.{active_by}
use Rattle.cell_machine.proofs.delays.is_active.Goals as goal

pub returns-in-Some-clause-active : goal.returns-in-Some-clause-active
returns-in-Some-clause-active c = λ arc e.
    let cell = c.args.arcs.now.cell.now in
    let same : c.arc-arc.result.now ≡ arc = cc (c.arc-arc.ensures.is, e) in
    ap not c.is_zero.ensures
    ∙ active_by cell.pins (entries_at cell.arcs c.args.places.now) c.args.arcs.now.inputs.now arc _ c.kept_condition.result
    (ap (λ (a : Arc). a.condition) (sym same) ∙ c.in-Some.is)
    (c.kept_condition.ensures.value arc e)
