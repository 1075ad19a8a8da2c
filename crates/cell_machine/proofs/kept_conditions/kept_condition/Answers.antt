use Rattle.std.proofs.Common.{◌≡◌, ap, ◌∙◌, sym, get_or, None}
use Rattle.cell_machine.specs.KeptConditions.{IsCondition, arc_condition}
use Rattle.cell_machine.proofs.KeptValues.{kept_at, kept_set}
use Rattle.cell_machine.proofs.kept_conditions.kept_condition.Goals as goal

pub returns-in-Some-clause-value : goal.returns-in-Some-clause-value
returns-in-Some-clause-value c =
    let cell = c.args.arcs.now.cell.now in
    kept_at (IsCondition cell.pins c.args.arcs.now.inputs.now cell.arcs) _ c.args.kept.now c.args.i None c.in-Some.value c.requires.kept c.requires.inside
    (ap (λ ks. get_or ks c.args.i None) (sym c.as_slice.ensures) ∙ c.in-Some.is)

pub returns-clause-kept : goal.returns-clause-kept
returns-clause-kept c =
    let cell = c.args.arcs.now.cell.now in
    let v = c.args.arcs.now.inputs.now in
    kept_set (IsCondition cell.pins v cell.arcs) _ c.args.kept.now c.args.i c.arc_condition-value.result c.set.new.self c.requires.kept
    c.requires.inside
    (λ arc e.
    let same : c.arc.result.now ≡ arc = cc (c.arc.ensures.is, e) in
    c.arc_condition-value.ensures
    ∙ (λ j. arc_condition (c.as_slice-2.ensures j) v ((same j).condition)))
    c.set.ensures
