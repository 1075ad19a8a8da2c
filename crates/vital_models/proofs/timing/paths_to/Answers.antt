use Rattle.std.proofs.Common.{◌≡◌, ◌<◌, [], ◌∷◌, ◌++◌, nat_eq, length, get_or, sym, ◌∙◌, ap, subst}
use Rattle.cell_machine.specs.declared.arcs.Arc.{Arc}
use Rattle.cell_machine.specs.CellData.{data_of}
use Rattle.vital_models.specs.Generated.{path_of}
use Rattle.vital_models.proofs.ListLemmas.{filter-more, filter-less}
use Rattle.vital_models.proofs.timing.paths_to.Goals as goal
use Rattle.vital_models.proofs.timing.paths_to.Goals.{then-ends_at+in_ok-path_of+in_ok-push, else-ends_at}

pub loop-arc-preserved : goal.loop-arc-preserved
loop-arc-preserved c =
    let arcs = c.args.from.now.cell.now.arcs in
    let i = c.loop-arc.arc-index in
    let arc : Arc = c.arc-item.result in
    let make = path_of (data_of c.args.from.now.cell.now) in
    let test = λ (arc : Arc). nat_eq arc.to c.args.pin in
    let within : i < length arcs = subst (λ xs. i < length xs) c.as_slice-arc-items.ensures c.loop-arc-test.true in
    let is : arc ≡ get_or arcs i arc = subst (λ xs. arc ≡ get_or xs i arc) c.as_slice-arc-items.ensures c.arc-item.is in
    elim c.if-ends_at.branch [
      | then-ends_at+in_ok-path_of+in_ok-push w ↦
          rw w.paths-is
          (filter-more make test arcs i arc c.loop-arc.paths w.push.new.self within is (sym c.ends_at.ensures ∙ w.if-ends_at.true)
          (w.in_ok-push.ensures.ok ∙ ap (λ path. c.loop-arc.paths ++ path ∷ []) w.in_ok-path_of.ensures)
          ∙ c.loop-arc.invariant)
      | else-ends_at w ↦
          rw w.paths-is
          (filter-less make test arcs i arc c.loop-arc.paths within is (sym c.ends_at.ensures ∙ w.if-ends_at.false) ∙ c.loop-arc.invariant)
    ]
