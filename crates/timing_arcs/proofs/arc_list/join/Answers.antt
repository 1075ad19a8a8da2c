use Rattle.std.proofs.Common.{◌≡◌, List, sym, ap, ◌∙◌, ◌||◌, set, get_or, add-one}
use Rattle.cell_machine.specs.declared.arcs.Arc.{Arc}
use Rattle.timing_arcs.specs.Adding.{joined_with}
use Rattle.timing_arcs.specs.Merging.{same_path}
use Rattle.timing_arcs.specs.Shown.{arc_on}
use Rattle.timing_arcs.proofs.Lists.{changed, set_next, any_next}
use Rattle.timing_arcs.proofs.arc_list.join.Goals as goal

pub loop-kept-preserved : goal.loop-kept-preserved
loop-kept-preserved c =
    let i = c.loop-kept.kept-index in
    let x = c.kept-item.result in
    let arcs : List Arc = c.args.arcs.now in
    let f : Arc → Arc = joined_with (arc_on c.args.path.now) in
    let at : x ≡ get_or (changed f i arcs) i x = c.kept-item.is ∙ ap (λ (ys : List Arc). get_or ys i x) c.loop-kept.invariant.arcs in record {
      arcs =
          rw add-one
          (ap (set c.loop-kept.arcs i) (c.join_one-found.ensures.kept ∙ ap f (sym c.kept-item.is))
          ∙ ap (λ (ys : List Arc). set ys i (f x)) c.loop-kept.invariant.arcs
          ∙ set_next f arcs i x c.loop-kept-test.true at);
      found =
          rw add-one
          (ap (λ b. c.loop-kept.found || b) (c.join_one-found.ensures.same ∙ ap (same_path (arc_on c.args.path.now)) (sym c.kept-item.is))
          ∙ ap (λ b. b || same_path (arc_on c.args.path.now) x) c.loop-kept.invariant.found
          ∙ sym (any_next f (same_path (arc_on c.args.path.now)) arcs i x c.loop-kept-test.true at));
    }
