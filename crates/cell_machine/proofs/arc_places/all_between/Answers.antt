use Rattle.std.proofs.Common.{◌++◌, ◌∷◌, [], ◌∙◌, sym, arith}
use Rattle.std.proofs.lemmas.List.FromFn.{map-range_with_len_more}
use Rattle.cell_machine.specs.CellData.{data_of}
use Rattle.cell_machine.specs.ArcPlaces.{arcs_from}
use Rattle.cell_machine.proofs.arc_places.all_between.Goals as goal

pub loop-input-preserved : goal.loop-input-preserved
loop-input-preserved c =
    c.in_ok-push.ensures.ok
    ∙ (λ j. c.loop-input.invariant j ++ c.in_ok-arcs_from.ensures j ∷ [])
    ∙ sym (map-range_with_len_more (arcs_from (data_of c.args.cell.now)) 0 c.loop-input.input c.loop-input.input (omega arith))
