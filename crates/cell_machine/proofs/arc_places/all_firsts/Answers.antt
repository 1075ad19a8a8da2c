use Rattle.std.proofs.Common.{ℕ, ◌++◌, ◌∷◌, [], ◌∙◌, sym, arith}
use Rattle.std.specs.Prelude.{flat_map}
use Rattle.std.proofs.lemmas.List.FromFn.{map-range_with_len_more}
use Rattle.cell_machine.specs.ArcPlaces.{first_naming}
use Rattle.cell_machine.proofs.arc_places.all_firsts.Goals as goal

pub loop-input-preserved : goal.loop-input-preserved
loop-input-preserved c =
    let at = λ (input : ℕ). flat_map (flat_map (first_naming c.args.pins.now c.args.named.now input)) c.args.between.now in
    c.in_ok-push.ensures.ok
    ∙ (λ j. c.loop-input.invariant j ++ c.in_ok-firsts.ensures j ∷ [])
    ∙ sym (map-range_with_len_more at 0 c.loop-input.input c.loop-input.input (omega arith))
