use Rattle.std.proofs.Common.{ℕ, ◌++◌, ◌∷◌, [], ◌∙◌, sym, arith}
use Rattle.std.proofs.lemmas.List.FromFn.{map-range_with_len_more}
use Rattle.cell_machine.specs.KeptConditions.{names_input}
use Rattle.cell_machine.specs.Places.{places_from}
use Rattle.cell_machine.proofs.arc_places.all_naming.Goals as goal

pub loop-input-preserved : goal.loop-input-preserved
loop-input-preserved c =
    let at = λ (input : ℕ). places_from (names_input c.args.pins.now input) 0 c.args.named.now in
    c.in_ok-push.ensures.ok
    ∙ (λ j. c.loop-input.invariant j ++ c.in_ok-naming.ensures j ∷ [])
    ∙ sym (map-range_with_len_more at 0 c.loop-input.input c.loop-input.input (omega arith))
