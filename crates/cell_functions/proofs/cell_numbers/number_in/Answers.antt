use Rattle.std.proofs.Common.{sym, ◌∙◌}
use Rattle.cell_attributes.specs.Shown.{shown_state}
use Rattle.cell_attributes.proofs.Turns.{number_turn}
use Rattle.cell_functions.proofs.cell_numbers.number_in.Goals as goal

pub loop-place-preserved : goal.loop-place-preserved
loop-place-preserved c =
    number_turn shown_state c.args.pins c.loop-place.place c.args.states.now c.args.name.now _ c.loop-place-test.true
    (sym c.eq.ensures ∙ c.if-eq.false) (sym c.is_second_name.ensures ∙ c.if-is_second_name.false)
    ∙ c.loop-place.invariant
