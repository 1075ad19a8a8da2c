use Rattle.std.proofs.Common.{◌∙◌, ◌++◌, ◌∷◌, [], ap, refl}
use Rattle.cell_attributes.specs.Limits.{place_of_state}
use Rattle.cell_attributes.specs.Shown.{shown_state}
use Rattle.cell_attributes.proofs.Turns.{same_turn}
use Rattle.cell_reader.proofs.limits.add_states.Goals as goal

pub loop-state-preserved : goal.loop-state-preserved
loop-state-preserved c =
    same_turn (place_of_state c.args.group.now) shown_state c.args.group.now.at c.deref-state-items.result.now
    c.loop-state.state-index c.loop-state.offsets.items c.push.new.self.items (λ x. refl) c.loop-state-test.true
    (c.in_ok-push.ensures.items ∙ ap (λ y. c.loop-state.offsets.items ++ y ∷ []) c.place_of_state.ensures)
    ∙ c.loop-state.invariant
