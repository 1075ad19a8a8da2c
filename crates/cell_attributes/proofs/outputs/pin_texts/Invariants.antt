use Rattle.std.proofs.Common.{◌≡◌, ◌++◌, map, drop}
use Rattle.cell_attributes.specs.Outputs.{pin_text}
use Rattle.cell_attributes.specs.Shown.{shown_vocabulary}
use Rattle.cell_attributes.proofs.outputs.pin_texts.Given as goal

abbrev pub invariant-loop-pin : goal.invariant-loop-pin
invariant-loop-pin l = l.texts ++ map (pin_text (shown_vocabulary l.vocabulary)) (map (λ group. group.now) (drop l.pin-index l.pins)) ≡ map (pin_text (shown_vocabulary l.vocabulary)) (map (λ group. group.now) l.pins)
