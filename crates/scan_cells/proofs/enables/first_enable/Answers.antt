use Rattle.std.proofs.Common.{◌≡◌, ℕ, zero, suc, ◌≤◌, List, [], ◌∷◌, length, drop, map, None, is_some, refl, sym, ◌∙◌, ap, arith}
use Rattle.std.proofs.lemmas.Bool.{ltb-false}
use Rattle.liberty_groups.specs.declared.tree.Group.{Group}
use Rattle.scan_cells.specs.Enables.{first_enable}
use Rattle.scan_cells.proofs.enables.first_enable.Goals as goal

drop_past : (pins : List ℕ) (i : ℕ) → length pins ≤ i → drop i pins ≡ []
drop_past [] zero h = refl
drop_past [] (suc i) h = refl
drop_past (pin ∷ pins) zero h = absurd (omega (arith, h))
drop_past (pin ∷ pins) (suc i) h = drop_past pins i (omega (arith, h))

no_pins : (owners : List Group) → first_enable owners [] ≡ None
no_pins [] = refl
no_pins (owner ∷ owners) = refl

pub returns-in_default : goal.returns-in_default
returns-in_default c =
    let past : length c.args.pins.now ≤ c.loop-i.i =
    ltb-false c.loop-i.i (length c.args.pins.now) (sym c.get.ensures.lookup.0 ∙ ap is_some c.in_default.is) in
    let rest : List Group = map (λ owner. owner.now) (drop c.loop-i.i c.args.owners.now) in
    sym (ap (first_enable rest) (drop_past c.args.pins.now c.loop-i.i past) ∙ no_pins rest) ∙ c.loop-i.invariant
