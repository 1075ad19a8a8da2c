use Rattle.std.proofs.Common.{◌≡◌, drop, ◌++◌, map}
use Rattle.std.specs.Prelude.{flat_map}
use Rattle.three_state_cells.specs.PinAttributes.{counted}
use Rattle.three_state_cells.proofs.pin_attributes.add_counted.Given as goal

abbrev pub invariant-loop-name : goal.invariant-loop-name
invariant-loop-name l =
    l.found ++ flat_map (counted l.group) (map (λ name. name.now) (drop l.name-index l.names))
    ≡ l.initial.found ++ flat_map (counted l.group) (map (λ name. name.now) l.names)
