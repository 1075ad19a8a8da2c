-- The least of offsets that are there or not.
use Rattle.std.proofs.Common.{◌≡◌, ℕ, Bool, true, false, List, [], refl}
use Rattle.std.specs.Prelude.{None, if◌then◌else◌}
use Rattle.cell_machine.specs.Delay.{least}

pub least_if : (b : Bool) (xs : List ℕ) → least (if b then xs else []) ≡ (if b then least xs else None)
least_if true xs = refl
least_if false xs = refl
