-- The delay that one path gives, as the code looks for the least of them.
use Rattle.std.specs.Prelude.{ℕ, Bool, ◌&&◌, List, map, filter, Option, Some, None, if◌then◌else◌}
use Rattle.trit_cubes.specs.declared.trits.Trit.{Trit}
use Rattle.cell_machine.specs.Delay.{Path, path_delay, active_delays, least}
pub use Rattle.cell_machine.specs.Delay.{least_delay}

-- the delay of a change from a to b by one path, there where it leads to the output and is active
abbrev pub path_delay_of : {X : Type 0} → (X → Bool) → (X → Path) → Trit → Trit → X → Option ℕ
path_delay_of leads path a b x = if leads x && (path x).active then Some (path_delay a b (path x)) else None

-- the least over those that lead to the output and are active
abbrev pub least_of : {X : Type 0} → (X → Bool) → (X → Path) → Trit → Trit → List X → Option ℕ
least_of leads path a b xs = least (active_delays a b (map path (filter leads xs)))
