-- The delays of a model's paths that are kept.
use Rattle.std.specs.Prelude.{◌≡◌, ℕ, ◌≤◌, Bool, List, Option, Some, map, slice_get}
use Rattle.trit_cubes.specs.declared.trits.Trit.{Trit}
use Rattle.trit_cubes.specs.declared.trits.Trit.TheVariants.{Zero, One}
use Rattle.cell_machine.specs.Delay.{Path, least_delay}
use Rattle.cell_machine.specs.Outputs.{is_zero}
use Rattle.run_parts.specs.declared.kept_delay.KeptDelay.{KeptDelay}
use Rattle.run_parts.specs.declared.kept_delays.KeptDelays.{KeptDelays}

-- A delay that was found at this turn is that of a change from a to b by the paths from its input to its output, and none was
-- found at a later turn.
pub record IsFound (a b : Trit) (paths : ℕ → ℕ → List Path) (turn : Option ℕ) (found : KeptDelay) : Type 0 where
  pub right : turn ≡ Some found.turn → found.delay ≡ least_delay a b (paths found.output found.input)
  pub before : (last : ℕ) → turn ≡ Some last → found.turn ≤ last

-- the same of each of these
abbrev pub AreFound : Trit → Trit → (ℕ → ℕ → List Path) → Option ℕ → List KeptDelay → Type 0
AreFound a b paths turn all = (place : ℕ) (found : KeptDelay) → slice_get all place ≡ Some found → IsFound a b paths turn found

-- what is kept are the least rises and the least falls of these paths, which are given by output and input
pub record AreKept (paths : ℕ → ℕ → List Path) (kept : KeptDelays) : Type 0 where
  pub rises : AreFound Zero One paths kept.turn kept.rises
  pub falls : AreFound One Zero paths kept.turn kept.falls

-- which of these values are 0
abbrev pub zeros : List Trit → List Bool
zeros values = map is_zero values
