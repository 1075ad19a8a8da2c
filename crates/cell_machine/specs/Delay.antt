-- The delay of an output's change.
use Rattle.std.specs.Prelude.{ℕ, min, Bool, List, [], ◌∷◌, map, filter, Option, Some, None, unwrap_or, if◌then◌else◌}
use Rattle.trit_cubes.specs.declared.trits.Trit.{Trit}
use Rattle.cell_machine.specs.Edges.{is_rise}

-- A path to an output as its delay is chosen: whether it is active, and its delays in picoseconds. Arcs of cells and
-- paths of models are seen so.
pub record Path : Type 0 where
  pub active : Bool
  pub rise : ℕ
  pub fall : ℕ

-- the lesser of two numbers, of which each may be absent
abbrev pub lesser : Option ℕ → Option ℕ → Option ℕ
lesser None o = o
lesser (Some x) None = Some x
lesser (Some x) (Some y) = Some (min x y)

-- the least of these numbers, where there is one
abbrev pub least : List ℕ → Option ℕ
least [] = None
least (x ∷ xs) = lesser (Some x) (least xs)

-- a path's delay of a change from a to b: its rise at a possible rise, else its fall
abbrev pub path_delay : Trit → Trit → Path → ℕ
path_delay a b path = (if is_rise a b then path.rise else path.fall)

-- the delays of the active paths
abbrev pub active_delays : Trit → Trit → List Path → List ℕ
active_delays a b paths = map (path_delay a b) (filter (λ (path : Path). path.active) paths)

-- The delay of an output's change from a to b: the least over the active paths, 0 where none is active. (IEEE
-- 1364-2005, clause 14.3.3, and IEEE 1076.4-2000, VitalPathDelay01, as this project reads them.)
abbrev pub least_delay : Trit → Trit → List Path → ℕ
least_delay a b paths = unwrap_or (least (active_delays a b paths)) 0
