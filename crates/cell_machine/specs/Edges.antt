-- Which changes of a value are events, and of which kind.
use Rattle.std.specs.Prelude.{Bool, true, false, not, if◌then◌else◌}
use Rattle.trit_cubes.specs.declared.trits.Trit.{Trit}
use Rattle.trit_cubes.specs.declared.trits.Trit.TheVariants.{Zero, One, Unknown}
use Rattle.trit_cubes.specs.Filling.{same}
use Rattle.cell_machine.specs.declared.checks.Edge.{Edge}
use Rattle.cell_machine.specs.declared.checks.Edge.TheVariants as edge

-- A possible rise: 0 to 1, 0 to X or X to 1. (IEEE 1364-2005, clause 9.7.2: posedge.)
abbrev pub is_rise : Trit → Trit → Bool
is_rise Zero One = true
is_rise Zero Unknown = true
is_rise Unknown One = true
is_rise _ _ = false

-- A possible fall: 1 to 0, 1 to X or X to 0. (IEEE 1364-2005, clause 9.7.2: negedge.)
abbrev pub is_fall : Trit → Trit → Bool
is_fall a b = is_rise b a

-- Whether a change from a to b is an event of this kind. A change to the same value is no event (this project's rule).
abbrev pub moves : Edge → Trit → Trit → Bool
moves edge.Any a b = not (same a b)
moves edge.Rise a b = is_rise a b
moves edge.Fall a b = is_fall a b

-- the kind, possible rise or possible fall, of an event from a to b
abbrev pub edge_of : Trit → Trit → Edge
edge_of a b = (if is_rise a b then edge.Rise else edge.Fall)
