use Rattle.std.proofs.Common.{◌≡◌, ◌<◌, length, drop}
use Rattle.udp_tables.specs.Edges.{with_last}
use Rattle.udp_tables.specs.Pairs.{number_of}
use Rattle.udp_tables.proofs.cube_index.number_with.Given as goal

abbrev pub invariant-loop-left : goal.invariant-loop-left
invariant-loop-left l = (l.left < length l.cube) × (l.number ≡ number_of (drop l.left (with_last l.fn.state l.cube)))

abbrev pub decreases-loop-left : goal.decreases-loop-left
decreases-loop-left l = l.left
