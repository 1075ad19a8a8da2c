use Rattle.std.proofs.Common.{◌≡◌, ◌++◌, map, drop}
use Rattle.udp_tables.specs.Pairs.{number_of}
use Rattle.udp_tables.proofs.cube_index.cube_numbers.Given as goal

abbrev pub invariant-loop-cube : goal.invariant-loop-cube
invariant-loop-cube l = l.numbers.items ++ map number_of (drop l.cube-index l.cubes) ≡ map number_of l.cubes
