use Rattle.std.proofs.Common.{◌≡◌, ◌*◌, map}
use Rattle.std.specs.List.{range_with_len}
use Rattle.trit_cubes.specs.Filling.{number}
use Rattle.scan_cells.specs.Weights.{weighed}
use Rattle.scan_cells.proofs.numbering.numbers_of.Given as goal

-- the numbers so far
abbrev pub invariant-loop-k : goal.invariant-loop-k
invariant-loop-k l = l.numbers ≡ map (λ k. number (weighed l.weights (l.unit * k))) (range_with_len 0 l.k)
