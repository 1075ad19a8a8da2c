use Rattle.std.proofs.Common.{◌≡◌, ℕ, ◌+◌, ◌*◌, ◌<◌, vec_len, slice_index_or, false}
use Rattle.trit_cubes.specs.Filling.{bit}
use Rattle.trit_cubes.proofs.splitting.half.Given as goal

abbrev pub invariant-loop-k : goal.invariant-loop-k
invariant-loop-k l =
    (vec_len l.points ≡ l.k) × (l.offset ≡ bit l.first)
    × ((j : ℕ) → j < l.k → slice_index_or l.points.items j false ≡ slice_index_or l.set (2 * j + bit l.first) false)
