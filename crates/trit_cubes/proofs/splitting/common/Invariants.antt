use Rattle.std.proofs.Common.{◌≡◌, ℕ, ◌<◌, ◌&&◌, vec_len, slice_index_or, false}
use Rattle.trit_cubes.proofs.splitting.common.Given as goal

abbrev pub invariant-loop-k : goal.invariant-loop-k
invariant-loop-k l =
    (vec_len l.points ≡ l.k)
    × ((j : ℕ) → j < l.k → slice_index_or l.points.items j false ≡ (slice_index_or l.one j false && slice_index_or l.other j false))
