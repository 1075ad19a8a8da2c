use Rattle.std.proofs.Common.{◌≡◌, ℕ, ◌+◌, ◌*◌, ◌<◌, map, length}
use Rattle.std.specs.List.{range_with_len}
use Rattle.statetables.specs.Lanes.{lane}
use Rattle.step_tables.proofs.input_words.place_words.Given as goal

-- the places so far
abbrev pub invariant-loop-place : goal.invariant-loop-place
invariant-loop-place l = record {
  len : length l.words ≡ l.place;
  are : (k : ℕ) → k < 64 → map (lane k) l.words ≡ map (λ i. lane i (64 * l.block + k)) (range_with_len 0 l.place);
}
