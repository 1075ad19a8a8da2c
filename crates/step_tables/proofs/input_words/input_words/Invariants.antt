use Rattle.std.proofs.Common.{◌≡◌, ℕ, map, length, take}
use Rattle.statetables.specs.Lanes.{lane, before_at, after_at}
use Rattle.cell_machine.specs.Values.{no_values, written, picked}
use Rattle.step_tables.proofs.input_words.input_words.Given as goal

-- the columns so far
abbrev pub invariant-loop-name : goal.invariant-loop-name
invariant-loop-name l = record {
  len : length l.words ≡ l.name-index;
  early : (k : ℕ) → before_at k l.words ≡ picked (written no_values l.support (map (lane k) l.before)) (take l.name-index l.names);
  late : (k : ℕ) → after_at k l.words ≡ picked (written no_values l.support (map (lane k) l.after)) (take l.name-index l.names);
}
