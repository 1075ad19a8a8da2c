use Rattle.std.proofs.Common.{◌≡◌, ◌≤◌, length, map, drop}
use Rattle.udp_tables.specs.RowWords.{level_of, words_of}
use Rattle.udp_tables.proofs.row_words.word_of.Given as goal

-- the word of the values behind those that are left
abbrev pub invariant-loop-left : goal.invariant-loop-left
invariant-loop-left l = record {
  within : l.left ≤ length l.values;
  word : l.word ≡ (words_of (map level_of (drop l.left l.values))).values;
}

abbrev pub decreases-loop-left : goal.decreases-loop-left
decreases-loop-left l = l.left
