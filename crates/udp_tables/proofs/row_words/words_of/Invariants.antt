use Rattle.std.proofs.Common.{◌≡◌, ◌≤◌, length, map, drop}
use Rattle.udp_tables.specs.RowWords.{words_of}
use Rattle.udp_tables.proofs.row_words.words_of.Given as goal

-- the words of the columns behind those that are left
abbrev pub invariant-loop-left : goal.invariant-loop-left
invariant-loop-left g l = record {
  within : l.left ≤ length l.columns;
  words : l.words ≡ words_of (map g.C.Column.level (drop l.left l.columns));
}

abbrev pub decreases-loop-left : goal.decreases-loop-left
decreases-loop-left g l = l.left
