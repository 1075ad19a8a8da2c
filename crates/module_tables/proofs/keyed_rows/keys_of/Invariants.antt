use Rattle.std.proofs.Common.{◌≡◌, ◌++◌, drop, length, map}
use Rattle.udp_tables.specs.RowKeys.{row_key}
use Rattle.module_tables.proofs.keyed_rows.keys_of.Given as goal

-- the keys so far, and those of the rows that are left
abbrev pub invariant-loop-row : goal.invariant-loop-row
invariant-loop-row l = record {
  whole : l.keys ++ map row_key (drop l.row-index l.rows) ≡ map row_key l.rows;
  len : length l.keys ≡ l.row-index;
}
