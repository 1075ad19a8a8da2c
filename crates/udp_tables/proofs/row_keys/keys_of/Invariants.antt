use Rattle.std.proofs.Common.{◌≡◌, ◌++◌, map, drop}
use Rattle.udp_tables.specs.RowKeys.{row_key}
use Rattle.udp_tables.proofs.row_keys.keys_of.Given as goal

-- the keys so far and those of the rows that are left are the keys of all rows
abbrev pub invariant-loop-row : goal.invariant-loop-row
invariant-loop-row l = l.keys ++ map row_key (drop l.row-index l.row-items) ≡ map row_key l.udp.rows
