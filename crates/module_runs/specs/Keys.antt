-- The keys of the rows of a module's primitives, by which its tables are looked up.
use Rattle.std.specs.Prelude.{List, map}
use Rattle.udp_tables.specs.declared.table.Udp.{Udp}
use Rattle.udp_tables.specs.declared.row_keys.RowKey.{RowKey}
use Rattle.udp_tables.specs.RowKeys.{row_key}

-- the keys of a primitive's rows
abbrev pub udp_keys : Udp → List RowKey
udp_keys udp = map row_key udp.rows
