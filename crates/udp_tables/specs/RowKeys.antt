-- What look-ups know of a primitive's rows before they read the entries. (This project's choice.)
use Rattle.udp_tables.specs.declared.table.Level.{Level}
use Rattle.udp_tables.specs.declared.table.Level.TheVariants as level
use Rattle.udp_tables.specs.declared.table.Entry.{Entry}
use Rattle.udp_tables.specs.declared.table.Entry.TheVariants as entry
use Rattle.udp_tables.specs.declared.table.UdpRow.{UdpRow}
use Rattle.udp_tables.specs.declared.row_keys.RowKey.{RowKey}
use Rattle.udp_tables.specs.RowWords.{row_words}
use Rattle.udp_tables.specs.Sequential.{is_level_row}

-- A level that the value after a change has wherever the entry matches it. `p` and `n` allow two values each that are no level.
abbrev pub level_after : Entry → Level
level_after (entry.Level l) = l
level_after (entry.Pair v w) = w
level_after entry.R = level.One
level_after entry.F = level.Zero
level_after entry.P = level.Any
level_after entry.N = level.Any
level_after entry.Star = level.Any

-- the key of a row
abbrev pub row_key : UdpRow → RowKey
row_key row = record { words = row_words level_after row.inputs; of_levels = is_level_row row }
