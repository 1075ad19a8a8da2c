-- The entries of a row.
use Rattle.std.specs.Prelude.{List}
use Rattle.udp_tables.specs.declared.table.Entry.{Entry}
use Rattle.udp_tables.specs.declared.entries.HeldEntries.{HeldEntries}
use Rattle.udp_tables.specs.declared.entries.HeldEntries.TheVariants.{InPlace, Listed}

abbrev pub held_entries : HeldEntries → List Entry
held_entries (InPlace entries) = entries
held_entries (Listed entries) = entries
