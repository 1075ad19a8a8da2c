-- The symbols of a primitive's table, by IEEE 1364-2005, table 8-1.
use Rattle.std.specs.Prelude.{ℕ, List, ◌++◌, codes}
use Rattle.udp_tables.specs.declared.table.Level.{Level}
use Rattle.udp_tables.specs.declared.table.Level.TheVariants as level
use Rattle.udp_tables.specs.declared.table.Entry.{Entry}
use Rattle.udp_tables.specs.declared.table.Entry.TheVariants as entry
use Rattle.udp_tables.specs.declared.table.Next.{Next}
use Rattle.udp_tables.specs.declared.table.Next.TheVariants as next

-- the symbol of a level
abbrev pub level_text : Level → List ℕ
level_text l =
    elim l [
      | level.Zero ↦ codes "0"
      | level.One ↦ codes "1"
      | level.Unknown ↦ codes "x"
      | level.Any ↦ codes "?"
      | level.Binary ↦
          codes "b"
    ]

-- the entry of one input: a level, a change from one level to another in brackets, or the symbol of a change
abbrev pub entry_text : Entry → List ℕ
entry_text (entry.Level level) = level_text level
entry_text (entry.Pair before after) = codes "(" ++ (level_text before ++ (level_text after ++ codes ")"))
entry_text entry.R = codes "r"
entry_text entry.F = codes "f"
entry_text entry.P = codes "p"
entry_text entry.N = codes "n"
entry_text entry.Star = codes "*"

-- the symbol of what a row gives
abbrev pub next_text : Next → List ℕ
next_text next.Zero = codes "0"
next_text next.One = codes "1"
next_text next.Unknown = codes "x"
next_text next.Keep = codes "-"
