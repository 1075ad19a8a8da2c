-- Lists with the same names.
use Rattle.std.specs.Prelude.{◌≡◌, ℕ, List}
use Rattle.udp_tables.specs.VerilogRules.{is_among}

-- a name is among the first exactly where it is among the others
abbrev pub HaveSame : List (List ℕ) → List (List ℕ) → Type 0
HaveSame names others = (name : List ℕ) → is_among names name ≡ is_among others name
