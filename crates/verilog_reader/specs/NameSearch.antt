-- The names by which things of a module are found.
use Rattle.std.specs.Prelude.{ℕ, List}
use Rattle.udp_tables.specs.declared.table.Udp.{Udp}

-- the name of a primitive
abbrev pub udp_name : Udp → List ℕ
udp_name udp = udp.name

-- what is a name itself
abbrev pub own_name : List ℕ → List ℕ
own_name name = name
