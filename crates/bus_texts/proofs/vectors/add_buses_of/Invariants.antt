use Rattle.std.proofs.Common.{◌≡◌, drop, ◌++◌, map}
use Rattle.bus_texts.specs.Vectors.{bus_named}
use Rattle.bus_texts.proofs.vectors.add_buses_of.Given as goal

abbrev pub invariant-loop-name : goal.invariant-loop-name
invariant-loop-name l =
    l.found ++ map (bus_named l.bits) (drop l.name-index l.names) ≡ l.initial.found ++ map (bus_named l.bits) l.names
