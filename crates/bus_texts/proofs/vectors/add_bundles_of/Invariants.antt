use Rattle.std.proofs.Common.{◌≡◌, drop, ◌++◌, map}
use Rattle.bus_texts.specs.Vectors.{bundle_named}
use Rattle.bus_texts.proofs.vectors.add_bundles_of.Given as goal

abbrev pub invariant-loop-name : goal.invariant-loop-name
invariant-loop-name l =
    l.found ++ map (bundle_named l.members) (drop l.name-index l.names) ≡ l.initial.found ++ map (bundle_named l.members) l.names
