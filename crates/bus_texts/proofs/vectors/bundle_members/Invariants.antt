use Rattle.std.proofs.Common.{◌≡◌, drop, ◌++◌}
use Rattle.std.specs.Prelude.{flat_map}
use Rattle.bus_texts.specs.Vectors.{members_in}
use Rattle.bus_texts.proofs.vectors.bundle_members.Given as goal

abbrev pub invariant-loop-item : goal.invariant-loop-item
invariant-loop-item l =
    l.members ++ flat_map members_in (drop l.item-index l.bundle.items) ≡ flat_map members_in l.bundle.items
