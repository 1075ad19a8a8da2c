use Rattle.std.proofs.Common.{◌≡◌, drop}
use Rattle.std.specs.Prelude.{flat_map}
use Rattle.std.specs.List.{fold}
use Rattle.bank_cells.specs.Gathered.{gathered_item}
use Rattle.bank_cells.proofs.gathered.add_all_gathered.Given as goal

abbrev pub invariant-loop-item : goal.invariant-loop-item
invariant-loop-item g l =
    fold g.S.ItemSink.after l.found (flat_map (gathered_item l.types l.vectors) (drop l.item-index l.items))
    ≡ fold g.S.ItemSink.after l.initial.found (flat_map (gathered_item l.types l.vectors) l.items)
