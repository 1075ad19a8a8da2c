use Rattle.std.proofs.Common.{◌≡◌, drop, map}
use Rattle.std.specs.List.{list_all}
use Rattle.three_state_cells.specs.Trimmed.{stands_behind}
use Rattle.three_state_cells.proofs.trimming.all_stand_behind.Given as goal

abbrev pub invariant-loop-owner : goal.invariant-loop-owner
invariant-loop-owner l =
    list_all (stands_behind l.at) (map (λ owner. owner.now) (drop l.owner-index l.owners))
    ≡ list_all (stands_behind l.at) (map (λ owner. owner.now) l.owners)
