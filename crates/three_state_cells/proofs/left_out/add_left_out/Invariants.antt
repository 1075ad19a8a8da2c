use Rattle.std.proofs.Common.{◌≡◌, ◌++◌, map, drop}
use Rattle.core_groups.specs.Outputs.{shown}
use Rattle.three_state_cells.specs.Timing.{left_out_as}
use Rattle.three_state_cells.proofs.left_out.add_left_out.Given as goal

abbrev pub invariant-loop-place : goal.invariant-loop-place
invariant-loop-place l = l.found ++ map (left_out_as (shown l.output)) (drop l.place-index l.places) ≡ l.initial.found ++ map (left_out_as (shown l.output)) l.places
