use Rattle.std.proofs.Common.{◌≡◌, drop}
use Rattle.timing_arcs.specs.Adding.{with_items}
use Rattle.timing_arcs.proofs.pin_timing.add_groups.Given as goal

-- what is found so far, with the other items, is what is found with all
abbrev pub invariant-loop-place : goal.invariant-loop-place
invariant-loop-place l = with_items l.subject l.place l.found (drop l.place l.items) ≡ with_items l.subject 0 l.initial.found l.items
