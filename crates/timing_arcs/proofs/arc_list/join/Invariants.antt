use Rattle.std.proofs.Common.{◌≡◌, take}
use Rattle.std.specs.List.{list_any}
use Rattle.timing_arcs.specs.Adding.{joined_with}
use Rattle.timing_arcs.specs.Merging.{same_path}
use Rattle.timing_arcs.specs.Shown.{arc_on}
use Rattle.timing_arcs.proofs.Lists.{changed}
use Rattle.timing_arcs.proofs.arc_list.join.Given as goal

-- the arcs so far are joined, the others are as they were, and one was found so far or not
abbrev pub invariant-loop-kept : goal.invariant-loop-kept
invariant-loop-kept l = record {
  arcs : l.arcs ≡ changed (joined_with (arc_on l.path)) l.kept-index l.initial.arcs;
  found : l.found ≡ list_any (same_path (arc_on l.path)) (take l.kept-index l.initial.arcs);
}
