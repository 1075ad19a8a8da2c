use Rattle.std.proofs.Common.{◌≡◌, ◌-◌, ◌≤◌, ◌++◌, length, map, drop}
use Rattle.bus_texts.specs.Parts.{shown, parts_of}
use Rattle.bus_texts.proofs.parts.parts.Given as goal

-- the parts so far, with those of the rest, are all
abbrev pub invariant-loop-at : goal.invariant-loop-at
invariant-loop-at l = record {
  within : l.at ≤ length l.text;
  done : map shown l.parts.items ++ parts_of (drop l.at l.text) ≡ parts_of l.text;
}

abbrev pub decreases-loop-at : goal.decreases-loop-at
decreases-loop-at l = length l.text - l.at
