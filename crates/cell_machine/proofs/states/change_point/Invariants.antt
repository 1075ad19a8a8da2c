use Rattle.std.proofs.Common.{◌≡◌, ◌+◌, ◌++◌, ◌∷◌, drop, length, map}
use Rattle.cell_machine.specs.Inputs.{numbered_value}
use Rattle.cell_machine.proofs.states.change_point.Given as goal

-- the values so far and those of the rest stand behind the two of the change
abbrev pub invariant-loop-other : goal.invariant-loop-other
invariant-loop-other l = record {
  whole :
      l.point ++ map (numbered_value l.seen.inputs.now) (drop l.other-index l.others)
      ≡ l.seen.from ∷ l.seen.change.to ∷ map (numbered_value l.seen.inputs.now) l.others;
  len : length l.point ≡ l.other-index + 2;
}
