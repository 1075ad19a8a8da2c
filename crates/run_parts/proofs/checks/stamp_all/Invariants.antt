use Rattle.std.proofs.Common.{◌≡◌, ◌++◌, take, drop, length}
use Rattle.cell_machine.specs.Each.{each}
use Rattle.run_parts.specs.CheckTimes.{stamped}
use Rattle.run_parts.proofs.checks.stamp_all.Given as goal

-- the kept times so far and the new ones of the rest give the new ones of all
abbrev pub invariant-loop-i : goal.invariant-loop-i
invariant-loop-i l = record {
  whole :
      take l.i l.stamps ++ each (stamped l.seen.ports.list.now l.seen.from l.seen.change) (drop l.i l.checks) (drop l.i l.stamps)
      ≡ each (stamped l.seen.ports.list.now l.seen.from l.seen.change) l.checks l.initial.stamps;
  len : length l.stamps ≡ length l.initial.stamps;
}
