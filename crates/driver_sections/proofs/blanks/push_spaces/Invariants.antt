use Rattle.std.proofs.Common.{◌≡◌, ◌-◌, ◌++◌, replicate}
use Rattle.driver_sections.proofs.blanks.push_spaces.Given as goal

abbrev pub invariant-loop-i : goal.invariant-loop-i
invariant-loop-i l = l.rest.items ++ replicate (l.count - l._i) 32 ≡ l.initial.rest.items ++ replicate l.count 32
