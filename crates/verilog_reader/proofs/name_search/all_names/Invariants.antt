use Rattle.std.proofs.Common.{take}
use Rattle.first_names.specs.Places.{FindsFirst}
use Rattle.verilog_reader.proofs.name_search.all_names.Given as goal

abbrev pub invariant-loop-number : goal.invariant-loop-number
invariant-loop-number g l = FindsFirst g.T.Named.name_of l.found (take l.number l.things)
