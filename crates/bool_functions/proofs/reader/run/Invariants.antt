use Rattle.std.proofs.Common.{◌≡◌, drop}
use Rattle.bool_functions.specs.Machine.{run, start}
use Rattle.bool_functions.specs.State.{state_of}
use Rattle.bool_functions.proofs.reader.run.Given as goal

abbrev pub invariant-loop-at : goal.invariant-loop-at
invariant-loop-at l = run start l.symbols ≡ run (state_of l.reader) (drop l.at l.symbols)
