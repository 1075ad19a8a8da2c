use Rattle.std.proofs.Common.{◌≡◌, drop}
use Rattle.bool_functions.specs.Support.{insert_all}
use Rattle.cell_functions.proofs.sources.insert_all.Given as goal

abbrev pub invariant-loop-i : goal.invariant-loop-i
invariant-loop-i l = insert_all l.found.items (drop l.i-index l.numbers) ≡ insert_all l.initial.found.items l.numbers
