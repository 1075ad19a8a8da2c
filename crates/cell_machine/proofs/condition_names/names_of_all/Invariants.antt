use Rattle.std.proofs.Common.{◌≡◌, take, map}
use Rattle.cell_machine.specs.CellTrace.{condition_names}
use Rattle.cell_machine.proofs.condition_names.names_of_all.Given as goal

-- the names of the entries so far
abbrev pub invariant-loop-entry : goal.invariant-loop-entry
invariant-loop-entry g l = l.all ≡ map (λ entry. condition_names (g.C.Conditional.condition_of entry)) (take l.entry-index l.entry-items)
