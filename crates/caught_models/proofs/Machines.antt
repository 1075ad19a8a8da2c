-- A simulator is caught as what it runs is.
use Rattle.std.proofs.Common.{◌≡◌, Bool, List, Result, IfOk, subst}
use Rattle.cell_machine.specs.declared.changes.Change.{Change}
use Rattle.cell_machine.specs.CellData.{CellData}
use Rattle.cell_machine.specs.CellTrace.{cell_trace}
use Rattle.cell_machine.specs.Lines.{Machine, trace}
use Rattle.caught_models.specs.Caught.{is_caught}

pub same-machine : {E : Type 0} (result : Result Bool E) (cell : CellData) (changes : List Change) (one other : Machine)
    → one ≡ other → IfOk result (λ caught. caught ≡ is_caught (cell_trace cell changes) (trace one.line changes))
    → IfOk result (λ caught. caught ≡ is_caught (cell_trace cell changes) (trace other.line changes))
same-machine result cell changes one other same =
    subst (λ (m : Machine). IfOk result (λ caught. caught ≡ is_caught (cell_trace cell changes) (trace m.line changes))) same
