use Rattle.std.proofs.Common.{◌≡◌, ℕ, List, IsTrue, IfOk, sym, subst, arith}
use Rattle.cell_machine.specs.CellRules.{is_name}
use Rattle.three_state_cells.specs.declared.read.Made.{Made}
use Rattle.three_state_cells.specs.DrivenCells.{core_name}
use Rattle.three_state_cells.proofs.CoreNames.{core_name_is_name}
use Rattle.three_state_cells.proofs.read.floating_cell.Goals as goal

pub driven_by-requires-clause-name : goal.driven_by-requires-clause-name
driven_by-requires-clause-name c =
    let named : c.in_ok-read.made.core_name ≡ core_name c.args.number =
    subst (λ made. IfOk made (λ (m : Made). m.core_name ≡ core_name c.args.number)) c.in_ok-read.ensures.made c.names_and_left_out-made.ensures.core_name in
    subst (λ (name : List ℕ). IsTrue (is_name name)) (sym named) (core_name_is_name c.args.number (omega arith))
