-- A gathered group is read as the expanded one.
use Rattle.std.proofs.Common.{◌≡◌, ℕ, List, Option, None, Result, IfOk, IfErr, sym, subst}
use Rattle.liberty_text.specs.declared.time.Unit.{Unit}
use Rattle.liberty_groups.specs.declared.tree.Group.{Group}
use Rattle.cell_reader.specs.declared.fault.CellFault.{CellFault}
use Rattle.cell_reader.specs.CellTexts.{Tells}
use Rattle.three_state_cells.specs.declared.driven_cell.DrivenCell.{DrivenCell}
use Rattle.three_state_cells.specs.DrivenCells.{driven_data, driven_data_of}
use Rattle.three_state_cells.specs.Refusals.{driven_refusal}
use Rattle.bus_texts.specs.declared.bus_types.BusType.{BusType}
use Rattle.bank_cells.specs.Expanded.{expanded}
use Rattle.bank_cells.specs.Gathered.{gathered}
use Rattle.three_state_cells.specs.Gathering.{IsReadAs}
use Rattle.three_state_cells.proofs.Members.{gathered_read}

module _
    (types : List BusType) (cell group : Group) (unit : Option Unit) (number : ℕ) (earlier : List (List ℕ))
    (result : Result DrivenCell CellFault)
    (is : group ≡ gathered types cell) where
  alike : IsReadAs group (expanded types cell)
  alike = subst (λ g. IsReadAs g (expanded types cell)) (sym is) (gathered_read types cell)

  pub same_cell : IfOk result (λ (driven : DrivenCell). driven_data_of driven ≡ driven_data unit number group)
      → IfOk result (λ (driven : DrivenCell). driven_data_of driven ≡ driven_data unit number (expanded types cell))
  same_cell = subst (λ read. IfOk result (λ (driven : DrivenCell). driven_data_of driven ≡ read)) (alike.same_data unit number)

  pub same_accepted : IfOk result (λ (driven : DrivenCell). driven_refusal unit earlier group ≡ None)
      → IfOk result (λ (driven : DrivenCell). driven_refusal unit earlier (expanded types cell) ≡ None)
  same_accepted = subst (λ refusal. IfOk result (λ (driven : DrivenCell). refusal ≡ None)) (alike.same_refusal unit earlier)

  pub same_refused : IfErr result (Tells (driven_refusal unit earlier group))
      → IfErr result (Tells (driven_refusal unit earlier (expanded types cell)))
  same_refused = subst (λ refusal. IfErr result (Tells refusal)) (alike.same_refusal unit earlier)
