use Rattle.std.proofs.Common.{sym, ◌∙◌}
use Rattle.cell_tables.proofs.CubeRows.{change-row}
use Rattle.cell_tables.proofs.step_rows.change_row.Goals as goal

pub returns : goal.returns
returns g c =
    let place = g.M.Symbol.PlaceSymbol.of_place in
    let change = g.M.StepRows.of_change in
    let row = g.M.StepRows.change_row c.args.maker in
    c.in_ok-row.ensures
    ∙ (λ i. row (c.in_ok-symbols.ensures i) (c.asked_state.ensures i) c.args.change.now.gives)
    ∙ sym (change-row place change row c.args.change.now)
