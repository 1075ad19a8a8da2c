use Rattle.std.proofs.Common.{◌≡◌, length, [], sym, ◌∙◌, ap, append_assoc}
use Rattle.std.specs.Option.{option_map_or}
use Rattle.cell_machine.specs.declared.groups.StateGroup.{StateGroup}
use Rattle.cell_machine.specs.CellData.{data_of}
use Rattle.cell_machine.specs.CellTrace.{support_at, step_at}
use Rattle.vital_tables.specs.udp_tables.Edges.{forced_rows, compact_edge_rows, each_below, decisive_rows}
use Rattle.vital_tables.specs.Rows.{level_row, violation_rows, edge_row, keep_row, state_rows_around}
use Rattle.vital_models.specs.Generated.{has_violation}
use Rattle.vital_models.proofs.tables.state_table.Goals as goal

pub returns : goal.returns
returns c =
    let cell = data_of c.args.from.now.cell.now in
    let g = c.args.group in
    let n = length (support_at cell g) in
    let step = step_at cell g in
    let checks = has_violation cell in
    let pins : c.len-pins.result ≡ n
    = c.len-pins.ensures ∙ sym (ap (λ o. length (option_map_or (λ (group : StateGroup). group.support) o [])) c.group.ensures.is) in
    let decisive =
    c.in_ok-decisive.ensures
    ∙ ap (λ v. decisive_rows (level_row v) (violation_rows v) (edge_row v) (keep_row v) n step) c.has_notifier-violation.ensures
    ∙ append_assoc (forced_rows (level_row checks) n step) (violation_rows checks n)
    (each_below (compact_edge_rows (edge_row checks) (keep_row checks) step n) n) in
    ap (λ rows. record { rows = rows })
    (c.in_ok-state_rows.ensures ∙ (λ i. state_rows_around (c.has_notifier-violation.ensures i) (pins i) (decisive i)))
