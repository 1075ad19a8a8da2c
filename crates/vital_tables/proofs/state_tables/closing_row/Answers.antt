use Rattle.std.proofs.Common.{◌∙◌, ap}
use Rattle.vital_tables.specs.declared.table.Trits.TheVariants as trits
use Rattle.vital_tables.specs.declared.table.VSymbol.TheVariants as symbol
use Rattle.vital_tables.specs.declared.table.VNext.TheVariants as next
use Rattle.vital_tables.specs.Rows.{violated}
use Rattle.vital_tables.proofs.FreeColumns.{free-columns}
use Rattle.vital_tables.proofs.state_tables.closing_row.Goals as goal

pub returns : goal.returns
returns c =
    ap (λ columns. record { inputs = columns; state = trits.Any; result = next.Unknown })
    (c.in_ok-columns.ensures ∙ ap (violated c.args.violation (symbol.Level trits.Any)) (free-columns c.args.pins))
