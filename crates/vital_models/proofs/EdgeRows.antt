-- The rows of changes serve, in both forms.
use Rattle.std.proofs.Common.{ℕ, Bool, List, refl}
use Rattle.cell_machine.specs.Machine.{Step}
use Rattle.vital_tables.specs.udp_tables.{Edges.edge_rows, Edges.compact_edge_rows}
use Rattle.cell_tables.proofs.ServingRows.{MakesRows, makes-rows}
use Rattle.cell_tables.proofs.ServingRows as changes
use Rattle.vital_tables.specs.declared.table.VSymbol.{VSymbol}
use Rattle.vital_tables.specs.declared.table.VSymbol.TheVariants as symbol
use Rattle.vital_tables.specs.declared.table.Trits.{Trits}
use Rattle.vital_tables.specs.declared.table.Trits.TheVariants as trits
use Rattle.vital_tables.specs.declared.table.VNext.{VNext}
use Rattle.vital_tables.specs.declared.table.VNext.TheVariants as next
use Rattle.vital_tables.specs.declared.table.VStateRow.{VStateRow}
use Rattle.vital_tables.specs.Symbols.{trits_match, symbol_matches, next_of}
use Rattle.vital_tables.specs.LookUps.{state_matches, row_next}
use Rattle.vital_tables.specs.Rows.{level_of, next_to, violated, edge_columns, edge_row, keep_row}
use Rattle.vital_models.proofs.SymbolLemmas.{level-admits, symbols-fit, violations-fit}
use Rattle.vital_models.proofs.StateRows.{Serves, next-value}

abbrev row-of : List VSymbol → Trits → VNext → VStateRow
row-of symbols state following = record { inputs = symbols; state = state; result = following }

-- how rows are made of the symbols of a change
symbol-rows : (checks : Bool)
    → MakesRows VSymbol VStateRow symbol_matches (λ p c. violated checks (symbol.Level trits.Any) (edge_columns p c)) state_matches
    row_next (edge_row checks) (keep_row checks)
symbol-rows checks =
    makes-rows row-of trits_match level_of trits.Any next_of next_to next.Keep (λ es l m olds news s. refl)
    (λ es l m s. refl) level-admits (λ t. refl) next-value (λ s. refl)

pub edge_rows-serve : (checks : Bool) (n : ℕ) (step : Step) → Serves checks n step (edge_rows (edge_row checks) step n)
edge_rows-serve checks = changes.edge_rows-serve symbols-fit (violations-fit checks) (symbol-rows checks)

pub compact_rows-serve :
    (checks : Bool) (n : ℕ) (step : Step) → Serves checks n step (compact_edge_rows (edge_row checks) (keep_row checks) step n)
compact_rows-serve checks = changes.compact_rows-serve symbols-fit (violations-fit checks) (symbol-rows checks)
