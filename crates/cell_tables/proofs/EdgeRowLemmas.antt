-- The rows of changes serve, in both forms.
use Rattle.std.proofs.Common.{◌≡◌, ℕ, suc, ◌<◌, Bool, false, List, length, refl, arith}
use Rattle.trit_cubes.specs.declared.trits.Trit.{Trit}
use Rattle.trit_cubes.specs.declared.trits.Trit.TheVariants.{One}
use Rattle.trit_cubes.proofs.ListLemmas.{Among}
use Rattle.cell_machine.specs.Machine.{Step}
use Rattle.udp_tables.specs.declared.table.Level.{Level}
use Rattle.udp_tables.specs.declared.table.Level.TheVariants as level
use Rattle.udp_tables.specs.declared.table.Next.{Next}
use Rattle.udp_tables.specs.declared.table.Next.TheVariants as next
use Rattle.udp_tables.specs.declared.table.Entry.{Entry}
use Rattle.udp_tables.specs.declared.table.Entry.TheVariants as entry
use Rattle.udp_tables.specs.declared.table.UdpRow.{UdpRow}
use Rattle.udp_tables.specs.Primitive.{entry_matches, level_matches, next_of}
use Rattle.udp_tables.specs.Generated.{next_to}
use Rattle.udp_tables.specs.Edges.{edge_cubes, edge_rows, compact_edge_rows}
use Rattle.udp_tables.specs.Sequential.{row_matches, is_level_row, row_next, level_symbol, noted, edge_inputs, edge_row, keep_row}
use Rattle.udp_tables.proofs.CubeLemmas.{edge-long}
use Rattle.cell_tables.proofs.ChangeRows.{symbol-admits, change-levels, entries-fit, notes-fit}
use Rattle.cell_tables.proofs.StepRows.{Serves, next-value}
use Rattle.cell_tables.proofs.RowForms.{rows-each, compact-each}
use Rattle.cell_tables.proofs.ServingRows.{MakesRows, makes-rows}
use Rattle.cell_tables.proofs.ServingRows as changes

abbrev row-of : List Entry → Level → Next → UdpRow
row-of entries state following = record { inputs = entries; state = state; next = following }

-- how rows are made of the entries of a change
entry-rows : (checks : Bool) → MakesRows Entry UdpRow entry_matches (λ p c. noted checks (entry.Level level.Any) (edge_inputs p c))
    row_matches row_next (edge_row checks) (keep_row checks)
entry-rows checks =
    makes-rows row-of level_matches level_symbol level.Any next_of next_to next.Keep (λ es l m olds news s. refl)
    (λ es l m s. refl) symbol-admits (λ t. refl) next-value (λ s. refl)

-- a row of a cube, with any symbol for the state, has a change entry
cube-edges :
    (checks : Bool) (n : ℕ) (step : Step) (p : ℕ) → p < n → (v : Trit) (c : List Trit) → Among c (edge_cubes step n p v)
    → is_level_row (keep_row checks p c) ≡ false
cube-edges checks n step p l v c m =
    let wide : length c ≡ suc (suc n) = edge-long step n p v c m in change-levels checks p c (omega arith)

pub edge_rows-serve : (checks : Bool) (n : ℕ) (step : Step) → Serves checks n step (edge_rows (edge_row checks) step n)
edge_rows-serve checks n step =
    record {
      edges = λ p row l. rows-each (λ r. is_level_row r ≡ false) (edge_row checks p) (edge_cubes step n p)
          (cube-edges checks n step p l) row;
      rows = changes.edge_rows-serve entries-fit (notes-fit checks) (entry-rows checks) n step;
    }

pub compact_rows-serve :
    (checks : Bool) (n : ℕ) (step : Step) → Serves checks n step (compact_edge_rows (edge_row checks) (keep_row checks) step n)
compact_rows-serve checks n step =
    record {
      edges = λ p row l.
          compact-each (λ r. is_level_row r ≡ false) (edge_row checks p) (keep_row checks p) (edge_cubes step n p)
          (cube-edges checks n step p l)
          (λ c k. cube-edges checks n step p l One c k) row;
      rows = changes.compact_rows-serve entries-fit (notes-fit checks) (entry-rows checks) n step;
    }
