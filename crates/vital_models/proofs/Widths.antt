-- The rows of generated tables have a symbol for each column.
use Rattle.std.proofs.Common.{◌≡◌, ℕ, suc, ◌+◌, ◌<◌, Bool, true, false, List, [], ◌∷◌, ◌++◌, map, length, replicate, inl, inr}
use Rattle.std.proofs.Common.{refl, sym, ◌∙◌, ap, subst, arith, if◌then◌else◌}
use Rattle.std.proofs.lemmas.List.{length-map, length-replicate}
use Rattle.trit_cubes.specs.declared.trits.Trit.{Trit}
use Rattle.trit_cubes.specs.declared.trits.Trit.TheVariants.{Zero, One, Unknown}
use Rattle.trit_cubes.specs.Sets.{gives}
use Rattle.trit_cubes.specs.Prime.{prime_list}
use Rattle.trit_cubes.proofs.ListLemmas.{Among, among-append}
use Rattle.trit_cubes.proofs.SplitLemmas.{prime_list-length}
use Rattle.cell_machine.specs.Machine.{Step, init, forced_at}
use Rattle.vital_tables.specs.udp_tables.Tables.{value_rows, or_row}
use Rattle.vital_tables.specs.udp_tables.Edges.{forced_rows, edge_cubes, compact_edge_rows, each_below}
use Rattle.vital_tables.proofs.udp_tables.ColumnLemmas.{length-insert}
use Rattle.vital_tables.proofs.udp_tables.CubeLemmas.{edge-long, value_rows-among, below-among}
use Rattle.vital_tables.proofs.udp_tables.SymbolLemmas.{length-init}
use Rattle.vital_tables.proofs.udp_tables.PairLemmas.{compact-among}
use Rattle.vital_tables.specs.declared.table.TruthRow.{TruthRow}
use Rattle.vital_tables.specs.declared.table.VSymbol.{VSymbol}
use Rattle.vital_tables.specs.declared.table.VSymbol.TheVariants as symbol
use Rattle.vital_tables.specs.declared.table.VStateRow.{VStateRow}
use Rattle.vital_tables.specs.Rows.{level_of, level_symbol, edge_symbol, truth_row, truth_rows, violated, level_row}
use Rattle.vital_tables.specs.Rows.{violation_rows, steady_row, closing_row, edge_columns, edge_row, keep_row, compact_rows}

-- truth tables
pub truth-width : (n : ℕ) (f : List Bool → Trit) (row : TruthRow) → Among row (truth_rows n f) → length row.inputs ≡ n
truth-width n f row m = by (value_rows truth_row (prime_list n (gives One f)) (prime_list n (gives Zero f))) refl m
  where
    alone : (row : TruthRow) → truth_row Unknown (replicate n Unknown) ≡ row → length row.inputs ≡ n
    alone row e = ap (λ (r : TruthRow). length r.inputs) (sym e) ∙ length-map (replicate n Unknown) level_of
        ∙ length-replicate n Unknown

    made : (row : TruthRow) → Among row (value_rows truth_row (prime_list n (gives One f)) (prime_list n (gives Zero f)))
        → length row.inputs ≡ n
    made row m =
        let r = value_rows-among truth_row (λ (v : Trit). prime_list n (gives v f)) row m in
        ap (λ (r : TruthRow). length r.inputs) (sym r.4) ∙ length-map r.2 level_of ∙ prime_list-length n (gives r.0 f) r.2 r.3

    by :
        (rows : List TruthRow) → value_rows truth_row (prime_list n (gives One f)) (prime_list n (gives Zero f)) ≡ rows
        → Among row (or_row (truth_row Unknown (replicate n Unknown)) rows) → length row.inputs ≡ n
    by [] e m = elim m [ inl k ↦ alone row k | inr k ↦ absurd k ]
    by (r ∷ rs) e m = made row (subst (λ rows. Among row rows) (sym e) m)

-- how many columns there are
abbrev pub width : Bool → ℕ → ℕ
width checks n = if checks then n + 1 else n

pub violated-width : (checks : Bool) (x : VSymbol) (xs : List VSymbol) (n : ℕ) → length xs ≡ n
    → length (violated checks x xs) ≡ width checks n
violated-width false x xs n e = e
violated-width true x xs n e = omega arith

levels-width : (c : List Trit) (n : ℕ) → length c ≡ n → length (map level_symbol c) ≡ n
levels-width c n e = length-map c level_symbol ∙ e

edge-width : (p n : ℕ) (c : List Trit) → p < n → length c ≡ suc (suc n) → length (edge_columns p c) ≡ n
edge-width p n [] l e = absurd (omega arith)
edge-width p n (old ∷ []) l e = absurd (omega arith)
edge-width p n (old ∷ new ∷ []) l e = absurd (omega arith)
edge-width p n (old ∷ new ∷ r ∷ rest) l e =
    let all : length (edge_columns p (old ∷ new ∷ r ∷ rest)) ≡ suc (length (map level_symbol (init (r ∷ rest))))
    = length-insert p (edge_symbol old new) (map level_symbol (init (r ∷ rest))) in
    let few : length (map level_symbol (init (r ∷ rest))) ≡ length rest = length-map (init (r ∷ rest)) level_symbol
    ∙ length-init r rest in
    omega arith

closing-width : (checks : Bool) (n : ℕ) (row : VStateRow) → closing_row checks n ≡ row → length row.inputs ≡ width checks n
closing-width checks n row e =
    ap (λ (r : VStateRow). length r.inputs) (sym e)
    ∙ violated-width checks _ (map level_symbol (replicate n Unknown)) n
    (levels-width (replicate n Unknown) n (length-replicate n Unknown))

violation-width : (checks : Bool) (n : ℕ) (row : VStateRow) → Among row (violation_rows checks n)
    → length row.inputs ≡ width checks n
violation-width false n row m = absurd m
violation-width true n row m =
    elim m [
      | inl e ↦
          let few : length (map level_symbol (replicate n Unknown)) ≡ n =
          levels-width (replicate n Unknown) n (length-replicate n Unknown) in
          let all : length row.inputs ≡ suc (length (map level_symbol (replicate n Unknown))) =
          ap (λ (r : VStateRow). length r.inputs) (sym e) in
          omega arith
      | inr k ↦ absurd k
    ]

-- the rows of the changes of one pin
change-width :
    (checks : Bool) (n : ℕ) (step : Step) (p : ℕ) (row : VStateRow)
    → p < n → Among row (compact_edge_rows (edge_row checks) (keep_row checks) step n p) → length row.inputs ≡ width checks n
change-width checks n step p row l m =
    elim (compact-among (edge_row checks p) (keep_row checks p) (edge_cubes step n p) row m) [
      | inl r ↦
          ap (λ (r : VStateRow). length r.inputs) (sym r.3)
          ∙ violated-width checks _ (edge_columns p r.0) n (edge-width p n r.0 l (edge-long step n p One r.0 r.1))
      | inr r ↦
          ap (λ (r : VStateRow). length r.inputs) (sym r.4)
          ∙ violated-width checks _ (edge_columns p r.2) n (edge-width p n r.2 l (edge-long step n p r.0 r.2 r.3))
    ]

-- state tables
pub state-width : (checks : Bool) (n : ℕ) (step : Step) (row : VStateRow) → Among row (compact_rows checks n step)
    → length row.inputs ≡ width checks n
state-width checks n step row m =
    let forced : List VStateRow = forced_rows (level_row checks) n step in
    let changes : List VStateRow = each_below (compact_edge_rows (edge_row checks) (keep_row checks) step n) n in
    elim (among-append row (steady_row checks n ∷ (forced ++ (violation_rows checks n ++ changes))) (closing_row checks n ∷ []) m) [
      | inl front ↦
          elim front [
            | inl e ↦
                ap (λ (r : VStateRow). length r.inputs) (sym e)
                ∙ violated-width checks _ (replicate n symbol.Steady) n (length-replicate n symbol.Steady)
            | inr rest ↦
                elim (among-append row forced (violation_rows checks n ++ changes) rest) [
                  | inl k ↦
                      let r = value_rows-among (level_row checks) (λ (v : Trit). prime_list n (gives v (forced_at step))) row k in
                      ap (λ (r : VStateRow). length r.inputs) (sym r.4)
                      ∙ violated-width checks _ (map level_symbol r.2) n
                      (levels-width r.2 n (prime_list-length n (gives r.0 (forced_at step)) r.2 r.3))
                  | inr more ↦
                      elim (among-append row (violation_rows checks n) changes more) [
                        | inl k ↦ violation-width checks n row k
                        | inr k ↦
                            let q = below-among (compact_edge_rows (edge_row checks) (keep_row checks) step n) n row k in
                            change-width checks n step q.0 row q.1 q.2
                      ]
                ]
          ]
      | inr k ↦ elim k [ inl e ↦ closing-width checks n row e | inr k ↦ absurd k ]
    ]
