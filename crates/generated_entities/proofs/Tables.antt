-- The tables of generated entities have rows, and no row of a state's table has two edges.
use Rattle.std.proofs.Common.{◌≡◌, ℕ, zero, suc, ◌+◌, ◌≤◌, Bool, true, false, cond, List, [], ◌∷◌, ◌++◌, map, length, replicate}
use Rattle.std.proofs.Common.{inl, inr, refl, subst, arith}
use Rattle.std.specs.Prelude.{All, count_by}
use Rattle.std.proofs.lemmas.List.Sums.{sum_by-cons}
use Rattle.trit_cubes.specs.declared.trits.Trit.{Trit}
use Rattle.trit_cubes.specs.declared.trits.Trit.TheVariants.{Zero, One, Unknown}
use Rattle.trit_cubes.specs.Sets.{gives}
use Rattle.trit_cubes.specs.Prime.{prime_list}
use Rattle.trit_cubes.proofs.ListLemmas.{Among, among-append}
use Rattle.cell_machine.specs.Machine.{Step, insert, init, forced_at}
use Rattle.udp_tables.specs.Tables.{value_rows, or_row}
use Rattle.udp_tables.specs.Edges.{forced_rows, edge_cubes, compact_edge_rows, each_below}
use Rattle.udp_tables.proofs.CubeLemmas.{value_rows-among, below-among}
use Rattle.udp_tables.proofs.PairLemmas.{compact-among}
use Rattle.vital_models.specs.declared.table.VSymbol.{VSymbol}
use Rattle.vital_models.specs.declared.table.VSymbol.TheVariants as symbol
use Rattle.vital_models.specs.declared.table.Trits.{Trits}
use Rattle.vital_models.specs.declared.table.Trits.TheVariants as trits
use Rattle.vital_models.specs.declared.table.VStateRow.{VStateRow}
use Rattle.vital_models.specs.Rows.{level_symbol, edge_symbol, truth_row, truth_rows, violated, level_row, violation_rows}
use Rattle.vital_models.specs.Rows.{steady_row, closing_row, edge_columns, edge_row, keep_row, compact_rows}
use Rattle.vhdl_grammar.specs.VhdlTables.{is_edge}
use Rattle.vhdl_grammar.specs.WellFormed.{HasOneEdge}
use Rattle.generated_entities.proofs.ListLemmas.{all_from}

-- how many edges there are
abbrev edges : List VSymbol → ℕ
edges symbols = count_by is_edge symbols

edges_more : (s : VSymbol) (symbols : List VSymbol) → edges (s ∷ symbols) ≡ cond (is_edge s) 1 0 + edges symbols
edges_more s symbols = sum_by-cons (λ x. cond (is_edge x) 1 0) s symbols

levels_edges : (cube : List Trit) → edges (map level_symbol cube) ≡ 0
levels_edges [] = refl
levels_edges (t ∷ ts) =
    let more : edges (map level_symbol (t ∷ ts)) ≡ 0 + edges (map level_symbol ts) =
    edges_more (level_symbol t) (map level_symbol ts) in
    omega (arith, more, levels_edges ts)

steady_edges : (n : ℕ) → edges (replicate n symbol.Steady) ≡ 0
steady_edges zero = refl
steady_edges (suc n) =
    let more : edges (replicate (suc n) symbol.Steady) ≡ 0 + edges (replicate n symbol.Steady) =
    edges_more symbol.Steady (replicate n symbol.Steady) in
    omega (arith, more, steady_edges n)

one_edge_more : (s : VSymbol) (symbols : List VSymbol) → edges (s ∷ symbols) ≤ 1 + edges symbols
one_edge_more s symbols = by (is_edge s) (edges_more s symbols)
  where
    by : (b : Bool) → edges (s ∷ symbols) ≡ cond b 1 0 + edges symbols → edges (s ∷ symbols) ≤ 1 + edges symbols
    by true h = omega (arith, h)
    by false h = let same : edges (s ∷ symbols) ≡ 0 + edges symbols = h in omega (arith, same)

insert_edges : (p : ℕ) (s : VSymbol) (symbols : List VSymbol) → edges (insert p s symbols) ≤ 1 + edges symbols
insert_edges zero s symbols = one_edge_more s symbols
insert_edges (suc p) s [] = one_edge_more s []
insert_edges (suc p) s (t ∷ symbols) =
    omega (arith, insert_edges p s symbols, edges_more t symbols, edges_more t (insert p s symbols))

column_edges : (p : ℕ) (cube : List Trit) → edges (edge_columns p cube) ≤ 1
column_edges p [] = omega arith
column_edges p (old ∷ []) = omega arith
column_edges p (old ∷ new ∷ rest) =
    omega (arith, insert_edges p (edge_symbol old new) (map level_symbol (init rest)), levels_edges (init rest))

violated_edges : (checks : Bool) (level : Trits) (symbols : List VSymbol) → edges symbols ≤ 1
    → edges (violated checks (symbol.Level level) symbols) ≤ 1
violated_edges false level symbols h = h
violated_edges true level symbols h =
    let more : edges (symbol.Level level ∷ symbols) ≡ 0 + edges symbols = edges_more (symbol.Level level) symbols in
    omega (arith, more, h)

-- the rows of each kind
steady_one : (checks : Bool) (n : ℕ) → HasOneEdge (steady_row checks n)
steady_one checks n = violated_edges checks trits.Zero (replicate n symbol.Steady) (omega (arith, steady_edges n))

level_one : (checks : Bool) (value : Trit) (cube : List Trit) → HasOneEdge (level_row checks value cube)
level_one checks value cube = violated_edges checks trits.Any (map level_symbol cube) (omega (arith, levels_edges cube))

violation_one : (checks : Bool) (n : ℕ) (row : VStateRow) → Among row (violation_rows checks n) → HasOneEdge row
violation_one false n row m = absurd m
violation_one true n row (inr none) = absurd none
violation_one true n row (inl e) =
    subst HasOneEdge e (violated_edges true trits.Unknown (map level_symbol (replicate n Unknown))
    (omega (arith, levels_edges (replicate n Unknown))))

change_one :
    (checks : Bool) (n : ℕ) (step : Step) (p : ℕ) (row : VStateRow)
    → Among row (compact_edge_rows (edge_row checks) (keep_row checks) step n p) → HasOneEdge row
change_one checks n step p row m =
    elim (compact-among (edge_row checks p) (keep_row checks p) (edge_cubes step n p) row m) [
      | inl r ↦ subst HasOneEdge r.3 (violated_edges checks trits.Any (edge_columns p r.0) (column_edges p r.0))
      | inr r ↦ subst HasOneEdge r.4 (violated_edges checks trits.Any (edge_columns p r.2) (column_edges p r.2))
    ]

row_one : (checks : Bool) (n : ℕ) (step : Step) (row : VStateRow) → Among row (compact_rows checks n step) → HasOneEdge row
row_one checks n step row m =
    let forced : List VStateRow = forced_rows (level_row checks) n step in
    let changes : List VStateRow = each_below (compact_edge_rows (edge_row checks) (keep_row checks) step n) n in
    elim (among-append row (steady_row checks n ∷ (forced ++ (violation_rows checks n ++ changes))) (closing_row checks n ∷ []) m) [
      | inr last ↦ elim last [
        | inl e ↦ subst HasOneEdge e (level_one checks Unknown (replicate n Unknown))
        | inr none ↦ absurd
            none
      ]
      | inl front ↦
          elim front [
            | inl e ↦ subst HasOneEdge e (steady_one checks n)
            | inr rest ↦
                elim (among-append row forced (violation_rows checks n ++ changes) rest) [
                  | inl k ↦
                      let r = value_rows-among (level_row checks) (λ (v : Trit). prime_list n (gives v (forced_at step))) row k in
                      subst HasOneEdge r.4 (level_one checks r.0 r.2)
                  | inr more ↦
                      elim (among-append row (violation_rows checks n) changes more) [
                        | inl k ↦ violation_one checks n row k
                        | inr k ↦
                            let q = below-among (compact_edge_rows (edge_row checks) (keep_row checks) step n) n row k in
                            change_one checks n step q.0 row q.2
                      ]
                ]
          ]
    ]

pub rows_have_one_edge : (checks : Bool) (n : ℕ) (step : Step) → All HasOneEdge (compact_rows checks n step)
rows_have_one_edge checks n step = all_from HasOneEdge (compact_rows checks n step) (row_one checks n step)

pub states_have_rows : (checks : Bool) (n : ℕ) (step : Step) → 1 ≤ length (compact_rows checks n step)
states_have_rows checks n step = omega arith

some_row : {R : Type 0} (alone : R) (rows : List R) → 1 ≤ length (or_row alone rows)
some_row alone [] = omega arith
some_row alone (row ∷ rows) = omega arith

pub truths_have_rows : (n : ℕ) (f : List Bool → Trit) → 1 ≤ length (truth_rows n f)
truths_have_rows n f = some_row (truth_row Unknown (replicate n Unknown))
    (value_rows truth_row (prime_list n (gives One f)) (prime_list n (gives Zero f)))
