-- The truth table of a function gives its resolution.
use Rattle.std.proofs.Common.{◌≡◌, Bool, true, false, cond, List, [], ◌∷◌, replicate, inl, inr, refl, sym, ◌∙◌, ap}
use Rattle.trit_cubes.specs.declared.trits.Trit.{Trit}
use Rattle.trit_cubes.specs.declared.trits.Trit.TheVariants.{Zero, One, Unknown}
use Rattle.trit_cubes.specs.Filling.{covers}
use Rattle.trit_cubes.specs.Resolution.{res}
use Rattle.trit_cubes.specs.Sets.{gives}
use Rattle.trit_cubes.specs.Prime.{prime_list}
use Rattle.vital_tables.specs.udp_tables.Tables.{first, value_rows, or_row}
use Rattle.vital_tables.proofs.udp_tables.FirstLemmas.{found-any, first-gives}
use Rattle.vital_tables.proofs.udp_tables.CubeLemmas.{known-or, prime-gives, prime-found, value_rows-among, among-value_rows}
use Rattle.vital_tables.specs.declared.table.TruthRow.{TruthRow}
use Rattle.vital_tables.specs.LookUps.{truth_matches}
use Rattle.vital_tables.specs.Rows.{truth_row}
use Rattle.vital_models.specs.RowLaws.{TruthRowsResolve}
use Rattle.vital_models.proofs.SymbolLemmas.{truth-covers}

-- a row that gives what stands for no row
pub first-alone : {R V : Type 0} (hit : R → Bool) (value : R → V) (alone : R) (rows : List R)
    → first hit value (or_row alone rows) (value alone) ≡ first hit value rows (value alone)
first-alone hit value alone [] = by (hit alone)
  where
    by : (b : Bool) → cond b (value alone) (value alone) ≡ value alone
    by true = refl
    by false = refl
first-alone hit value alone (row ∷ rows) = refl

pub truth_rows-resolve : TruthRowsResolve
truth_rows-resolve n f inputs long =
    let cubes = λ (v : Trit). prime_list n (gives v f) in
    let rows = value_rows truth_row (cubes One) (cubes Zero) in
    first-alone (truth_matches inputs) (λ row. row.result) (truth_row Unknown (replicate n Unknown)) rows
    ∙ first-gives (truth_matches inputs) (λ row. row.result) (res f inputs) Unknown rows
    (λ row m h.
    let r = value_rows-among truth_row cubes row m in
    let covered : covers r.2 inputs ≡ true = sym (truth-covers r.2 inputs) ∙ ap (truth_matches inputs) r.4 ∙ h in
    ap (λ (x : TruthRow). x.result) (sym r.4) ∙ sym (prime-gives n f r.0 r.2 inputs r.1 long r.3 covered))
    (λ none.
    elim (known-or (res f inputs)) [
      | inl known ↦
          let v : Trit = res f inputs in
          let r = prime-found n f v inputs known long refl in
          let hit = found-any (truth_matches inputs) (truth_row v r.0) rows (among-value_rows truth_row cubes v r.0 known r.1)
          (truth-covers r.0 inputs ∙ r.2) in
          let clash : false ≡ true = sym none ∙ hit in absurd cc
      | inr e ↦ sym e
    ])
