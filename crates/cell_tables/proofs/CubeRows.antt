-- The rows for the cubes of a step are those that decide what it gives.
use Rattle.std.proofs.Common.{◌≡◌, ℕ, zero, suc, ◌+◌, ◌≤◌, Bool, true, false, not, if◌then◌else◌, List, ◌++◌, map, length, refl}
use Rattle.std.proofs.Common.{◌∙◌, ap, arith, Option, Some, None}
use Rattle.std.specs.Prelude.{filter}
use Rattle.std.specs.List.{All}
use Rattle.std.proofs.lemmas.List.{map-append, length-replicate}
use Rattle.std.proofs.lemmas.Simd.{map-map}
use Rattle.trit_cubes.specs.declared.trits.Trit.{Trit}
use Rattle.trit_cubes.specs.declared.trits.Trit.TheVariants.{Zero, One, Unknown}
use Rattle.cell_machine.specs.Machine.{Step}
use Rattle.udp_tables.specs.Edges.{edge_cubes, is_paired, kept_or_one, compact_edge_rows, each_below, forced_rows, decisive_rows}
use Rattle.udp_tables.specs.Edges.{change_columns, edge_row_by, keep_row_by}
use Rattle.udp_tables.proofs.CubeLemmas.{edge-long, below-among}
use Rattle.cell_tables.specs.declared.cubes.ChangeCube.{ChangeCube}
use Rattle.cell_tables.specs.Cubes.{giving_cube, keeping_cube, input_cubes, change_cubes, group_cubes, row_by, change_row}
use Rattle.cell_tables.specs.Cubes.{asked_state, rows_of_group}
use Rattle.cell_tables.proofs.CountLemmas.{all-rows}
use Rattle.cell_tables.proofs.RowForms.{compact-each}

map-below : {A B : Type 0} (f : A → B) (g : ℕ → List A) (n : ℕ) → map f (each_below g n) ≡ each_below (λ k. map f (g k)) n
map-below f g zero = refl
map-below f g (suc n) = map-append f (each_below g n) (g n) ∙ ap (λ xs. xs ++ map f (g n)) (map-below f g n)

module _ {R : Type 0} (edge : ℕ → Trit → List Trit → R) (keep : ℕ → List Trit → R) where
  kept-row : (p : ℕ) (cube : List Trit) (b : Bool)
      → change_row edge keep (if b then keeping_cube p cube else giving_cube p One cube)
      ≡ (if b then keep p cube else edge p One cube)
  kept-row p cube true = refl
  kept-row p cube false = refl

  -- the rows for the cubes of the changes of one input
  input-rows : (step : Step) (n p : ℕ) → map (change_row edge keep) (input_cubes step n p) ≡ compact_edge_rows edge keep step n p
  input-rows step n p =
      let ones : List (List Trit) = edge_cubes step n p One in
      let zeros : List (List Trit) = edge_cubes step n p Zero in
      let alone : List (List Trit) = filter (λ c. not (is_paired Zero One ones c)) zeros in
      let front : List ChangeCube = map (kept_or_one (giving_cube p) (keeping_cube p) zeros) ones in
      map-append (change_row edge keep) front (map (giving_cube p Zero) alone)
      ∙ (λ i. map-map (change_row edge keep) (kept_or_one (giving_cube p) (keeping_cube p) zeros) ones i
      ++ map-map (change_row edge keep) (giving_cube p Zero) alone i)
      ∙ (λ i. map (λ c. kept-row p c (is_paired One Zero zeros c) i) ones ++ map (edge p Zero) alone)

  change-rows : (step : Step) (n : ℕ)
      → map (change_row edge keep) (change_cubes step n) ≡ each_below (compact_edge_rows edge keep step n) n
  change-rows step n =
      map-below (change_row edge keep) (input_cubes step n) n ∙ (λ i. each_below (λ p. input-rows step n p i) n)

  pub group-rows :
      (level : Trit → List Trit → R) (report : ℕ → List R) (step : Step) (n : ℕ)
      → rows_of_group level report edge keep (group_cubes step n) ≡ decisive_rows level report edge keep n step
  group-rows level report step n =
      λ i. forced_rows level n step ++ report (length-replicate n Unknown i) ++ change-rows step n i

-- the row of a cube, in a language
pub change-row :
    {E R : Type 0} (place : Trit → E) (symbol : Trit → Trit → E) (row : List E → Trit → Option Trit → R) (change : ChangeCube)
    → change_row (edge_row_by place symbol row) (keep_row_by place symbol row) change
    ≡ row (change_columns place symbol change.place change.cube) (asked_state change.cube change.gives) change.gives
change-row place symbol row change = by change.gives
  where
    by : (gives : Option Trit)
        → row_by (edge_row_by place symbol row) (keep_row_by place symbol row) change.place change.cube gives
        ≡ row (change_columns place symbol change.place change.cube) (asked_state change.cube gives) gives
    by None = refl
    by (Some value) = refl

-- the cube of a change has places for the values of its input, for the other inputs and for the state
pub changes-wide : (step : Step) (n : ℕ)
    → All (λ (change : ChangeCube). change.place + 3 ≤ length change.cube) (change_cubes step n)
changes-wide step n =
    all-rows (λ (change : ChangeCube). change.place + 3 ≤ length change.cube) (change_cubes step n)
    (λ change m.
    let r = below-among (input_cubes step n) n change m in
    compact-each (λ (other : ChangeCube). other.place + 3 ≤ length other.cube) (giving_cube r.0) (keeping_cube r.0)
    (edge_cubes step n r.0)
    (λ v c k. let long = edge-long step n r.0 v c k in omega (arith, long, r.1))
    (λ c k. let long = edge-long step n r.0 One c k in omega (arith, long, r.1))
    change r.2)
