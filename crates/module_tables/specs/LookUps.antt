-- What the comparison keeps between look-ups, for the contracts of its functions: selected rows, and values by the numbers of
-- points.
use Rattle.std.specs.Prelude.{◌≡◌, ◌≢◌, ℕ, suc, ◌<◌, ◌≤◌, List, length, map, position, Option, Some, None, unwrap_or, slice_set}
use Rattle.trit_cubes.specs.declared.trits.Trit.{Trit}
use Rattle.trit_cubes.specs.declared.trits.Trit.TheVariants.{Unknown}
use Rattle.trit_cubes.specs.Sets.{AreValuesOf}
use Rattle.cell_machine.specs.Machine.{edge_value, forced_at}
use Rattle.cell_machine.specs.Inputs.{numbered_value}
use Rattle.cell_machine.specs.CellData.{CellData}
use Rattle.cell_machine.specs.CellTrace.{support_at, step_at}
use Rattle.udp_tables.specs.Primitive.{level_output}
use Rattle.udp_tables.specs.Sequential.{udp_next, noted}
use Rattle.udp_tables.specs.CellPrimitives.{has_notifier}
use Rattle.specify_blocks.specs.declared.model.VNet.{VNet}
use Rattle.specify_blocks.specs.declared.model.Instance.{Instance}
use Rattle.specify_blocks.specs.declared.model.VModule.{VModule}
use Rattle.specify_blocks.specs.Nets.{same_net}
use Rattle.row_selection.specs.declared.change_rows.ChangeRows.{ChangeRows}
use Rattle.module_tables.specs.declared.net_rows.NetRows.{NetRows}
use Rattle.module_tables.specs.declared.keyed_rows.KeyedRows.{KeyedRows}
use Rattle.module_tables.specs.declared.net_levels.NetLevels.{NetLevels}
use Rattle.module_terminals.specs.Terminals.{nets_feeding}
use Rattle.module_tables.specs.Tables.{arranged, next_by, group_next, place_net}

-- Where the nets of a list stand among others, 10 for one that is none of them: at most ten nets have values.
abbrev pub place_among : List VNet → VNet → ℕ
place_among nets n = unwrap_or (position (same_net n) nets) 10

abbrev pub order_of : List VNet → List VNet → List ℕ
order_of nets inputs = map (place_among nets) inputs

-- The next state by rows that are selected for a change, where the inputs have these values after it; where there are none the
-- state stays.
abbrev pub rows_next : Option ChangeRows → List Trit → Trit → Trit
rows_next None inputs s = s
rows_next (Some r) inputs s = udp_next r.udp.now.rows (slice_set inputs r.place r.old) inputs s

-- the same where the inputs stand in some order among nets with values
abbrev pub looked_up : NetRows → List Trit → Trit → Trit
looked_up r values s = rows_next r.rows (map (numbered_value values) r.order) s

-- The output of a combinational primitive at these inputs, and a value of its own where there is no primitive.
abbrev pub rows_level : Option KeyedRows → Trit → List Trit → Trit
rows_level None alone inputs = alone
rows_level (Some r) alone inputs = level_output r.udp.now.rows inputs

-- the same where the inputs stand in some order among nets with values
abbrev pub level_at : NetLevels → List Trit → Trit
level_at l values = rows_level l.rows l.alone (map (numbered_value values) l.order)

-- The value that is looked up for a net is a function's, for values of at most ten nets.
abbrev pub Drives : NetLevels → (List Trit → Trit) → Type 0
Drives l g = (values : List Trit) → length values ≤ 10 → level_at l values ≡ g values

-- The next state by these rows is the same for two lists of values of the nets that differ in the one with this number alone.
pub record IgnoresNet (n : ℕ) (r : NetRows) : Type 0 where
  pub same_next :
      (values others : List Trit) (s : Trit)
      → ((k : ℕ) → k ≢ n → numbered_value values k ≡ numbered_value others k) → looked_up r values s ≡ looked_up r others s

-- Rows give the next state of an instance at a change of one net from an old value, whatever values the nets have.
pub record GivesNext (m : VModule) (changed : VNet) (old : Trit) (i : Instance) (rows : Option ChangeRows) : Type 0 where
  pub next_is :
      (nets : List VNet) (values : List Trit) (s : Trit)
      → rows_next rows (arranged nets values (nets_feeding i)) s ≡ next_by m nets values changed old s i

-- Rows give the next state of the instance that stands for group g at a change of one net from an old value.
pub record LooksUp (d : CellData) (m : VModule) (g : ℕ) (changed : VNet) (old : Trit) (r : NetRows) : Type 0 where
  pub next_is :
      (values : List Trit) (s : Trit) → length values ≤ 10 → looked_up r values s ≡ group_next d m g values changed old s

-- At a change of the pin at place p of the support of group g rows give the next state of the instance that stands for it, and
-- each pin of the support has a value after the change.
pub record IsPinChange (d : CellData) (m : VModule) (g p : ℕ) (old : Trit) (values : List Trit) (r : NetRows) : Type 0 where
  pub looks_up : LooksUp d m g (place_net d g p) old r
  pub inside : p < length values
  pub each_pin : length values ≡ length (support_at d g)

-- The next state by rows is the same at every value of the register of the checks, where there is one, for all values of the
-- pins of group g.
pub record IgnoresNote (d : CellData) (g : ℕ) (r : NetRows) : Type 0 where
  pub same_next :
      (note s : Trit) (values : List Trit)
      → length values ≡ length (support_at d g)
      → looked_up r (noted (has_notifier d) note values) s ≡ looked_up r (noted (has_notifier d) Unknown values) s

-- the values of the step of group g at changes of the pin at place p, by the numbers of the points
abbrev pub AreSteps : CellData → ℕ → ℕ → List Trit → Type 0
AreSteps d g p values = AreValuesOf (suc (suc (length (support_at d g)))) (edge_value (step_at d g) p) values

-- the values to which points force the state of group g, by the numbers of the points
abbrev pub AreForces : CellData → ℕ → List Trit → Type 0
AreForces d g values = AreValuesOf (length (support_at d g)) (forced_at (step_at d g)) values
