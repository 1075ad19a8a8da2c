-- When the tables of a module give the values of a cell, and when they are fed by the nets that stand for its parts.
use Rattle.std.specs.Prelude.{◌≡◌, ◌≢◌, ◌<◌, ℕ, true, IsTrue, List, length, Some, slice_index_or}
use Rattle.trit_cubes.specs.declared.trits.Trit.{Trit}
use Rattle.trit_cubes.specs.declared.trits.Trit.TheVariants.{Unknown}
use Rattle.bool_functions.specs.Support.{support_of}
use Rattle.cell_machine.specs.CellData.{CellData}
use Rattle.cell_machine.specs.CellTrace.{support_at, sources_at}
use Rattle.udp_tables.specs.CellPrimitives.{has_notifier}
use Rattle.specify_blocks.specs.declared.model.VModule.{VModule}
use Rattle.module_terminals.specs.Feeding.{Gating, check_gating, path_gating, feeds_group, feeds_gating, feeds_output}
use Rattle.module_tables.specs.Tables.{note_after, cell_step, model_step, cell_forced, model_notified, cell_condition}
use Rattle.module_tables.specs.Tables.{model_condition, cell_output, model_output}

-- The tables of a module give the cell's values: the next states at each change of one pin of a support, at every value of the
-- register of the checks; the next states at each change of that register; the conditions of checks and of paths; the outputs.
pub record HasValues (d : CellData) (m : VModule) : Type 0 where
  pub steps :
      (g p : ℕ) (old : Trit) (values : List Trit) (note s : Trit)
      → g < length d.groups → length values ≡ length (support_at d g) → p < length values
      → old ≢ slice_index_or values p Unknown
      → model_step d m g p old values note s ≡ cell_step d g p old values s
  pub forces :
      (g : ℕ) (old : Trit) (values : List Trit) (s : Trit)
      → has_notifier d ≡ true → g < length d.groups → length values ≡ length (support_at d g)
      → model_notified d m g old (note_after old) values s ≡ cell_forced d g values
  pub checks :
      (i : ℕ) (u : Gating) (values : List Trit)
      → check_gating d m i ≡ Some u → length values ≡ length (support_of u.condition)
      → model_condition d m u values ≡ cell_condition u.condition values
  pub paths :
      (i : ℕ) (u : Gating) (values : List Trit)
      → path_gating d m i ≡ Some u → length values ≡ length (support_of u.condition)
      → model_condition d m u values ≡ cell_condition u.condition values
  pub outputs :
      (o : ℕ) (values : List Trit)
      → o < length d.outputs → length values ≡ length (sources_at d o)
      → model_output d m o values ≡ cell_output d o values

-- The nets of each part feed the instance that stands for it: of the groups, of the conditions of checks and paths, and of the
-- outputs.
pub record AreFed (d : CellData) (m : VModule) : Type 0 where
  pub groups : (g : ℕ) → g < length d.groups → IsTrue (feeds_group d m g)
  pub checks : (i : ℕ) → IsTrue (feeds_gating d m (check_gating d m i))
  pub paths : (i : ℕ) → IsTrue (feeds_gating d m (path_gating d m i))
  pub outputs : (o : ℕ) → o < length d.outputs → IsTrue (feeds_output d m o)
