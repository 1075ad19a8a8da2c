-- The room that the run of an entity needs: for the columns of any of its tables.
use Rattle.std.specs.Prelude.{ℕ, ◌≤◌, All, length}
use Rattle.vital_models.specs.declared.model.VState.{VState}
use Rattle.vital_models.specs.declared.model.VTruth.{VTruth}
use Rattle.vital_models.specs.declared.model.OutValue.{OutValue}
use Rattle.vital_models.specs.declared.model.OutValue.TheVariants as value
use Rattle.vital_models.specs.declared.model.VOutput.{VOutput}
use Rattle.vital_models.specs.declared.model.VEntity.{VEntity}
use Rattle.vital_models.specs.Sound.{columns_of}
pub use Rattle.vital_models.specs.Sound.{IsSound}

-- how many columns the table of an output has
abbrev pub source_count : OutValue → ℕ
source_count (value.Constant one) = 0
source_count (value.Table table sources) = length sources

-- room for so many values holds the columns of each table
pub record HasRoom (room : ℕ) (e : VEntity) : Type 0 where
  pub states : All (λ (s : VState). columns_of s ≤ room) e.states
  pub conditions : All (λ (t : VTruth). length t.inputs ≤ room) e.conditions
  pub outputs : All (λ (o : VOutput). source_count o.value ≤ room) e.outputs
