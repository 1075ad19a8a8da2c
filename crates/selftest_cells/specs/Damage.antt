-- Damage: one row of one table of a model gives 0 in place of 1, or 1 in place of 0.
use Rattle.std.specs.Prelude.{List, [], ◌∷◌}
use Rattle.trit_cubes.specs.declared.trits.Trit.{Trit}
use Rattle.trit_cubes.specs.declared.trits.Trit.TheVariants as trit
use Rattle.udp_tables.specs.declared.table.Next.{Next}
use Rattle.udp_tables.specs.declared.table.Next.TheVariants as next
use Rattle.udp_tables.specs.declared.table.UdpRow.{UdpRow}
use Rattle.udp_tables.specs.declared.table.Udp.{Udp}
use Rattle.specify_blocks.specs.declared.model.VModule.{VModule}
use Rattle.specify_blocks.specs.Sound as verilog
use Rattle.vital_models.specs.declared.table.TruthRow.{TruthRow}
use Rattle.vital_models.specs.declared.table.VNext.{VNext}
use Rattle.vital_models.specs.declared.table.VNext.TheVariants as state
use Rattle.vital_models.specs.declared.table.VStateRow.{VStateRow}
use Rattle.vital_models.specs.declared.model.VState.{VState}
use Rattle.vital_models.specs.declared.model.OutValue.{OutValue}
use Rattle.vital_models.specs.declared.model.OutValue.TheVariants as value
use Rattle.vital_models.specs.declared.model.VOutput.{VOutput}
use Rattle.vital_models.specs.declared.model.VEntity.{VEntity}
use Rattle.vital_models.specs.Sound as vital

-- the first of a list altered, where there is one
abbrev pub alter_first : {X : Type 0} → (X → X) → List X → List X
alter_first f [] = []
alter_first f (x ∷ xs) = f x ∷ xs

-- the second of a list altered, where there is one
abbrev pub alter_second : {X : Type 0} → (X → X) → List X → List X
alter_second f [] = []
alter_second f (x ∷ xs) = x ∷ alter_first f xs

-- 0 in place of 1 and 1 in place of 0; x and `-` stay
abbrev pub other_next : Next → Next
other_next next.Zero = next.One
other_next next.One = next.Zero
other_next next.Unknown = next.Unknown
other_next next.Keep = next.Keep

abbrev pub damaged_row : UdpRow → UdpRow
damaged_row row = record row { next = other_next row.next }

-- a primitive whose first row is damaged
abbrev pub damaged_udp : Udp → Udp
damaged_udp udp = record udp { rows = alter_first damaged_row udp.rows }

-- A module whose first primitive is damaged. One without primitives stays as it is.
abbrev pub damaged_module : VModule → VModule
damaged_module m = record m { udps = alter_first damaged_udp m.udps }

-- 0 in place of 1 and 1 in place of 0; 'X' and 'S' stay
abbrev pub other_state : VNext → VNext
other_state state.Zero = state.One
other_state state.One = state.Zero
other_state state.Unknown = state.Unknown
other_state state.Keep = state.Keep

abbrev pub damaged_state_row : VStateRow → VStateRow
damaged_state_row row = record row { result = other_state row.result }

-- a state whose table has its second row damaged: the first one keeps the state
abbrev pub damaged_state : VState → VState
damaged_state s = record s { table = record { rows = alter_second damaged_state_row s.table.rows } }

-- 0 in place of 1 and 1 in place of 0; X stays
abbrev pub other_value : Trit → Trit
other_value trit.Zero = trit.One
other_value trit.One = trit.Zero
other_value trit.Unknown = trit.Unknown

abbrev pub damaged_truth_row : TruthRow → TruthRow
damaged_truth_row row = record row { result = other_value row.result }

-- the value of an output whose table has its first row damaged; a constant stays
abbrev pub damaged_value : OutValue → OutValue
damaged_value (value.Constant one) = value.Constant one
damaged_value (value.Table table inputs) = value.Table (record { rows = alter_first damaged_truth_row table.rows }) inputs

abbrev pub damaged_output : VOutput → VOutput
damaged_output o = record o { value = damaged_value o.value }

-- an entity with these states damaged: in the first one, and without states in the first output
abbrev pub damaged_by : List VState → VEntity → VEntity
damaged_by [] e = record e { outputs = alter_first damaged_output e.outputs }
damaged_by (s ∷ ss) e = record e { states = damaged_state s ∷ ss }

abbrev pub damaged_entity : VEntity → VEntity
damaged_entity e = damaged_by e.states e

-- Damage leaves a model sound.
abbrev pub DamagedModulesAreSound : Type 0
DamagedModulesAreSound = (m : VModule) → verilog.IsSound m → verilog.IsSound (damaged_module m)

abbrev pub DamagedEntitiesAreSound : Type 0
DamagedEntitiesAreSound = (e : VEntity) → vital.IsSound e → vital.IsSound (damaged_entity e)
