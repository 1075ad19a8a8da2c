-- A value that something else may stand in the place of.
use Rattle.std.specs.Prelude.{◌≡◌, Option, None, Some, Result, Ok, Err}

-- the value is kept where nothing stands in its place
abbrev pub IsKept : {A P E : Type 0} → A → Result (Option P) E → Result A P → Type 0
IsKept x instead (Ok y) = (instead ≡ Ok None) × (y ≡ x)
IsKept x instead (Err p) = instead ≡ Ok (Some p)
