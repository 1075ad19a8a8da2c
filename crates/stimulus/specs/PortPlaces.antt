-- A port by its number among the inputs of its cell and that among the outputs (this project's rule).
use Rattle.std.specs.Prelude.{ℕ, Option, Some, None}
use Rattle.stimulus.specs.declared.catalog.PinFound.{PinFound}
use Rattle.stimulus.specs.declared.catalog.PinFound.TheVariants.{Input, Output, Unknown}

abbrev pub port_at : Option ℕ → Option ℕ → PinFound
port_at (Some number) output = Input number
port_at None (Some number) = Output
port_at None None = Unknown
