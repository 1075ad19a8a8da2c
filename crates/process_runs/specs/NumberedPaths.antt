-- The paths of an entity by the numbers of its outputs.
use Rattle.std.specs.Prelude.{ℕ, List, [], slice_get}
use Rattle.std.specs.Option.{option_map_or}
use Rattle.trit_cubes.specs.declared.trits.Trit.{Trit}
use Rattle.cell_machine.specs.Delay.{Path}
use Rattle.vital_models.specs.declared.model.VEntity.{VEntity}
use Rattle.model_traces.specs.GatedPaths.{paths_from}

-- the paths to the output with this number, none where there is no such output, from an input
abbrev pub numbered_paths : VEntity → List Trit → ℕ → ℕ → List Path
numbered_paths e inputs output input = option_map_or (paths_from e inputs input) (slice_get e.outputs output) []
