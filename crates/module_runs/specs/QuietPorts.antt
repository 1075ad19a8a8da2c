-- What is known of the `if` paths of two ports.
use Rattle.std.specs.Prelude.{◌≡◌, List, Option, Some}
use Rattle.std.specs.List.{list_all}
use Rattle.trit_cubes.specs.declared.trits.Trit.{Trit}
use Rattle.specify_blocks.specs.declared.model.VPath.{VPath}
use Rattle.specify_blocks.specs.declared.model.VModule.{VModule}
use Rattle.model_traces.specs.PathDelays.{is_quiet}
use Rattle.module_runs.specs.declared.delays.Quiet.{Quiet}

-- what is known is whether all other paths leave an `ifnone` path of those ports active
abbrev pub IsKnown : VModule → List Trit → List Trit → Option Quiet → Type 0
IsKnown m inputs states known =
    (quiet : Quiet) (path : VPath)
    → known ≡ Some quiet → path.from ≡ quiet.from → path.to ≡ quiet.to
    → quiet.holds ≡ list_all (is_quiet m inputs states path) m.paths
