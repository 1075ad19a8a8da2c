-- The paths of a module by the outputs to which they lead.
use Rattle.std.specs.Prelude.{ℕ, Bool, List, filter, nat_eq}
use Rattle.trit_cubes.specs.declared.trits.Trit.{Trit}
use Rattle.cell_machine.specs.Delay.{Path}
use Rattle.specify_blocks.specs.declared.model.VModule.{VModule}
use Rattle.specify_blocks.specs.declared.model.VPath.{VPath}
use Rattle.model_traces.specs.PathDelays.{paths_between}
use Rattle.run_parts.specs.NumberedLists.{AreLists}

-- whether a path leads to a port
abbrev pub leads_to : ℕ → VPath → Bool
leads_to port path = nat_eq path.to port

-- each of these lists has the paths that lead to its port, in their order
abbrev pub AreByOutput : List VPath → List (List VPath) → Type 0
AreByOutput paths = AreLists (λ port. filter (leads_to port) paths)

-- the paths to an output port from an input, at values of the inputs and states
abbrev pub output_paths : VModule → List Trit → List Trit → ℕ → ℕ → List Path
output_paths m inputs states output input = paths_between m inputs states input output
