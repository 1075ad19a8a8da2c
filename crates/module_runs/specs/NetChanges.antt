-- The values of the nets that feed a primitive with a state.
use Rattle.std.specs.Prelude.{List, map}
use Rattle.trit_cubes.specs.declared.trits.Trit.{Trit}
use Rattle.model_traces.specs.Primitives.{entry_value}
use Rattle.module_runs.specs.declared.primitives.NetChanges.{NetChanges}

abbrev pub entry_values : NetChanges → List Trit
entry_values s = map (entry_value s.ports.list.now s.inputs.now s.notifier) s.nets.now
