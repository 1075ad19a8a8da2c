use Rattle.std.proofs.Common.{◌≡◌, ◌++◌, drop, map}
use Rattle.model_traces.specs.PortNumbers.{outputs_from, output_ports}
use Rattle.module_runs.specs.ShownPorts.{shown_first}
use Rattle.module_runs.proofs.module_shown.show_start.Given as goal

-- what is shown so far and the outputs among the rest of the ports give all outputs
abbrev pub invariant-loop-i : goal.invariant-loop-i
invariant-loop-i l =
    l.shown
    ++ map (shown_first l.values.tables.model.now l.values.inputs.now l.values.states.now) (outputs_from l.i (drop l.i l.values.tables.model.now.ports))
    ≡ map (shown_first l.values.tables.model.now l.values.inputs.now l.values.states.now) (output_ports l.values.tables.model.now.ports)
