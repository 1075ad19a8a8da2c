-- The trace of a module: its outputs, its delays and its reports after each history of its inputs.
use Rattle.std.specs.Prelude.{ℕ, Bool, false, List, [], ◌∷◌, length, replicate, Option, None}
use Rattle.trit_cubes.specs.declared.trits.Trit.{Trit}
use Rattle.cell_machine.specs.declared.changes.Change.{Change}
use Rattle.cell_machine.specs.Lines.{Line, shown_line, trace, Machine, machine_by}
use Rattle.specify_blocks.specs.declared.model.VNet.TheVariants as net
use Rattle.specify_blocks.specs.declared.model.VModule.{VModule}
use Rattle.model_traces.specs.declared.module_run.ModuleRun.{ModuleRun}
use Rattle.run_parts.specs.PortNumbers.{input_count, output_ports}
use Rattle.model_traces.specs.NetValues.{net_value}
use Rattle.model_traces.specs.PathDelays.{delay_at}
use Rattle.model_traces.specs.ModuleRun.{run_after, step_reports}

-- the value of an output port
abbrev pub port_value : VModule → ModuleRun → ℕ → Trit
port_value m r p = net_value m r.inputs r.states (net.Port p)

abbrev pub output_after : VModule → List Change → ℕ → Trit
output_after m h p = port_value m (run_after m h) p

-- the delay of an output port at a change of an input before which it had the value a
abbrev pub port_delay : VModule → ModuleRun → ℕ → ℕ → Trit → Option ℕ
port_delay m r input p a = delay_at m r.inputs r.states input p a (port_value m r p)

-- the delay of an output port at the newest change
abbrev pub delay_after : VModule → List Change → ℕ → Option ℕ
delay_after m [] p = None
delay_after m (c ∷ h) p = port_delay m (run_after m (c ∷ h)) c.pin p (output_after m h p)

-- whether each check reports at the newest change
abbrev pub reports_after : VModule → List Change → List Bool
reports_after m [] = replicate (length m.checks) false
reports_after m (c ∷ h) = step_reports m (run_after m h) c

-- What a module shows after a history of its inputs.
abbrev pub module_line : VModule → List Change → Line
module_line m = shown_line (output_ports m.ports) (output_after m) (delay_after m) (reports_after m)

-- The trace of a module on changes of its inputs, the oldest first.
abbrev pub module_trace : VModule → List Change → List Line
module_trace m = trace (module_line m)

-- the module as what a simulator runs
abbrev pub module_machine : VModule → Machine
module_machine m = machine_by (input_count m.ports) (length m.checks) (output_ports m.ports) (module_line m)
