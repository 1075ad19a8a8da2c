-- The trace of an entity: its outputs, its delays and its reports after each history of its inputs.
use Rattle.std.specs.Prelude.{ℕ, Bool, false, List, [], ◌∷◌, length, replicate, Option, None}
use Rattle.trit_cubes.specs.declared.trits.Trit.{Trit}
use Rattle.cell_machine.specs.declared.changes.Change.{Change}
use Rattle.cell_machine.specs.Lines.{Line, shown_line, trace, Machine, machine_by}
use Rattle.vital_models.specs.declared.model.VOutput.{VOutput}
use Rattle.vital_models.specs.declared.model.VEntity.{VEntity}
use Rattle.run_parts.specs.PortNumbers.{input_count}
use Rattle.model_traces.specs.ProcessValues.{output_value}
use Rattle.model_traces.specs.GatedPaths.{delay_at}
use Rattle.model_traces.specs.ProcessRun.{process_after, step_reports}

-- the value of an output
abbrev pub output_after : VEntity → List Change → VOutput → Trit
output_after e h output = output_value e (process_after e h).inputs (process_after e h).states output.value

-- the delay of an output at the newest change
abbrev pub delay_after : VEntity → List Change → VOutput → Option ℕ
delay_after e [] output = None
delay_after e (c ∷ h) output =
    delay_at e (process_after e (c ∷ h)).inputs c.pin output (output_after e h output) (output_after e (c ∷ h) output)

-- whether each check reports at the newest change
abbrev pub reports_after : VEntity → List Change → List Bool
reports_after e [] = replicate (length e.checks) false
reports_after e (c ∷ h) = step_reports e (process_after e h) c

-- What an entity shows after a history of its inputs. At the start it shows the results of its tables at X, and its constants.
abbrev pub entity_line : VEntity → List Change → Line
entity_line e = shown_line e.outputs (output_after e) (delay_after e) (reports_after e)

-- The trace of an entity on changes of its inputs, the oldest first, and the entity as what a simulator runs.
abbrev pub entity_trace : VEntity → List Change → List Line
entity_trace e = trace (entity_line e)

abbrev pub entity_machine : VEntity → Machine
entity_machine e = machine_by (input_count e.ports) (length e.checks) e.outputs (entity_line e)
