-- The relation between the fields of a module's simulator and a history.
use Rattle.std.specs.Prelude.{◌≡◌, ℕ, Bool, List, length, map, IsTrue}
use Rattle.cell_machine.specs.declared.changes.Change.{Change}
use Rattle.specify_blocks.specs.declared.model.VModule.{VModule}
use Rattle.model_traces.specs.declared.module_run.ModuleRun.{ModuleRun}
use Rattle.run_parts.specs.declared.shown.ShownPort.{ShownPort}
use Rattle.model_traces.specs.PortNumbers.{input_count, output_ports}
use Rattle.model_traces.specs.ModuleRun.{HasEach, run_after}
use Rattle.model_traces.specs.ModuleTrace.{output_after, delay_after, reports_after}
use Rattle.module_runs.specs.declared.module_run.ModuleState.{ModuleState}
use Rattle.module_runs.specs.Wiring.{is_wired}
use Rattle.module_runs.specs.KeptValues.{kept_values}
pub use Rattle.model_traces.specs.ModuleTrace.{module_machine}
pub use Rattle.model_traces.specs.ModuleSized.{module_sized}

-- what an output port shows after a history
abbrev pub shown_after : VModule → List Change → ℕ → ShownPort
shown_after m h p = record { port = p; value = output_after m h p; delay = delay_after m h p }

-- A run of a module stands with what its instances drive, and with room for the values of the nets that feed any instance.
pub record IsCurrent (m : VModule) (state : ModuleState) : Type 0 where
  pub wired : IsTrue (is_wired (length state.room) m)
  pub kept_are : state.kept ≡ kept_values m state.run.inputs state.run.states
  pub one_each : HasEach m state.run

-- The same, with a value for each input and a report of each check.
pub record IsReady (m : VModule) (state : ModuleState) (reports : List Bool) : Type 0 where
  pub current : IsCurrent m state
  pub each_input : length state.run.inputs ≡ input_count m.ports
  pub one_report : length reports ≡ length m.checks

-- The simulator of a module stands after a history: its fields are what the run gives there.
pub record Stands (m : VModule) (run : ModuleRun) (reports : List Bool) (shown : List ShownPort) (h : List Change) : Type 0 where
  pub run_is : run ≡ run_after m h
  pub reports_are : reports ≡ reports_after m h
  pub shown_are : shown ≡ map (shown_after m h) (output_ports m.ports)
