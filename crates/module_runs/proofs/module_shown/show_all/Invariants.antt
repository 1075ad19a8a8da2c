use Rattle.std.proofs.Common.{◌≡◌, ◌++◌, take, drop, length, map}
use Rattle.run_parts.specs.KeptDelays.{AreKept}
use Rattle.module_runs.specs.OutputPaths.{output_paths}
use Rattle.module_runs.specs.ShownPorts.{shown_step}
use Rattle.module_runs.proofs.module_shown.show_all.Given as goal

-- what is shown so far and the steps of the rest give the steps of all
abbrev pub invariant-loop-i : goal.invariant-loop-i
invariant-loop-i l = record {
  whole :
      take l.i l.shown ++ map (shown_step l.values.tables.model.now l.values.inputs.now l.values.states.now l.input) (drop l.i l.shown)
      ≡ map (shown_step l.values.tables.model.now l.values.inputs.now l.values.states.now l.input) l.initial.shown;
  kept : AreKept (output_paths l.values.tables.model.now l.values.inputs.now l.values.states.now) l.delays;
  len : length l.shown ≡ length l.initial.shown;
}
