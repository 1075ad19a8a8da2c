-- The run of a module: what it holds, and how a change of an input takes it on. (IEEE 1364-2005, clauses 8, 14 and 15, as this
-- project reads them.)
use Rattle.std.specs.Prelude.{◌≡◌, Bool, true, false, List, [], ◌∷◌, length, replicate, slice_set, if◌then◌else◌}
use Rattle.trit_cubes.specs.declared.trits.Trit.{Trit}
use Rattle.trit_cubes.specs.declared.trits.Trit.TheVariants.{Zero, One, Unknown}
use Rattle.cell_machine.specs.declared.changes.Change.{Change}
use Rattle.cell_machine.specs.History.{value_before, is_event}
use Rattle.cell_machine.specs.Each.{each}
use Rattle.specify_blocks.specs.declared.model.VModule.{VModule}
use Rattle.model_traces.specs.declared.turns.Turned.TheVariants as turned
use Rattle.model_traces.specs.declared.turns.Turn.{Turn}
use Rattle.model_traces.specs.declared.module_run.ModuleRun.{ModuleRun}
use Rattle.run_parts.specs.PortNumbers.{input_count}
use Rattle.model_traces.specs.Primitives.{next_states}
use Rattle.model_traces.specs.CheckReports.{check_reports}
use Rattle.run_parts.specs.CheckTimes.{stamped}
use Rattle.cell_machine.specs.Times.{no_times}

-- before any change: all inputs, states and the register are X, and no time is kept (this project's rule)
abbrev pub start_run : VModule → ModuleRun
start_run m =
    record {
      inputs = replicate (input_count m.ports) Unknown;
      states = replicate (length m.instances) Unknown;
      notifier = Unknown;
      stamps = replicate (length m.checks) no_times;
    }

-- the run has a state for each instance and kept times for each check
pub record HasEach (m : VModule) (r : ModuleRun) : Type 0 where
  pub states : length r.states ≡ length m.instances
  pub stamps : length r.stamps ≡ length m.checks

-- what changes at a change of an input
abbrev pub turn_of : List Trit → Change → Turn
turn_of inputs c = record { what = turned.Input c.pin; from = value_before inputs c }

-- First the input takes its value, and each primitive with a state that it feeds takes its next state.
abbrev pub entered : VModule → ModuleRun → Change → ModuleRun
entered m r c =
    record {
      inputs = slice_set r.inputs c.pin c.to;
      states = next_states m (slice_set r.inputs c.pin c.to) r.notifier (turn_of r.inputs c) r.states;
      notifier = r.notifier;
      stamps = r.stamps;
    }

-- Then each check is compared, with the time that it kept before.
abbrev pub reports_by : VModule → ModuleRun → Trit → Change → List Bool
reports_by m r a c = each (check_reports m r.inputs r.states a c) m.checks r.stamps

-- After all are compared, each keeps the time of the change where that is its first event.
abbrev pub kept : VModule → ModuleRun → Trit → Change → ModuleRun
kept m r a c =
    record {
      inputs = r.inputs;
      states = r.states;
      notifier = r.notifier;
      stamps = each (stamped m.ports a c) m.checks r.stamps;
    }

-- what the register becomes at a violation: 0 after x, else the other value
abbrev pub toggled : Trit → Trit
toggled Zero = One
toggled One = Zero
toggled Unknown = Zero

-- the register changes once, and each primitive with a state that it feeds takes its next state
abbrev pub notified : VModule → ModuleRun → ModuleRun
notified m r =
    record {
      inputs = r.inputs;
      states = next_states m r.inputs (toggled r.notifier) (record { what = turned.Notifier; from = r.notifier }) r.states;
      notifier = toggled r.notifier;
      stamps = r.stamps;
    }

-- Last the register changes once for each report, in the order of the checks.
abbrev pub shaken : VModule → List Bool → ModuleRun → ModuleRun
shaken m [] r = r
shaken m (true ∷ reports) r = shaken m reports (notified m r)
shaken m (false ∷ reports) r = shaken m reports r

-- the reports at an event
abbrev pub reports_at : VModule → ModuleRun → Change → List Bool
reports_at m r c = reports_by m (entered m r c) (value_before r.inputs c) c

-- the run after an event
abbrev pub happened : VModule → ModuleRun → Change → ModuleRun
happened m r c = shaken m (reports_at m r c) (kept m (entered m r c) (value_before r.inputs c) c)

-- The run after a change. One to the value that the input has alters nothing.
abbrev pub run_step : VModule → ModuleRun → Change → ModuleRun
run_step m r c = (if is_event r.inputs c then happened m r c else r)

-- the reports at a change: none where it is no event
abbrev pub step_reports : VModule → ModuleRun → Change → List Bool
step_reports m r c = (if is_event r.inputs c then reports_at m r c else replicate (length m.checks) false)

-- the run after a history, which has the newest change first
abbrev pub run_after : VModule → List Change → ModuleRun
run_after m [] = start_run m
run_after m (c ∷ h) = run_step m (run_after m h) c
