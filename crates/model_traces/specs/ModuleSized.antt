-- Each line of a module has an entry for each output and each check.
use Rattle.std.proofs.Common.{◌≡◌, ℕ, List, [], ◌∷◌, length, Bool, true, false, replicate, sym, ◌∙◌, if◌then◌else◌}
use Rattle.std.proofs.lemmas.List.{length-map, length-replicate}
use Rattle.trit_cubes.specs.declared.trits.Trit.{Trit}
use Rattle.trit_cubes.specs.declared.trits.Trit.TheVariants.{Unknown}
use Rattle.cell_machine.specs.declared.changes.Change.{Change}
use Rattle.cell_machine.specs.History.{value_before, is_event}
use Rattle.cell_machine.specs.Each.{each}
use Rattle.cell_machine.specs.Lines.{IsSized}
use Rattle.cell_machine.proofs.EachLemmas.{length-each as each-long}
use Rattle.specify_blocks.specs.declared.model.VModule.{VModule}
use Rattle.model_traces.specs.declared.turns.Turned.TheVariants as turned
use Rattle.model_traces.specs.declared.module_run.ModuleRun.{ModuleRun}
use Rattle.run_parts.specs.PortNumbers.{output_ports}
use Rattle.model_traces.specs.Primitives.{next_state}
use Rattle.model_traces.specs.CheckReports.{check_reports}
use Rattle.run_parts.specs.CheckTimes.{stamped}
use Rattle.cell_machine.specs.Times.{no_times}
use Rattle.model_traces.specs.ModuleRun.{HasEach, start_run, turn_of, entered, kept, toggled, notified, shaken, reports_at}
use Rattle.model_traces.specs.ModuleRun.{happened, run_after}
use Rattle.model_traces.specs.ModuleTrace.{output_after, delay_after, reports_after, module_machine}

pub length-each :
    {X S T : Type 0} (f : X → S → T) (xs : List X) (ss : List S) → length ss ≡ length xs → length (each f xs ss) ≡ length xs
length-each f xs ss h = each-long f xs ss (sym h) ∙ h

pub start-has-each : (m : VModule) → HasEach m (start_run m)
start-has-each m =
    record {
      states = length-replicate (length m.instances) Unknown;
      stamps = length-replicate (length m.checks) no_times;
    }

pub entered-has-each : (m : VModule) (r : ModuleRun) (c : Change) → HasEach m r → HasEach m (entered m r c)
entered-has-each m r c h =
    record {
      states = length-each (next_state m (entered m r c).inputs r.notifier (turn_of r.inputs c)) m.instances r.states h.states;
      stamps = h.stamps;
    }

pub kept-has-each : (m : VModule) (r : ModuleRun) (a : Trit) (c : Change) → HasEach m r → HasEach m (kept m r a c)
kept-has-each m r a c h =
    record { states = h.states; stamps = length-each (stamped m.ports a c) m.checks r.stamps h.stamps }

pub notified-has-each : (m : VModule) (r : ModuleRun) → HasEach m r → HasEach m (notified m r)
notified-has-each m r h =
    record {
      states =
          length-each (next_state m r.inputs (toggled r.notifier) (record { what = turned.Notifier; from = r.notifier }))
          m.instances
          r.states h.states;
      stamps = h.stamps;
    }

pub shaken-has-each : (m : VModule) (reports : List Bool) (r : ModuleRun) → HasEach m r → HasEach m (shaken m reports r)
shaken-has-each m [] r h = h
shaken-has-each m (true ∷ reports) r h = shaken-has-each m reports (notified m r) (notified-has-each m r h)
shaken-has-each m (false ∷ reports) r h = shaken-has-each m reports r h

pub happened-has-each : (m : VModule) (r : ModuleRun) (c : Change) → HasEach m r → HasEach m (happened m r c)
happened-has-each m r c h =
    shaken-has-each m (reports_at m r c) (kept m (entered m r c) (value_before r.inputs c) c)
    (kept-has-each m (entered m r c) (value_before r.inputs c) c (entered-has-each m r c h))

either-has-each :
    (b : Bool) (m : VModule) (r s : ModuleRun) → HasEach m r → HasEach m s → HasEach m (if b then r else s)
either-has-each true m r s h k = h
either-has-each false m r s h k = k

pub run-has-each : (m : VModule) (h : List Change) → HasEach m (run_after m h)
run-has-each m [] = start-has-each m
run-has-each m (c ∷ h) =
    either-has-each (is_event (run_after m h).inputs c) m (happened m (run_after m h) c) (run_after m h)
    (happened-has-each m (run_after m h) c (run-has-each m h)) (run-has-each m h)

pub length-reports_at :
    (m : VModule) (r : ModuleRun) (c : Change) → HasEach m r → length (reports_at m r c) ≡ length m.checks
length-reports_at m r c h =
    length-each (check_reports m (entered m r c).inputs (entered m r c).states (value_before r.inputs c) c) m.checks r.stamps
    h.stamps

pub either-length :
    (b : Bool) (n : ℕ) (xs ys : List Bool) → length xs ≡ n → length ys ≡ n → length (if b then xs else ys) ≡ n
either-length true n xs ys h k = h
either-length false n xs ys h k = k

pub length-reports : (m : VModule) (h : List Change) → length (reports_after m h) ≡ length m.checks
length-reports m [] = length-replicate (length m.checks) false
length-reports m (c ∷ h) =
    either-length (is_event (run_after m h).inputs c) (length m.checks) (reports_at m (run_after m h) c)
    (replicate (length m.checks) false) (length-reports_at m (run_after m h) c (run-has-each m h))
    (length-replicate (length m.checks) false)

pub module_sized : (m : VModule) → IsSized (module_machine m)
module_sized m =
    record {
      values = λ h. length-map (output_ports m.ports) (output_after m h);
      delays = λ h. length-map (output_ports m.ports) (delay_after m h);
      reports = length-reports m;
    }
