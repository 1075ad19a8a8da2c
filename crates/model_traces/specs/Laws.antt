-- Laws of the runs of modules: what a run keeps is what the whole history says.
use Rattle.std.specs.Prelude.{◌≡◌, ℕ, List, map}
use Rattle.trit_cubes.specs.declared.trits.Trit.{Trit}
use Rattle.cell_machine.specs.declared.changes.Change.{Change}
use Rattle.cell_machine.specs.declared.times.Times.{Times}
use Rattle.cell_machine.specs.declared.checks.Edge.TheVariants as edge
use Rattle.cell_machine.specs.History.{inputs_after}
use Rattle.cell_machine.specs.Report.{last_event}
use Rattle.udp_tables.specs.declared.models.VPort.{VPort}
use Rattle.udp_tables.specs.declared.timing_checks.TimingCheck.{TimingCheck}
use Rattle.specify_blocks.specs.declared.model.VModule.{VModule}
use Rattle.run_parts.specs.PortNumbers.{input_count, input_event}
use Rattle.run_parts.specs.CheckEvents.{second_of}
use Rattle.model_traces.specs.ModuleRun.{run_after}

-- the times of a check's last events in a history of n inputs
abbrev pub last_stamps : List VPort → ℕ → List Change → TimingCheck → Times
last_stamps ports n h k =
    record {
      event = last_event n (input_event ports k.first) h;
      rise = last_event n (input_event ports (second_of k edge.Rise)) h;
      fall = last_event n (input_event ports (second_of k edge.Fall)) h;
    }

-- runs of models with these ports hold the values that the changes gave to the inputs
abbrev pub HoldInputs : {M : Type 0} → (M → List VPort) → (M → List Change → List Trit) → Type 0
HoldInputs {M} ports inputs = (m : M) (h : List Change) → inputs m h ≡ inputs_after (input_count (ports m)) h

-- for each check of a model with these ports is kept what the last events in the whole history say
abbrev pub KeepLastEvents : {M T : Type 0} → (M → List VPort) → (M → List TimingCheck)
    → (List VPort → ℕ → List Change → TimingCheck → T) → (M → List Change → List T) → Type 0
KeepLastEvents {M} ports checks last kept =
    (m : M) (h : List Change) → kept m h ≡ map (last (ports m) (input_count (ports m)) h) (checks m)

abbrev pub RunHoldsInputs : Type 0
RunHoldsInputs = HoldInputs (λ (m : VModule). m.ports) (λ m h. (run_after m h).inputs)

abbrev pub RunKeepsLastEvents : Type 0
RunKeepsLastEvents = KeepLastEvents (λ (m : VModule). m.ports) (λ m. m.checks) last_stamps (λ m h. (run_after m h).stamps)
