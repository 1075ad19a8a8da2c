-- What a run keeps is what the whole history says.
use Rattle.std.proofs.Common.{◌≡◌, ℕ, Bool, true, false, List, [], ◌∷◌, length, map, replicate, set, refl, ap, sym, ◌∙◌, Some}
use Rattle.std.proofs.Common.{if◌then◌else◌}
use Rattle.std.proofs.lemmas.List.{set-get_or}
use Rattle.trit_cubes.specs.declared.trits.Trit.{Trit}
use Rattle.trit_cubes.specs.declared.trits.Trit.TheVariants.{Unknown}
use Rattle.cell_machine.specs.declared.changes.Change.{Change}
use Rattle.cell_machine.specs.declared.checks.Event.{Event}
use Rattle.cell_machine.specs.declared.checks.Edge.TheVariants as edge
use Rattle.cell_machine.specs.Edges.{is_rise}
use Rattle.cell_machine.specs.History.{inputs_after, value_before, is_event}
use Rattle.cell_machine.specs.Report.{is_period, last_event}
use Rattle.cell_machine.specs.Each.{each}
use Rattle.cell_machine.proofs.EachLemmas.{each-map}
use Rattle.cell_machine.proofs.StillLemmas.{same-equal, no-event}
use Rattle.udp_tables.specs.declared.models.VPort.{VPort}
use Rattle.udp_tables.specs.declared.timing_checks.TimingCheck.{TimingCheck}
use Rattle.specify_blocks.specs.declared.model.VModule.{VModule}
use Rattle.model_traces.specs.declared.module_run.ModuleRun.{ModuleRun}
use Rattle.run_parts.specs.PortNumbers.{input_count, input_event}
use Rattle.run_parts.specs.CheckEvents.{second_of, opening_event}
use Rattle.run_parts.specs.CheckTimes.{stamped, same_edge, opened_by, opened}
use Rattle.cell_machine.specs.Times.{no_times}
use Rattle.model_traces.specs.ModuleRun.{entered, kept, notified, shaken, reports_at, happened, run_after}
use Rattle.model_traces.specs.Laws.{last_stamps, RunHoldsInputs, RunKeepsLastEvents}

shaken-inputs : (m : VModule) (reports : List Bool) (r : ModuleRun) → (shaken m reports r).inputs ≡ r.inputs
shaken-inputs m [] r = refl
shaken-inputs m (true ∷ reports) r = shaken-inputs m reports (notified m r)
shaken-inputs m (false ∷ reports) r = shaken-inputs m reports r

shaken-stamps : (m : VModule) (reports : List Bool) (r : ModuleRun) → (shaken m reports r).stamps ≡ r.stamps
shaken-stamps m [] r = refl
shaken-stamps m (true ∷ reports) r = shaken-stamps m reports (notified m r)
shaken-stamps m (false ∷ reports) r = shaken-stamps m reports r

-- an input that is set to the value that it has stays
pub still-inputs : (v : List Trit) (c : Change) → is_event v c ≡ false → v ≡ set v c.pin c.to
still-inputs v c e =
    sym (ap (set v c.pin) (same-equal (value_before v c) c.to e) ∙ set-get_or v c.pin Unknown)

inputs-step :
    (m : VModule) (r : ModuleRun) (v : List Trit) (c : Change) (b : Bool)
    → r.inputs ≡ v → is_event r.inputs c ≡ b → (if b then happened m r c else r).inputs ≡ set v c.pin c.to
inputs-step m r v c true is e =
    shaken-inputs m (reports_at m r c) (kept m (entered m r c) (value_before r.inputs c) c)
    ∙ ap (λ xs. set xs c.pin c.to) is
inputs-step m r v c false is e = still-inputs r.inputs c e ∙ ap (λ xs. set xs c.pin c.to) is

pub run-inputs : RunHoldsInputs
run-inputs m [] = refl
run-inputs m (c ∷ h) =
    inputs-step m (run_after m h) (inputs_after (input_count m.ports) h) c (is_event (run_after m h).inputs c) (run-inputs m h)
    refl

-- the last events stay at a change that is none
pub still-event :
    (n : ℕ) (e : Event) (h : List Change) (c : Change)
    → is_event (inputs_after n h) c ≡ false → last_event n e h ≡ last_event n e (c ∷ h)
still-event n e h c none =
    sym (ap (λ b. if b then Some c.at else last_event n e h)
    (no-event e (inputs_after n h) c (same-equal (value_before (inputs_after n h) c) c.to none)))

pub start-stamps :
    (ports : List VPort) (n : ℕ) (checks : List TimingCheck)
    → replicate (length checks) no_times ≡ map (last_stamps ports n []) checks
start-stamps ports n [] = refl
start-stamps ports n (k ∷ ks) = ap (λ r. no_times ∷ r) (start-stamps ports n ks)

pub still-stamps :
    (ports : List VPort) (n : ℕ) (h : List Change) (c : Change) (checks : List TimingCheck)
    → is_event (inputs_after n h) c ≡ false → map (last_stamps ports n h) checks ≡ map (last_stamps ports n (c ∷ h)) checks
still-stamps ports n h c checks none =
    λ i. map (λ (k : TimingCheck). record {
      event = still-event n (input_event ports k.first) h c none i;
      rise = still-event n (input_event ports (second_of k edge.Rise)) h c none i;
      fall = still-event n (input_event ports (second_of k edge.Fall)) h c none i;
    }) checks

-- the time from which a check measures, by the times of the last events
pub opened-last :
    (ports : List VPort) (n : ℕ) (h : List Change) (a : Trit) (c : Change) (k : TimingCheck)
    → opened k a c (last_stamps ports n h k) ≡ last_event n (input_event ports (opening_event (is_period k.kind) k a c)) h
opened-last ports n h a c k = by (is_period k.kind)
  where
    edges :
        (rises : Bool)
        → same_edge rises (last_stamps ports n h k)
        ≡ last_event n (input_event ports (second_of k (if rises then edge.Rise else edge.Fall))) h
    edges true = refl
    edges false = refl

    by : (period : Bool) → opened_by period a c (last_stamps ports n h k) ≡ last_event n
        (input_event ports (opening_event period k a c)) h
    by true = edges (is_rise a c.to)
    by false = refl

-- what a run of inputs v keeps after a change, by what it keeps after an event and where there is none
pub kept-step :
    {R T : Type 0} (kept_by : R → List T) (after still : R) (v : List Trit) (c : Change) (next : List T) (b : Bool)
    → is_event v c ≡ b → kept_by after ≡ next → (is_event v c ≡ false → kept_by still ≡ next)
    → kept_by (if b then after else still) ≡ next
kept-step kept_by after still v c next true is at_event at_none = at_event
kept-step kept_by after still v c next false is at_event at_none = at_none is

pub run-stamps : RunKeepsLastEvents
run-stamps m [] = start-stamps m.ports (input_count m.ports) m.checks
run-stamps m (c ∷ h) =
    let r : ModuleRun = run_after m h in
    let n : ℕ = input_count m.ports in
    kept-step (λ (run : ModuleRun). run.stamps) (happened m r c) r r.inputs c (map (last_stamps m.ports n (c ∷ h)) m.checks)
    (is_event r.inputs c) refl
    (shaken-stamps m (reports_at m r c) (kept m (entered m r c) (value_before r.inputs c) c)
    ∙ (λ i. each (stamped m.ports (value_before (run-inputs m h i) c) c) m.checks (run-stamps m h i))
    ∙ each-map (stamped m.ports (value_before (inputs_after n h) c) c) (last_stamps m.ports n h) m.checks)
    (λ none. run-stamps m h ∙ still-stamps m.ports n h c m.checks (ap (λ xs. is_event xs c) (sym (run-inputs m h)) ∙ none))
