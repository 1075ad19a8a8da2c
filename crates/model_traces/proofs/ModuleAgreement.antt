-- A module that fits a cell shows what the cell shows.
use Rattle.std.proofs.Common.{◌≡◌, ℕ, Bool, true, false, ◌&&◌, List, [], ◌∷◌, ◌<◌, length, map, set, refl, ap, ◌∙◌, Some, None}
use Rattle.std.proofs.Common.{arith, if◌then◌else◌}
use Rattle.trit_cubes.specs.declared.trits.Trit.{Trit}
use Rattle.trit_cubes.specs.declared.trits.Trit.TheVariants.{Unknown}
use Rattle.trit_cubes.specs.Filling.{same}
use Rattle.cell_machine.specs.declared.outputs.OutputPin.{OutputPin}
use Rattle.cell_machine.specs.declared.checks.Check.{Check}
use Rattle.cell_machine.specs.declared.changes.Change.{Change}
use Rattle.cell_machine.specs.CellData.{CellData}
use Rattle.cell_machine.specs.Each.{each}
use Rattle.cell_machine.specs.Delay.{least_delay}
use Rattle.cell_machine.specs.History.{inputs_after, value_before, is_event, IsProper, IsProperFrom}
use Rattle.cell_machine.specs.Report.{happens, is_within, report, any_true}
use Rattle.cell_machine.specs.CellTrace.{inputs_of, input_check, reports_of, NamedGroup, named_groups, moved, violated}
use Rattle.cell_machine.specs.CellTrace.{state_step, state_after, states_after, cell_trace}
use Rattle.cell_machine.specs.CellTrace as cell
use Rattle.udp_tables.specs.CellPrimitives.{has_notifier}
use Rattle.specify_blocks.specs.declared.model.Instance.{Instance}
use Rattle.specify_blocks.specs.declared.model.VNet.TheVariants as net
use Rattle.udp_tables.specs.declared.timing_checks.TimingCheck.{TimingCheck}
use Rattle.specify_blocks.specs.declared.model.VModule.{VModule}
use Rattle.specify_blocks.specs.Nets.{has_state}
use Rattle.model_traces.specs.declared.turns.Turned.TheVariants as turned
use Rattle.model_traces.specs.declared.module_run.ModuleRun.{ModuleRun}
use Rattle.run_parts.specs.PortNumbers.{output_ports}
use Rattle.model_traces.specs.NetValues.{net_value}
use Rattle.model_traces.specs.Primitives.{next_state}
use Rattle.model_traces.specs.CheckReports.{check_reports}
use Rattle.model_traces.specs.ModuleRun.{HasEach, turn_of, toggled, entered, kept, notified, shaken, reports_at, happened}
use Rattle.model_traces.specs.ModuleRun.{run_after}
use Rattle.model_traces.specs.PathDelays.{paths_between}
use Rattle.model_traces.specs.ModuleTrace.{output_after, delay_after, reports_after, module_trace}
use Rattle.model_traces.specs.ModuleSized.{entered-has-each, kept-has-each, notified-has-each, run-has-each}
use Rattle.model_traces.specs.SequentialStates.{sequential_instances, states_among, sequential_states}
use Rattle.model_traces.specs.ModuleFits.{FitsGroup, FitGroups, FitsCheck, FitsOutput, ModuleFits}
use Rattle.model_traces.specs.Laws.{last_stamps}
use Rattle.model_traces.specs.Agreement.{FittingModulesAgree}
use Rattle.model_traces.proofs.RunLemmas.{run-inputs, run-stamps, opened-last}
use Rattle.model_traces.proofs.FitLemmas.{fit-kept, fit-steps, start-states, opening-same, states-step, reports-fit, traces-fit}
use Rattle.model_traces.proofs.TraceLemmas.{length-inputs, some-checks, picked-each, picked-replicate, length-picked}

-- the register changes nothing where no check reports
shaken-none : (m : VModule) (reports : List Bool) (r : ModuleRun) → any_true reports ≡ false → shaken m reports r ≡ r
shaken-none m [] r e = refl
shaken-none m (true ∷ reports) r e = absurd cc
shaken-none m (false ∷ reports) r e = shaken-none m reports r e

-- states that each change of the register gives, whatever the states were
module _ (m : VModule) (v : List Trit) (forced : List Trit)
    (forces : (r : ModuleRun) → r.inputs ≡ v → HasEach m r → sequential_states m (notified m r) ≡ forced) where
  shaken-stays :
      (reports : List Bool) (r : ModuleRun)
      → r.inputs ≡ v → HasEach m r → sequential_states m r ≡ forced → sequential_states m (shaken m reports r) ≡ forced
  shaken-stays [] r is each_one stands = stands
  shaken-stays (true ∷ reports) r is each_one stands =
      shaken-stays reports (notified m r) is (notified-has-each m r each_one) (forces r is each_one)
  shaken-stays (false ∷ reports) r is each_one stands = shaken-stays reports r is each_one stands

  shaken-some :
      (reports : List Bool) (r : ModuleRun)
      → r.inputs ≡ v → HasEach m r → any_true reports ≡ true → sequential_states m (shaken m reports r) ≡ forced
  shaken-some [] r is each_one e = absurd cc
  shaken-some (true ∷ reports) r is each_one e =
      shaken-stays reports (notified m r) is (notified-has-each m r each_one) (forces r is each_one)
  shaken-some (false ∷ reports) r is each_one e = shaken-some reports r is each_one e

module _ (d : CellData) (m : VModule) (fits : ModuleFits d m) where
  abbrev n : ℕ
  n = inputs_of d

  run-is : (h : List Change) → (run_after m h).inputs ≡ inputs_after n h
  run-is h = run-inputs m h ∙ ap (λ k. inputs_after k h) fits.inputs

  stamps-are : (h : List Change) → (run_after m h).stamps ≡ map (last_stamps m.ports n h) m.checks
  stamps-are h = run-stamps m h ∙ ap (λ k. map (last_stamps m.ports k h) m.checks) fits.inputs

  report-same :
      (states : List Trit) (c : Change) (h : List Change)
      → length states ≡ length m.instances → (k : Check) (j : TimingCheck) → FitsCheck d m k j
      → check_reports m (inputs_after n (c ∷ h)) states (value_before (inputs_after n h) c) c j (last_stamps m.ports n h j)
      ≡ report n (input_check d.pins k) (c ∷ h)
  report-same states c h long k j f =
      let a : Trit = value_before (inputs_after n h) c in
      let opens = opened-last m.ports n h a c j ∙ opening-same d m.ports n h a c k j f.measures in
      λ i.
      happens (f.measures.second i) a c
      && (f.enabled (inputs_after n (c ∷ h)) states (length-inputs n (c ∷ h)) long i
      && is_within c.at (f.measures.limit i) (opens i))

  -- the reports at an event
  event-reports : (h : List Change) (c : Change) → reports_at m (run_after m h) c ≡ reports_of d (c ∷ h)
  event-reports h c =
      let r : ModuleRun = run_after m h in
      let states : List Trit = (entered m r c).states in
      let long : length states ≡ length m.instances = (entered-has-each m r c (run-has-each m h)).states in
      (λ i. each (check_reports m (set (run-is h i) c.pin c.to) states (value_before (run-is h i) c) c) m.checks (stamps-are h i))
      ∙ fit-kept (FitsCheck d m) (check_reports m (inputs_after n (c ∷ h)) states (value_before (inputs_after n h) c) c)
      (last_stamps m.ports n h) (λ k. report n k (c ∷ h)) (input_check d.pins) (report-same states c h long) d.checks m.checks
      fits.checks

  -- all groups at a change of the register
  forced-all :
      (v : List Trit) (note : Trit)
      → length v ≡ n → has_notifier d ≡ true
      → (groups : List NamedGroup) (instances : List Instance) (states : List Trit)
      → FitGroups d m groups instances → length states ≡ length instances
      → each (next_state m v (toggled note) (record { what = turned.Notifier; from = note })) instances states
      ≡ map (λ g. violated d.pins g v) groups
  forced-all v note long some [] [] states f e = refl
  forced-all v note long some [] (x ∷ xs) states f e = absurd f
  forced-all v note long some (g ∷ gs) [] states f e = absurd f
  forced-all v note long some (g ∷ gs) (x ∷ xs) [] f e = absurd (omega arith)
  forced-all v note long some (g ∷ gs) (x ∷ xs) (s ∷ ss) f e =
      λ i. f.0.forces v note s long some i ∷ forced-all v note long some gs xs ss f.1 (omega arith) i

  notified-all :
      (v : List Trit) → length v ≡ n → has_notifier d ≡ true
      → (r : ModuleRun) → r.inputs ≡ v → HasEach m r
      → sequential_states m (notified m r) ≡ map (λ g. violated d.pins g v) (named_groups d)
  notified-all v long some r is each_one =
      picked-each (has_state m.udps) (next_state m r.inputs (toggled r.notifier)
      (record { what = turned.Notifier; from = r.notifier })) m.instances r.states each_one.states
      ∙ ap (λ w. each (next_state m w (toggled r.notifier) (record { what = turned.Notifier; from = r.notifier }))
      (sequential_instances m) (states_among m r.states)) is
      ∙ forced-all v r.notifier long some (named_groups d) (sequential_instances m) (states_among m r.states) fits.groups
      (length-picked (has_state m.udps) m.instances r.states each_one.states)

  -- the states after an event
  entered-tied :
      (h : List Change) (c : Change)
      → c.pin < n → is_event (inputs_after n h) c ≡ true
      → sequential_states m (run_after m h) ≡ states_after d h
      → sequential_states m (entered m (run_after m h) c)
      ≡ map (λ g. moved d.pins g (inputs_after n (c ∷ h)) (value_before (inputs_after n h) c) c (state_after d h g))
      (named_groups d)
  entered-tied h c inside event tied =
      let r : ModuleRun = run_after m h in
      let v : List Trit = inputs_after n h in
      picked-each (has_state m.udps) (next_state m (set r.inputs c.pin c.to) r.notifier (turn_of r.inputs c)) m.instances r.states
      (run-has-each m h).states
      ∙ (λ i. each (next_state m (set (run-is h i) c.pin c.to) r.notifier (turn_of (run-is h i) c)) (sequential_instances m)
      (tied i))
      ∙ fit-steps (FitsGroup d m) (next_state m (set v c.pin c.to) r.notifier (turn_of v c)) (state_after d h)
      (λ g. moved d.pins g (set v c.pin c.to) (value_before v c) c (state_after d h g))
      (λ g i f. f.steps v c r.notifier (state_after d h g) (length-inputs n h) inside event) (named_groups d)
      (sequential_instances m) fits.groups

  happened-tied :
      (h : List Change) (c : Change)
      → c.pin < n → is_event (inputs_after n h) c ≡ true
      → sequential_states m (run_after m h) ≡ states_after d h
      → sequential_states m (happened m (run_after m h) c)
      ≡ map (λ g. state_step (any_true (reports_of d (c ∷ h))) d.pins g (inputs_after n (c ∷ h))
      (value_before (inputs_after n h) c) c (state_after d h g)) (named_groups d)
  happened-tied h c inside event tied =
      let r : ModuleRun = run_after m h in
      let base : ModuleRun = kept m (entered m r c) (value_before r.inputs c) c in
      let has : HasEach m base = kept-has-each m (entered m r c) (value_before r.inputs c) c
      (entered-has-each m r c (run-has-each m h)) in
      ap (λ bs. sequential_states m (shaken m bs base)) (event-reports h c)
      ∙ by base has (λ i. set (run-is h i) c.pin c.to) (entered-tied h c inside event tied) (any_true (reports_of d (c ∷ h))) refl
    where
      by :
          (base : ModuleRun) → HasEach m base → base.inputs ≡ inputs_after n (c ∷ h)
          → sequential_states m base
          ≡ map (λ g. moved d.pins g (inputs_after n (c ∷ h)) (value_before (inputs_after n h) c) c (state_after d h g))
          (named_groups d)
          → (b : Bool) → any_true (reports_of d (c ∷ h)) ≡ b
          → sequential_states m (shaken m (reports_of d (c ∷ h)) base)
          ≡ map (λ g. state_step b d.pins g (inputs_after n (c ∷ h)) (value_before (inputs_after n h) c) c (state_after d h g))
          (named_groups d)
      by base has is stepped true e =
          shaken-some m (inputs_after n (c ∷ h)) (map (λ g. violated d.pins g (inputs_after n (c ∷ h))) (named_groups d))
          (notified-all (inputs_after n (c ∷ h)) (length-inputs n (c ∷ h))
          (some-checks (input_check d.pins) (λ k. report n k (c ∷ h)) d.checks e)) (reports_of d (c ∷ h)) base is has e
      by base has is stepped false e =
          ap (sequential_states m) (shaken-none m (reports_of d (c ∷ h)) base e) ∙ stepped

  pub states-tied : (h : List Change) → IsProper n h → sequential_states m (run_after m h) ≡ states_after d h
  states-tied [] proper =
      picked-replicate (has_state m.udps) m.instances Unknown
      ∙ start-states d (FitsGroup d m) (named_groups d) (sequential_instances m) fits.groups
  states-tied (c ∷ h) proper =
      let tied = states-tied h proper.2 in
      states-step d h c (run_after m h).inputs (sequential_states m) (happened m (run_after m h) c) (run_after m h) (run-is h)
      (λ event. happened-tied h c proper.0 event tied) tied

  output-tied :
      (h : List Change) → IsProper n h → (output : OutputPin) (p : ℕ) → FitsOutput d m output p
      → output_after m h p ≡ cell.output_after d h output
  output-tied h proper output p f =
      let r : ModuleRun = run_after m h in
      (λ i. net_value m (run-is h i) r.states (net.Port p))
      ∙ f.values (inputs_after n h) r.states (length-inputs n h) (run-has-each m h).states
      ∙ ap (λ states. cell.output_value d.pins d.groups (inputs_after n h) states output) (states-tied h proper)

  delay-tied :
      (h : List Change) → IsProper n h → (output : OutputPin) (p : ℕ) → FitsOutput d m output p
      → delay_after m h p ≡ cell.delay_after d h output
  delay-tied [] proper output p f = refl
  delay-tied (c ∷ h) proper output p f =
      let r : ModuleRun = run_after m (c ∷ h) in
      let was : output_after m h p ≡ cell.output_after d h output = output-tied h proper.2 output p f in
      let now : output_after m (c ∷ h) p ≡ cell.output_after d (c ∷ h) output = output-tied (c ∷ h) proper output p f in
      let paths =
      ap (λ v. paths_between m v r.states c.pin p) (run-is (c ∷ h))
      ∙ f.paths (inputs_after n (c ∷ h)) r.states c.pin (length-inputs n (c ∷ h)) (run-has-each m (c ∷ h)).states in
      λ i. if same (was i) (now i) then None else Some (least_delay (was i) (now i) (paths i))

  pub traces-agree : (cs : List Change) → IsProperFrom n [] cs → module_trace m cs ≡ cell_trace d cs
  traces-agree =
      traces-fit d (FitsOutput d m) (output_ports m.ports) (output_after m) (delay_after m) (reports_after m) fits.outputs
      output-tied delay-tied
      (reports-fit d (FitsCheck d m) m.checks (λ h. (run_after m h).inputs) (λ h c. reports_at m (run_after m h) c)
      (reports_after m)
      fits.checks run-is event-reports refl (λ c h. refl))

pub modules-agree : FittingModulesAgree
modules-agree d m fits = (traces-agree d m fits, states-tied d m fits)
