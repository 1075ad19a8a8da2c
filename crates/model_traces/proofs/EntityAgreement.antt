-- An entity that fits a cell shows what the cell shows.
use Rattle.std.proofs.Common.{◌≡◌, ℕ, ◌<◌, Bool, true, false, ◌&&◌, List, [], ◌∷◌, length, map, set, refl, ap, sym, ◌∙◌, Some}
use Rattle.std.proofs.Common.{None, if◌then◌else◌}
use Rattle.std.proofs.lemmas.List.{length-map}
use Rattle.trit_cubes.specs.declared.trits.Trit.{Trit}
use Rattle.trit_cubes.specs.Filling.{same}
use Rattle.cell_machine.specs.declared.outputs.OutputPin.{OutputPin}
use Rattle.cell_machine.specs.declared.checks.Check.{Check}
use Rattle.cell_machine.specs.declared.changes.Change.{Change}
use Rattle.cell_machine.specs.CellData.{CellData}
use Rattle.cell_machine.specs.Each.{each}
use Rattle.cell_machine.specs.Delay.{least_delay}
use Rattle.cell_machine.specs.History.{inputs_after, value_before, is_event, IsProper, IsProperFrom}
use Rattle.cell_machine.specs.Report.{happens, is_within, report, any_true}
use Rattle.cell_machine.specs.CellTrace.{inputs_of, input_check, reports_of, NamedGroup, named_groups, state_step, state_after}
use Rattle.cell_machine.specs.CellTrace.{states_after, cell_trace}
use Rattle.cell_machine.specs.CellTrace as cell
use Rattle.udp_tables.specs.CellPrimitives.{has_notifier}
use Rattle.vital_models.specs.declared.model.VState.{VState}
use Rattle.vital_models.specs.declared.model.VOutput.{VOutput}
use Rattle.udp_tables.specs.declared.timing_checks.TimingCheck.{TimingCheck}
use Rattle.vital_models.specs.declared.model.VEntity.{VEntity}
use Rattle.vital_models.specs.LookUps.{lookup_state}
use Rattle.run_parts.specs.PortNumbers.{input_event}
use Rattle.model_traces.specs.ProcessValues.{output_value}
use Rattle.model_traces.specs.SignalTimes.{check_reports}
use Rattle.model_traces.specs.GatedPaths.{paths_from}
use Rattle.model_traces.specs.ProcessRun.{columns, all_columns, violation_by, looked_up, reports_at, happened, process_after}
use Rattle.model_traces.specs.ProcessLaws.{last_times}
use Rattle.model_traces.specs.EntityTrace.{output_after, delay_after, reports_after, entity_trace}
use Rattle.model_traces.specs.EntityFits.{FitsGroup, FitsCheck, FitsOutput, EntityFits}
use Rattle.model_traces.specs.Agreement.{FittingEntitiesAgree}
use Rattle.model_traces.proofs.ProcessLemmas.{looked-each, process-inputs, process-times, process-columns, later-second}
use Rattle.model_traces.proofs.ProcessLemmas.{earlier-first}
use Rattle.model_traces.proofs.FitLemmas.{fit-length, fit-kept, fit-steps, start-states, opening-same, states-step, reports-fit}
use Rattle.model_traces.proofs.FitLemmas.{traces-fit}
use Rattle.model_traces.proofs.TraceLemmas.{length-inputs, some-checks}

module _ (d : CellData) (e : VEntity) (fits : EntityFits d e) where
  abbrev n : ℕ
  n = inputs_of d

  run-is : (h : List Change) → (process_after e h).inputs ≡ inputs_after n h
  run-is h = process-inputs e h ∙ ap (λ k. inputs_after k h) fits.inputs

  report-same :
      (c : Change) (h : List Change) (k : Check) (j : TimingCheck)
      → FitsCheck d e k j
      → check_reports e (inputs_after n (c ∷ h)) (value_before (inputs_after n h) c) c j (last_times e.ports n h j)
      ≡ report n (input_check d.pins k) (c ∷ h)
  report-same c h k j f =
      let a : Trit = value_before (inputs_after n h) c in
      let second = ap (input_event e.ports) (later-second j f.events) ∙ f.measures.second in
      let opens = earlier-first e.ports n h a c j f.events ∙ opening-same d e.ports n h a c k j f.measures in
      λ i.
      happens (second i) a c
      && (f.enabled (inputs_after n (c ∷ h)) (length-inputs n (c ∷ h)) i && is_within c.at (f.measures.limit i) (opens i))

  times-are : (h : List Change) → (process_after e h).times ≡ map (last_times e.ports n h) e.checks
  times-are h = process-times e h ∙ ap (λ k. map (last_times e.ports k h) e.checks) fits.inputs

  -- the reports at an event
  event-reports : (h : List Change) (c : Change) → reports_at e (process_after e h) c ≡ reports_of d (c ∷ h)
  event-reports h c =
      (λ i. each (check_reports e (set (run-is h i) c.pin c.to) (value_before (run-is h i) c) c) e.checks (times-are h i))
      ∙ fit-kept (FitsCheck d e) (check_reports e (inputs_after n (c ∷ h)) (value_before (inputs_after n h) c) c)
      (last_times e.ports n h)
      (λ k. report n k (c ∷ h)) (input_check d.pins) (report-same c h) d.checks e.checks fits.checks

  -- one group at an event, by whether some check reports
  looked-same :
      (v : List Trit) (c : Change) (violation s : Trit) (g : NamedGroup) (state : VState) (b : Bool)
      → length v ≡ n → c.pin < n → is_event v c ≡ true → (b ≡ true → has_notifier d ≡ true) → FitsGroup d e g state
      → lookup_state state.table.rows (columns e.ports violation v state)
      (columns e.ports (violation_by b) (set v c.pin c.to) state) s
      ≡ state_step b d.pins g (set v c.pin c.to) (value_before v c) c s
  looked-same v c violation s g state true long inside event some f = f.forces v c violation s long inside event (some refl)
  looked-same v c violation s g state false long inside event some f = f.steps v c violation s long inside event

  happened-tied :
      (h : List Change) (c : Change)
      → c.pin < n → is_event (inputs_after n h) c ≡ true
      → (process_after e h).states ≡ states_after d h
      → (happened e (process_after e h) c).states
      ≡ map (λ g. state_step (any_true (reports_of d (c ∷ h))) d.pins g (inputs_after n (c ∷ h))
      (value_before (inputs_after n h) c) c (state_after d h g)) (named_groups d)
  happened-tied h c inside event tied =
      let was = process-columns e h in
      let v : List Trit = inputs_after n h in
      let b : Bool = any_true (reports_of d (c ∷ h)) in
      let some : b ≡ true → has_notifier d ≡ true = some-checks (input_check d.pins) (λ k. report n k (c ∷ h)) d.checks in
      (λ i.
      looked_up e.states ((was.1 ∙ ap (all_columns e was.0) (run-is h)) i)
      (all_columns e (violation_by (any_true (event-reports h c i))) (set (run-is h i) c.pin c.to)) (tied i))
      ∙ looked-each (columns e.ports was.0 v) (columns e.ports (violation_by b) (set v c.pin c.to)) e.states (states_after d h)
      ∙ fit-steps (FitsGroup d e)
      (λ (t : VState) s. lookup_state t.table.rows (columns e.ports was.0 v t)
      (columns e.ports (violation_by b) (set v c.pin c.to) t) s)
      (state_after d h) (λ g. state_step b d.pins g (set v c.pin c.to) (value_before v c) c (state_after d h g))
      (λ g t f. looked-same v c was.0 (state_after d h g) g t b (length-inputs n h) inside event some f)
      (named_groups d) e.states fits.groups

  pub states-tied : (h : List Change) → IsProper n h → (process_after e h).states ≡ states_after d h
  states-tied [] proper = start-states d (FitsGroup d e) (named_groups d) e.states fits.groups
  states-tied (c ∷ h) proper =
      let tied = states-tied h proper.2 in
      states-step d h c (process_after e h).inputs (λ r. r.states) (happened e (process_after e h) c) (process_after e h)
      (run-is h)
      (λ event. happened-tied h c proper.0 event tied) tied

  states-long : (h : List Change) → IsProper n h → length (process_after e h).states ≡ length e.states
  states-long h proper =
      ap length (states-tied h proper)
      ∙ length-map (named_groups d) (state_after d h)
      ∙ sym (fit-length (FitsGroup d e) (named_groups d) e.states fits.groups)

  output-tied :
      (h : List Change) → IsProper n h → (output : OutputPin) (o : VOutput) → FitsOutput d e output o
      → output_after e h o ≡ cell.output_after d h output
  output-tied h proper output o f =
      let states : List Trit = (process_after e h).states in
      (λ i. output_value e (run-is h i) states o.value)
      ∙ f.values (inputs_after n h) states (length-inputs n h) (states-long h proper)
      ∙ ap (λ ss. cell.output_value d.pins d.groups (inputs_after n h) ss output) (states-tied h proper)

  delay-tied :
      (h : List Change) → IsProper n h → (output : OutputPin) (o : VOutput) → FitsOutput d e output o
      → delay_after e h o ≡ cell.delay_after d h output
  delay-tied (c ∷ h) proper output o f =
      let was : output_after e h o ≡ cell.output_after d h output = output-tied h proper.2 output o f in
      let now : output_after e (c ∷ h) o ≡ cell.output_after d (c ∷ h) output = output-tied (c ∷ h) proper output o f in
      let paths =
      ap (λ v. paths_from e v c.pin o) (run-is (c ∷ h)) ∙ f.paths (inputs_after n (c ∷ h)) c.pin (length-inputs n (c ∷ h)) in
      λ i. if same (was i) (now i) then None else Some (least_delay (was i) (now i) (paths i))
  delay-tied [] proper output o f = refl

  pub traces-agree : (cs : List Change) → IsProperFrom n [] cs → entity_trace e cs ≡ cell_trace d cs
  traces-agree =
      traces-fit d (FitsOutput d e) e.outputs (output_after e) (delay_after e) (reports_after e) fits.outputs output-tied
      delay-tied
      (reports-fit d (FitsCheck d e) e.checks (λ h. (process_after e h).inputs) (λ h c. reports_at e (process_after e h) c)
      (reports_after e)
      fits.checks run-is event-reports refl (λ c h. refl))

pub entities-agree : FittingEntitiesAgree
entities-agree d e fits = (traces-agree d e fits, states-tied d e fits)
