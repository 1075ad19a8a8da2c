-- The fields of an entity's simulator at the start and after a change.
use Rattle.std.proofs.Common.{◌≡◌, ℕ, suc, ◌<◌, Bool, true, false, ◌&&◌, List, [], ◌∷◌, length, map, replicate, get_or, set, refl}
use Rattle.std.proofs.Common.{ap, sym, ◌∙◌, subst, arith, if◌then◌else◌}
use Rattle.trit_cubes.specs.declared.trits.Trit.{Trit}
use Rattle.cell_machine.specs.declared.changes.Change.{Change}
use Rattle.cell_machine.specs.Each.{each}
use Rattle.cell_machine.specs.History.{inputs_after, value_before, is_event}
use Rattle.cell_machine.specs.Report.{happens, is_within, any_true}
use Rattle.cell_machine.proofs.EachLemmas.{each-map}
use Rattle.udp_tables.specs.declared.timing_checks.TimingCheck.{TimingCheck}
use Rattle.vital_models.specs.declared.model.VEntity.{VEntity}
use Rattle.vital_models.specs.Sound.{IsCheck, IsSound}
use Rattle.model_traces.specs.PortNumbers.{input_count, input_event}
use Rattle.model_traces.specs.CheckTimes.{stamped, reports_where}
use Rattle.model_traces.specs.Laws.{last_stamps}
use Rattle.model_traces.specs.SignalTimes.{check_reports}
use Rattle.model_traces.specs.ProcessLaws.{last_times}
use Rattle.model_traces.specs.ProcessValues.{is_enabled}
use Rattle.model_traces.specs.ProcessRun.{columns, all_columns, violation_by, looked_up, reports_at, happened, process_after}
use Rattle.model_traces.specs.ProcessRun.{step_reports}
use Rattle.model_traces.proofs.RunLemmas.{start-stamps, still-stamps, opened-last}
use Rattle.model_traces.proofs.ProcessLemmas.{looked-each, process-inputs, process-times, later-second, earlier-first}
use Rattle.run_parts.specs.declared.shown.ShownPort.{ShownPort}
use Rattle.process_runs.specs.declared.process_run.ProcessState.{ProcessState}
use Rattle.process_runs.specs.EntitySteps.{start_state, next_by, event_reports, event_step, state_step, change_reports}
use Rattle.process_runs.specs.EntitySteps.{output_step, output_shown, IsTied, EntityStands}

-- a check with the events of its kind reports as the process says
report-same :
    (e : VEntity) (n : ℕ) (h : List Change) (inputs : List Trit) (a : Trit) (c : Change) (k : TimingCheck)
    → IsCheck e k
    → reports_where e.ports (is_enabled e inputs) a c k (last_stamps e.ports n h k)
    ≡ check_reports e inputs a c k (last_times e.ports n h k)
report-same e n h inputs a c k is =
    λ i.
    happens (input_event e.ports (sym (later-second k is.events) i)) a c
    && (is_enabled e inputs k.condition
    && is_within c.at k.limit ((opened-last e.ports n h a c k ∙ sym (earlier-first e.ports n h a c k is.events)) i))

reports-same :
    (e : VEntity) (n : ℕ) (h : List Change) (inputs : List Trit) (a : Trit) (c : Change) (ks : List TimingCheck)
    → ((k : ℕ) (d : TimingCheck) → k < length ks → IsCheck e (get_or ks k d))
    → each (reports_where e.ports (is_enabled e inputs) a c) ks (map (last_stamps e.ports n h) ks)
    ≡ each (check_reports e inputs a c) ks (map (last_times e.ports n h) ks)
reports-same e n h inputs a c [] are = refl
reports-same e n h inputs a c (k ∷ ks) are =
    λ i.
    report-same e n h inputs a c k (are 0 k (omega arith)) i
    ∷ reports-same e n h inputs a c ks (λ j d within. are (suc j) d (omega arith)) i

-- Before any change.
pub entity-starts :
    (e : VEntity) (run : ProcessState) (reports : List Bool) (shown : List ShownPort)
    → run ≡ start_state e
    → reports ≡ replicate (length e.checks) false
    → shown ≡ map (output_shown e []) e.outputs
    → EntityStands e run reports shown []
entity-starts e run reports shown s r o =
    record {
      tied =
          record {
            inputs_are = λ j. (s j).inputs;
            before_are = λ j. (s j).before;
            states_are = λ j. (s j).states;
            columns_are = λ j. all_columns e (sym s j).violation (sym s j).before;
          };
      stamps_are = (λ j. (s j).stamps) ∙ start-stamps e.ports (input_count e.ports) e.checks;
      reports_are = r;
      shown_are = o;
    }

module _ (e : VEntity) (sound : IsSound e) (run : ProcessState) (reports : List Bool) (shown : List ShownPort) (h : List Change)
    (st : EntityStands e run reports shown h) (c : Change) where
  abbrev n : ℕ
  n = input_count e.ports

  -- the reports at an event
  reports-are : event_reports e run c ≡ reports_at e (process_after e h) c
  reports-are =
      (λ i. each (reports_where e.ports (is_enabled e (set (st.tied.inputs_are i) c.pin c.to))
      (value_before (st.tied.inputs_are i) c) c) e.checks (st.stamps_are i))
      ∙ reports-same e n h (set (process_after e h).inputs c.pin c.to) (value_before (process_after e h).inputs c) c e.checks
      sound.checks
      ∙ ap (each (check_reports e (set (process_after e h).inputs c.pin c.to) (value_before (process_after e h).inputs c) c)
      e.checks)
      (sym (process-times e h))

  changed-reports : change_reports e run c ≡ step_reports e (process_after e h) c
  changed-reports =
      λ i. if is_event (st.tied.inputs_are i) c then reports-are i else replicate (length e.checks) false

  -- the fields of the run after a change, by whether it is an event
  event-fields : IsTied e (event_step e run c (violation_by (any_true (event_reports e run c))))
      (happened e (process_after e h) c)
  event-fields =
      let p = process_after e h in
      record {
        inputs_are = λ i. set (st.tied.inputs_are i) c.pin c.to;
        before_are = λ i. set (st.tied.before_are i) c.pin c.to;
        states_are =
            (λ i.
            each (next_by e run.violation run.before (violation_by (any_true (reports-are i)))
            (set (st.tied.inputs_are i) c.pin c.to)) e.states (st.tied.states_are i))
            ∙ sym (looked-each (columns e.ports run.violation run.before)
            (columns e.ports (violation_by (any_true (reports_at e p c))) (set p.inputs c.pin c.to)) e.states p.states)
            ∙ ap (λ previous. looked_up e.states previous
            (all_columns e (violation_by (any_true (reports_at e p c))) (set p.inputs c.pin c.to)) p.states)
            (sym st.tied.columns_are);
        columns_are = λ i. all_columns e (violation_by (any_true (sym reports-are i)))
            (set (sym st.tied.before_are i) c.pin c.to);
      }

  fields :
      (b : Bool)
      → IsTied e (if b then event_step e run c (violation_by (any_true (event_reports e run c))) else run)
      (if b then happened e (process_after e h) c else process_after e h)
  fields true = event-fields
  fields false = st.tied

  -- the kept times after a change, by whether it is an event
  stamps :
      (b : Bool) → is_event (process_after e h).inputs c ≡ b
      → (if b then event_step e run c (violation_by (any_true (event_reports e run c))) else run).stamps
      ≡ map (last_stamps e.ports n (c ∷ h)) e.checks
  stamps true event =
      (λ i. each (stamped e.ports (value_before ((st.tied.inputs_are ∙ process-inputs e h) i) c) c) e.checks (st.stamps_are i))
      ∙ each-map (stamped e.ports (value_before (inputs_after n h) c) c) (last_stamps e.ports n h) e.checks
  stamps false quiet =
      st.stamps_are ∙ still-stamps e.ports n h c e.checks (ap (λ v. is_event v c) (sym (process-inputs e h)) ∙ quiet)

  -- After a change.
  pub entity-changes :
      (run' : ProcessState) (reports' : List Bool) (shown' : List ShownPort)
      → run' ≡ state_step e run c → reports' ≡ change_reports e run c
      → shown' ≡ each (output_step e run'.inputs run'.states c.pin) e.outputs shown
      → EntityStands e run' reports' shown' (c ∷ h)
  entity-changes run' reports' shown' stepped reported shows =
      let path = stepped ∙ ap (λ v. if is_event v c then event_step e run c (violation_by (any_true (event_reports e run c)))
      else run) st.tied.inputs_are in
      let tied : IsTied e run' (process_after e (c ∷ h)) =
      subst (λ r. IsTied e r (process_after e (c ∷ h))) (sym path) (fields (is_event (process_after e h).inputs c)) in
      record {
        tied = tied;
        stamps_are = ap (λ (r : ProcessState). r.stamps) path ∙ stamps (is_event (process_after e h).inputs c) refl;
        reports_are = reported ∙ changed-reports;
        shown_are =
            shows
            ∙ (λ i. each (output_step e (tied.inputs_are i) (tied.states_are i) c.pin) e.outputs (st.shown_are i))
            ∙ each-map (output_step e (process_after e (c ∷ h)).inputs (process_after e (c ∷ h)).states c.pin)
            (output_shown e h) e.outputs;
      }
