-- What the run of a process keeps: its inputs, the times of each check's last events, and the columns of its last event.
use Rattle.std.proofs.Common.{◌≡◌, ℕ, Bool, true, false, ◌&&◌, Option, List, [], ◌∷◌, map, set, refl, ap, sym, ◌∙◌, IsTrue}
use Rattle.std.proofs.Common.{nat_eq, eqb-true, if◌then◌else◌}
use Rattle.std.proofs.lemmas.Bool.{and_parts}
use Rattle.trit_cubes.specs.declared.trits.Trit.{Trit}
use Rattle.trit_cubes.specs.declared.trits.Trit.TheVariants.{Unknown}
use Rattle.cell_machine.specs.declared.changes.Change.{Change}
use Rattle.cell_machine.specs.declared.checks.Edge.{Edge}
use Rattle.cell_machine.specs.declared.checks.Edge.TheVariants as edge
use Rattle.cell_machine.specs.declared.checks.CheckKind.{CheckKind}
use Rattle.cell_machine.specs.declared.checks.CheckKind.TheVariants as check_kind
use Rattle.cell_machine.specs.declared.checks.Event.{Event}
use Rattle.cell_machine.specs.CellRules.{is_any_edge, are_opposite}
use Rattle.cell_machine.specs.Each.{each}
use Rattle.cell_machine.specs.Edges.{is_rise}
use Rattle.cell_machine.specs.History.{inputs_after, value_before, is_event}
use Rattle.cell_machine.specs.Report.{is_period, last_event, any_true}
use Rattle.cell_machine.proofs.EachLemmas.{each-map}
use Rattle.udp_tables.specs.declared.models.VPort.{VPort}
use Rattle.udp_tables.specs.declared.timing_checks.TimingCheck.{TimingCheck}
use Rattle.vital_models.specs.declared.model.VState.{VState}
use Rattle.vital_models.specs.declared.model.VEntity.{VEntity}
use Rattle.vital_models.specs.LookUps.{lookup_state}
use Rattle.vital_models.specs.Sound.{has_events}
use Rattle.run_parts.specs.PortNumbers.{input_count, input_event}
use Rattle.run_parts.specs.CheckEvents.{second_of, opening_event}
use Rattle.model_traces.specs.SignalTimes.{SignalTimes, has_reference, test_event, reference_event, is_high, pulse_end, edge_time}
use Rattle.model_traces.specs.SignalTimes.{no_times_by, no_times, timed, later_event, earlier_time}
use Rattle.model_traces.specs.SignalTimes as signal_times
use Rattle.model_traces.specs.ProcessRun.{ProcessRun, all_columns, looked_up, reports_at, violation_by, happened, process_after}
use Rattle.model_traces.specs.ProcessLaws.{last_times_by, last_times, ProcessHoldsInputs, ProcessKeepsLastEvents}
use Rattle.model_traces.specs.ProcessLaws.{ProcessKeepsColumns, LaterEventIsSecond, EarlierTimeIsFirst}
use Rattle.model_traces.proofs.RunLemmas.{still-inputs, still-event, kept-step}

-- the tables are looked up one by one
pub looked-each :
    (f g : VState → List Trit) (ts : List VState) (ss : List Trit)
    → looked_up ts (map f ts) (map g ts) ss ≡ each (λ (t : VState) s. lookup_state t.table.rows (f t) (g t) s) ts ss
looked-each f g [] ss = refl
looked-each f g (t ∷ ts) [] = refl
looked-each f g (t ∷ ts) (s ∷ ss) = ap (λ r. lookup_state t.table.rows (f t) (g t) s ∷ r) (looked-each f g ts ss)

inputs-step :
    (e : VEntity) (r : ProcessRun) (v : List Trit) (c : Change) (b : Bool)
    → r.inputs ≡ v → is_event r.inputs c ≡ b → (if b then happened e r c else r).inputs ≡ set v c.pin c.to
inputs-step e r v c true is event = ap (λ xs. set xs c.pin c.to) is
inputs-step e r v c false is event = still-inputs r.inputs c event ∙ ap (λ xs. set xs c.pin c.to) is

pub process-inputs : ProcessHoldsInputs
process-inputs e [] = refl
process-inputs e (c ∷ h) =
    inputs-step e (process_after e h) (inputs_after (input_count e.ports) h) c (is_event (process_after e h).inputs c)
    (process-inputs e h) refl

-- the times of one check at an event
timed-after :
    (ports : List VPort) (n : ℕ) (h : List Change) (c : Change) (k : TimingCheck)
    → timed ports (value_before (inputs_after n h) c) c k (last_times ports n h k) ≡ last_times ports n (c ∷ h) k
timed-after ports n h c k =
    elim (has_reference k.kind) as (λ b.
    timed ports (value_before (inputs_after n h) c) c k (last_times_by b ports n h k) ≡ last_times_by b ports n (c ∷ h) k) [
      | true ↦ refl
      | false ↦ refl
    ]

start-times : (ports : List VPort) (n : ℕ) (k : TimingCheck) → no_times k.kind ≡ last_times ports n [] k
start-times ports n k =
    elim (has_reference k.kind) as (λ b. no_times_by b ≡ last_times_by b ports n [] k) [ true ↦ refl | false ↦ refl ]

still-times :
    (ports : List VPort) (n : ℕ) (h : List Change) (c : Change) (k : TimingCheck)
    → is_event (inputs_after n h) c ≡ false → last_times ports n h k ≡ last_times ports n (c ∷ h) k
still-times ports n h c k none =
    elim (has_reference k.kind) as (λ b. last_times_by b ports n h k ≡ last_times_by b ports n (c ∷ h) k) [
      | true ↦ λ i. signal_times.Pair (still-event n (input_event ports (test_event k.kind k)) h c none i)
          (still-event n (input_event ports (reference_event k.kind k)) h c none i)
      | false ↦ λ i. signal_times.Edges (still-event n (input_event ports (second_of k edge.Rise)) h c none i)
          (still-event n (input_event ports (second_of k edge.Fall)) h c none i)
    ]

pub process-times : ProcessKeepsLastEvents
process-times e [] = λ i. map (λ k. start-times e.ports (input_count e.ports) k i) e.checks
process-times e (c ∷ h) =
    let n : ℕ = input_count e.ports in
    let r : ProcessRun = process_after e h in
    kept-step (λ (run : ProcessRun). run.times) (happened e r c) r r.inputs c (map (last_times e.ports n (c ∷ h)) e.checks)
    (is_event r.inputs c) refl
    ((λ i. each (timed e.ports (value_before (process-inputs e h i) c) c) e.checks (process-times e h i))
    ∙ each-map (timed e.ports (value_before (inputs_after n h) c) c) (last_times e.ports n h) e.checks
    ∙ (λ i. map (λ k. timed-after e.ports n h c k i) e.checks))
    (λ none. process-times e h
    ∙ (λ i. map (λ k. still-times e.ports n h c k (ap (λ xs. is_event xs c) (sym (process-inputs e h)) ∙ none) i) e.checks))

columns-step :
    (e : VEntity) (r : ProcessRun) (c : Change) (b : Bool)
    → ((violation : Trit) × (r.previous ≡ all_columns e violation r.inputs))
    → (violation : Trit) × ((if b then happened e r c else r).previous ≡ all_columns e violation
    (if b then happened e r c else r).inputs)
columns-step e r c true was = (violation_by (any_true (reports_at e r c)), refl)
columns-step e r c false was = was

pub process-columns : ProcessKeepsColumns
process-columns e [] = (Unknown, refl)
process-columns e (c ∷ h) = columns-step e (process_after e h) c (is_event (process_after e h).inputs c) (process-columns e h)

-- what holds of a rise and a fall, and of a fall and a rise, holds of opposite edges
opposite-edges :
    (P : Edge → Edge → Type 0) → P edge.Rise edge.Fall → P edge.Fall edge.Rise
    → (a b : Edge) → IsTrue (are_opposite a b) → P a b
opposite-edges P up down edge.Any edge.Any h = absurd cc
opposite-edges P up down edge.Any edge.Rise h = absurd cc
opposite-edges P up down edge.Any edge.Fall h = absurd cc
opposite-edges P up down edge.Rise edge.Any h = absurd cc
opposite-edges P up down edge.Rise edge.Rise h = absurd cc
opposite-edges P up down edge.Rise edge.Fall h = up
opposite-edges P up down edge.Fall edge.Any h = absurd cc
opposite-edges P up down edge.Fall edge.Rise h = down
opposite-edges P up down edge.Fall edge.Fall h = absurd cc

any-edge : (a : Edge) → IsTrue (is_any_edge a) → edge.Any ≡ a
any-edge edge.Any h = refl
any-edge edge.Rise h = absurd cc
any-edge edge.Fall h = absurd cc

-- a check of this kind
abbrev check_of : CheckKind → Event → Event → ℕ → Option ℕ → TimingCheck
check_of kind first second limit condition =
    record { kind = kind; first = first; second = second; limit = limit; condition = condition }

later-by :
    (kind : CheckKind) (first second : Event) (limit : ℕ) (condition : Option ℕ)
    → IsTrue (has_events (check_of kind first second limit condition) kind)
    → later_event kind (check_of kind first second limit condition) ≡ second
later-by check_kind.Setup first second limit condition h = refl
later-by check_kind.Hold first second limit condition h = refl
later-by check_kind.Recovery first second limit condition h = refl
later-by check_kind.Removal first second limit condition h = refl
later-by check_kind.Width first second limit condition h =
    let opposite = (and_parts (nat_eq first.pin second.pin) (are_opposite first.edge second.edge) h).1 in
    let ends = opposite-edges (λ a b. pulse_end (is_high a) ≡ b) refl refl first.edge second.edge opposite in
    λ i. record { pin = second.pin; edge = ends i }
later-by check_kind.Period first second limit condition h =
    let edges = (and_parts (nat_eq first.pin second.pin) (is_any_edge first.edge && is_any_edge second.edge) h).1 in
    let last = (and_parts (is_any_edge first.edge) (is_any_edge second.edge) edges).1 in
    λ i. record { pin = second.pin; edge = any-edge second.edge last i }

pub later-second : LaterEventIsSecond
later-second k h = later-by k.kind k.first k.second k.limit k.condition h

-- the last possible rise and the last possible fall of the input of an event
abbrev last_edges : List VPort → ℕ → List Change → Event → SignalTimes
last_edges ports n h second =
    signal_times.Edges (last_event n (input_event ports (record { pin = second.pin; edge = edge.Rise })) h)
    (last_event n (input_event ports (record { pin = second.pin; edge = edge.Fall })) h)

pulse-begun :
    (ports : List VPort) (n : ℕ) (h : List Change) (first second : Event)
    → first.pin ≡ second.pin → IsTrue (are_opposite first.edge second.edge)
    → edge_time (is_high first.edge) (last_edges ports n h second)
    ≡ last_event n (input_event ports first) h
pulse-begun ports n h first second same opposite =
    opposite-edges
    (λ a b. edge_time (is_high a) (last_edges ports n h second) ≡ last_event n
    (input_event ports (record { pin = second.pin; edge = a })) h)
    refl refl first.edge second.edge opposite
    ∙ ap (λ p. last_event n (input_event ports (record { pin = p; edge = first.edge })) h) (sym same)

period-begun :
    (ports : List VPort) (n : ℕ) (h : List Change) (second : Event) (rises : Bool)
    → edge_time rises (last_edges ports n h second)
    ≡ last_event n (input_event ports (record { pin = second.pin; edge = (if rises then edge.Rise else edge.Fall) })) h
period-begun ports n h second true = refl
period-begun ports n h second false = refl

earlier-by :
    (ports : List VPort) (n : ℕ) (h : List Change) (a : Trit) (c : Change)
    (kind : CheckKind) (first second : Event) (limit : ℕ) (condition : Option ℕ)
    → IsTrue (has_events (check_of kind first second limit condition) kind)
    → earlier_time kind (check_of kind first second limit condition) a c
    (last_times ports n h (check_of kind first second limit condition))
    ≡ last_event n (input_event ports (opening_event (is_period kind) (check_of kind first second limit condition) a c)) h
earlier-by ports n h a c check_kind.Setup first second limit condition e = refl
earlier-by ports n h a c check_kind.Hold first second limit condition e = refl
earlier-by ports n h a c check_kind.Recovery first second limit condition e = refl
earlier-by ports n h a c check_kind.Removal first second limit condition e = refl
earlier-by ports n h a c check_kind.Width first second limit condition e =
    let parts = and_parts (nat_eq first.pin second.pin) (are_opposite first.edge second.edge) e in
    pulse-begun ports n h first second (eqb-true first.pin second.pin parts.0) parts.1
earlier-by ports n h a c check_kind.Period first second limit condition e = period-begun ports n h second (is_rise a c.to)

pub earlier-first : EarlierTimeIsFirst
earlier-first ports n h a c k e = earlier-by ports n h a c k.kind k.first k.second k.limit k.condition e
