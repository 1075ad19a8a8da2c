-- Lists of parts that fit, and what models that fit a cell have in common.
use Rattle.std.proofs.Common.{◌≡◌, ℕ, suc, Bool, true, false, List, [], ◌∷◌, length, map, replicate, Option, inl, inr, refl, ap}
use Rattle.std.proofs.Common.{sym, ◌∙◌, if◌then◌else◌}
use Rattle.std.proofs.lemmas.Simd.{map-map}
use Rattle.trit_cubes.specs.declared.trits.Trit.{Trit}
use Rattle.trit_cubes.specs.declared.trits.Trit.TheVariants.{Unknown}
use Rattle.trit_cubes.proofs.ListLemmas.{Among}
use Rattle.bool_functions.specs.declared.tree.Node.{Node}
use Rattle.cell_machine.specs.declared.outputs.OutputPin.{OutputPin}
use Rattle.cell_machine.specs.declared.checks.Check.{Check}
use Rattle.cell_machine.specs.declared.changes.Change.{Change}
use Rattle.cell_machine.specs.CellData.{CellData}
use Rattle.cell_machine.specs.Each.{each}
use Rattle.cell_machine.specs.Edges.{edge_of}
use Rattle.cell_machine.specs.Inputs as cell_inputs
use Rattle.cell_machine.specs.History.{inputs_after, value_before, is_event, IsProper, IsProperFrom}
use Rattle.cell_machine.specs.Report.{is_period, last_event, opening_by, opening, any_true}
use Rattle.cell_machine.specs.Lines.{shown_line, trace}
use Rattle.cell_machine.specs.CellTrace.{inputs_of, input_check, reports_of, NamedGroup, named_groups, state_step, state_after}
use Rattle.cell_machine.specs.CellTrace.{states_after, output_after, delay_after, cell_line, cell_trace}
use Rattle.cell_machine.proofs.EachLemmas.{each-map}
use Rattle.udp_tables.specs.declared.models.VPort.{VPort}
use Rattle.udp_tables.specs.declared.timing_checks.TimingCheck.{TimingCheck}
use Rattle.udp_tables.specs.Ports.{port_number}
use Rattle.udp_tables.specs.TimingChecks.{check_by}
use Rattle.run_parts.specs.PortNumbers.{input_number, input_event}
use Rattle.run_parts.specs.CheckEvents.{opening_event}
use Rattle.model_traces.specs.CheckFits.{MeasuresSame}
use Rattle.model_traces.specs.FitLists.{FitEach}
use Rattle.model_traces.proofs.TraceLemmas.{still-reports, start-reports, trace-same}

pub fit-length :
    {X Y : Type 0} (fits : X → Y → Type 0) (xs : List X) (ys : List Y) → FitEach fits xs ys → length ys ≡ length xs
fit-length fits [] [] h = refl
fit-length fits [] (y ∷ ys) h = absurd h
fit-length fits (x ∷ xs) [] h = absurd h
fit-length fits (x ∷ xs) (y ∷ ys) h = ap suc (fit-length fits xs ys h.1)

-- what is made of entries that fit
pub fit-map :
    {X Y Z : Type 0} (fits : X → Y → Type 0) (f : Y → Z) (g : X → Z)
    → ((x : X) (y : Y) → fits x y → f y ≡ g x)
    → (xs : List X) (ys : List Y) → FitEach fits xs ys → map f ys ≡ map g xs
fit-map fits f g same [] [] h = refl
fit-map fits f g same [] (y ∷ ys) h = absurd h
fit-map fits f g same (x ∷ xs) [] h = absurd h
fit-map fits f g same (x ∷ xs) (y ∷ ys) h = λ i. same x y h.0 i ∷ fit-map fits f g same xs ys h.1 i

-- the same of entries beside what they keep
pub fit-kept :
    {W X Y S Z : Type 0} (fits : X → Y → Type 0) (f : Y → S → Z) (keep : Y → S) (g : W → Z) (see : X → W)
    → ((x : X) (y : Y) → fits x y → f y (keep y) ≡ g (see x))
    → (xs : List X) (ys : List Y) → FitEach fits xs ys → each f ys (map keep ys) ≡ map g (map see xs)
fit-kept fits f keep g see same xs ys h =
    each-map f keep ys ∙ fit-map fits (λ y. f y (keep y)) (λ x. g (see x)) same xs ys h ∙ sym (map-map g see xs)

-- the same of entries beside what those had that they fit
pub fit-steps :
    {X Y S Z : Type 0} (fits : X → Y → Type 0) (f : Y → S → Z) (was : X → S) (g : X → Z)
    → ((x : X) (y : Y) → fits x y → f y (was x) ≡ g x)
    → (xs : List X) (ys : List Y) → FitEach fits xs ys → each f ys (map was xs) ≡ map g xs
fit-steps fits f was g same [] [] h = refl
fit-steps fits f was g same [] (y ∷ ys) h = absurd h
fit-steps fits f was g same (x ∷ xs) [] h = absurd h
fit-steps fits f was g same (x ∷ xs) (y ∷ ys) h = λ i. same x y h.0 i ∷ fit-steps fits f was g same xs ys h.1 i

-- entries that are made so that they fit
pub fit-made :
    {X Y : Type 0} (fits : X → Y → Type 0) (make : X → Y) (xs : List X)
    → ((x : X) → Among x xs → fits x (make x)) → FitEach fits xs (map make xs)
fit-made fits make [] h = tt
fit-made fits make (x ∷ xs) h = (h x (inl refl), fit-made fits make xs (λ y among. h y (inr among)))

replicate-map : {X Y : Type 0} (y : Y) (xs : List X) → replicate (length xs) y ≡ map (λ _. y) xs
replicate-map y [] = refl
replicate-map y (x ∷ xs) = ap (λ r. y ∷ r) (replicate-map y xs)

-- the states at the start
pub start-states :
    {Y : Type 0} (d : CellData) (fits : NamedGroup → Y → Type 0) (groups : List NamedGroup) (ys : List Y)
    → FitEach fits groups ys → replicate (length ys) Unknown ≡ map (state_after d []) groups
start-states d fits groups ys h =
    ap (λ n. replicate n Unknown) (fit-length fits groups ys h) ∙ replicate-map Unknown groups

-- the check that is made of one of the cell
pub measures-made :
    (d : CellData) (ports : List VPort) (number : Node → ℕ) (k : Check)
    → ((p : ℕ) → input_number ports (port_number d.pins p) ≡ cell_inputs.input_number d.pins p)
    → MeasuresSame d ports k (check_by number d.pins k)
measures-made d ports number k tied =
    record {
      kind = refl;
      first = λ i. record { pin = tied k.first.pin i; edge = k.first.edge };
      second = λ i. record { pin = tied k.second.pin i; edge = k.second.edge };
      limit = refl;
    }

-- the last event from which a check measures
pub opening-same :
    (d : CellData) (ports : List VPort) (n : ℕ) (h : List Change) (a : Trit) (c : Change) (k : Check) (j : TimingCheck)
    → MeasuresSame d ports k j
    → last_event n (input_event ports (opening_event (is_period j.kind) j a c)) h ≡ last_event n
    (opening (input_check d.pins k) a c) h
opening-same d ports n h a c k j f =
    ap (λ kind. last_event n (input_event ports (opening_event (is_period kind) j a c)) h) f.kind ∙ by (is_period k.kind)
  where
    by :
        (period : Bool)
        → last_event n (input_event ports (opening_event period j a c)) h ≡ last_event n
        (opening_by period (input_check d.pins k) a c) h
    by true = ap (λ x. last_event n (record { pin = x.pin; edge = edge_of a c.to }) h) f.second
    by false = ap (λ x. last_event n x h) f.first

-- the reports at a change of inputs that a run holds, by those that it gives at an event
pub reports-tied :
    (d : CellData) (h : List Change) (c : Change) (v : List Trit) (reports : List Bool) (many : ℕ)
    → v ≡ inputs_after (inputs_of d) h → reports ≡ reports_of d (c ∷ h) → many ≡ length d.checks
    → (if is_event v c then reports else replicate many false) ≡ reports_of d (c ∷ h)
reports-tied d h c v reports many is at_event long =
    ap (λ w. if is_event w c then reports else replicate many false) is ∙ by (is_event (inputs_after (inputs_of d) h) c) refl
  where
    by :
        (b : Bool) → is_event (inputs_after (inputs_of d) h) c ≡ b
        → (if b then reports else replicate many false) ≡ reports_of d (c ∷ h)
    by true event = at_event
    by false event = still-reports (inputs_of d) (input_check d.pins) h c d.checks many event long

-- the reports after a history, by those at its newest change
pub reports-after :
    (d : CellData) (reports : List Change → List Bool) (many : ℕ)
    → reports [] ≡ replicate many false → many ≡ length d.checks
    → ((c : Change) (h : List Change) → reports (c ∷ h) ≡ reports_of d (c ∷ h)) → (h : List Change) → reports h ≡ reports_of d h
reports-after d reports many none long step [] =
    none ∙ ap (λ k. replicate k false) long ∙ start-reports (inputs_of d) (input_check d.pins) d.checks
reports-after d reports many none long step (c ∷ h) = step c h

-- the states after a change of inputs that a run holds, by those after an event
pub states-step :
    {R : Type 0} (d : CellData) (h : List Change) (c : Change) (v : List Trit) (states : R → List Trit) (happened still : R)
    → v ≡ inputs_after (inputs_of d) h
    → (is_event (inputs_after (inputs_of d) h) c ≡ true
    → states happened
    ≡ map (λ g. state_step (any_true (reports_of d (c ∷ h))) d.pins g (inputs_after (inputs_of d) (c ∷ h))
    (value_before (inputs_after (inputs_of d) h) c) c (state_after d h g)) (named_groups d))
    → states still ≡ states_after d h
    → states (if is_event v c then happened else still) ≡ states_after d (c ∷ h)
states-step d h c v states happened still is at_event tied =
    ap (λ w. states (if is_event w c then happened else still)) is ∙ by (is_event (inputs_after (inputs_of d) h) c) refl
  where
    by :
        (b : Bool) → is_event (inputs_after (inputs_of d) h) c ≡ b
        → states (if b then happened else still)
        ≡ map (λ g. if b then state_step (any_true (reports_of d (c ∷ h))) d.pins g (inputs_after (inputs_of d) (c ∷ h))
        (value_before (inputs_after (inputs_of d) h) c) c (state_after d h g) else state_after d h g) (named_groups d)
    by true event = at_event event
    by false event = tied

-- reports that are a cell's at each event are the cell's
pub reports-fit :
    {K : Type 0} (d : CellData) (fits : Check → K → Type 0) (checks : List K) (v : List Change → List Trit)
    (told : List Change → Change → List Bool) (reports : List Change → List Bool)
    → FitEach fits d.checks checks
    → ((h : List Change) → v h ≡ inputs_after (inputs_of d) h)
    → ((h : List Change) (c : Change) → told h c ≡ reports_of d (c ∷ h))
    → reports [] ≡ replicate (length checks) false
    → ((c : Change) (h : List Change)
    → reports (c ∷ h) ≡ (if is_event (v h) c then told h c else replicate (length checks) false))
    → (h : List Change) → reports h ≡ reports_of d h
reports-fit d fits checks v told reports all is same none step =
    let long = fit-length fits d.checks checks all in
    reports-after d reports (length checks) none long
    (λ c h. step c h ∙ reports-tied d h c (v h) (told h c) (length checks) (is h) (same h c) long)

-- outputs that fit those of a cell, and the cell's reports, give the cell's trace
pub traces-fit :
    {O : Type 0} (d : CellData) (fits : OutputPin → O → Type 0) (outputs : List O) (value : List Change → O → Trit)
    (delay : List Change → O → Option ℕ) (reports : List Change → List Bool)
    → FitEach fits d.outputs outputs
    → ((h : List Change) → IsProper (inputs_of d) h → (output : OutputPin) (o : O) → fits output o
    → value h o ≡ output_after d h output)
    → ((h : List Change) → IsProper (inputs_of d) h → (output : OutputPin) (o : O) → fits output o
    → delay h o ≡ delay_after d h output)
    → ((h : List Change) → reports h ≡ reports_of d h)
    → (cs : List Change) → IsProperFrom (inputs_of d) [] cs → trace (shown_line outputs value delay reports) cs ≡ cell_trace d cs
traces-fit d fits outputs value delay reports all valued delayed reported =
    trace-same (inputs_of d) (shown_line outputs value delay reports) (cell_line d)
    (λ h proper i. record {
      values = fit-map fits (value h) (output_after d h) (valued h proper) d.outputs outputs all i;
      delays = fit-map fits (delay h) (delay_after d h) (delayed h proper) d.outputs outputs all i;
      reports = reported h i;
    })
