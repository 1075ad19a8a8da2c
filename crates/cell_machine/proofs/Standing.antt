-- The fields of a cell's simulator at the start and after a change.
use Rattle.std.proofs.Common.{◌≡◌, ℕ, ◌+◌, Bool, true, false, not, List, [], ◌∷◌, length, map, replicate, get_or, set, refl, sym}
use Rattle.std.proofs.Common.{ap, subst, ◌∙◌, IsTrue, None, if◌then◌else◌}
use Rattle.std.specs.Prelude.{count_by}
use Rattle.std.specs.List.{list_all}
use Rattle.std.proofs.lemmas.Bool.{and_parts}
use Rattle.std.proofs.Math.Seq.{take-length}
use Rattle.std.proofs.lemmas.List.{length-map}
use Rattle.trit_cubes.specs.declared.trits.Trit.{Trit}
use Rattle.trit_cubes.specs.declared.trits.Trit.TheVariants.{Unknown}
use Rattle.trit_cubes.specs.Filling.{same}
use Rattle.cell_machine.specs.declared.pins.Pin.{Pin}
use Rattle.cell_machine.specs.declared.groups.StateGroup.{StateGroup}
use Rattle.cell_machine.specs.declared.checks.Check.{Check}
use Rattle.cell_machine.specs.declared.changes.Change.{Change}
use Rattle.cell_machine.specs.declared.times.Times.{Times}
use Rattle.cell_machine.specs.declared.shown.Shown.{Shown}
use Rattle.cell_machine.specs.declared.cell_start.CellStart.{CellStart}
use Rattle.cell_machine.specs.CellData.{CellData}
use Rattle.cell_machine.specs.CellRules.{is_check}
use Rattle.cell_machine.specs.History.{inputs_after, value_before, is_event}
use Rattle.cell_machine.specs.Report.{report, any_true}
use Rattle.cell_machine.specs.Times.{no_times, stamped, times_after, report_by}
use Rattle.cell_machine.specs.Inputs.{is_input_at, input_number}
use Rattle.cell_machine.specs.Each.{each}
use Rattle.cell_machine.specs.CellTrace.{inputs_of, input_check, input_checks, reports_of, named_from, named_groups, NamedGroup}
use Rattle.cell_machine.specs.CellTrace.{state_step, state_after, states_after}
use Rattle.cell_machine.specs.ShownOutputs.{shown_first, shown_step}
use Rattle.cell_machine.specs.KeptConditions.{IsCondition}
use Rattle.cell_machine.specs.declared.kept_arcs.KeptArcs.{KeptArcs}
use Rattle.cell_machine.specs.KeptArcs.{AreDelaysAt, AreKeptArcs}
use Rattle.cell_machine.specs.LibertyStands.{shown_after, Stands}
use Rattle.cell_machine.specs.CellStarts.{IsCellStart}
use Rattle.cell_machine.proofs.RuleLemmas.{check_parts}
use Rattle.cell_machine.proofs.TimingFacts.{input_number-below}
use Rattle.cell_machine.proofs.TimeLemmas.{times_decide}
use Rattle.cell_machine.proofs.EachLemmas.{each-map}
use Rattle.cell_machine.proofs.KeptValues.{kept_none}

map-constant : {X Y : Type 0} (y : Y) (xs : List X) → map (λ x. y) xs ≡ replicate (length xs) y
map-constant y [] = refl
map-constant y (x ∷ xs) = ap (λ r. y ∷ r) (map-constant y xs)

states-start :
    (cell : CellData) (name : ℕ) (groups : List StateGroup)
    → replicate (length groups) Unknown ≡ map (state_after cell []) (named_from name groups)
states-start cell name [] = refl
states-start cell name (g ∷ gs) = ap (λ r. Unknown ∷ r) (states-start cell (name + 2) gs)

-- What the outputs show before any change.
pub start-shown :
    (cell : CellData) (count : ℕ) (inputs states : List Trit) (shown : List Shown)
    → count ≡ input_number cell.pins (length cell.pins)
    → inputs ≡ replicate count Unknown → states ≡ replicate (length cell.groups) Unknown
    → shown ≡ map (shown_first cell.pins cell.groups inputs states) cell.outputs
    → shown ≡ map (shown_after cell []) cell.outputs
start-shown cell count inputs states shown n i s o =
    let all : count ≡ inputs_of cell = n ∙ ap (count_by is_input_at) (take-length cell.pins) in
    let is : inputs ≡ inputs_after (inputs_of cell) [] = i ∙ ap (λ k. replicate k Unknown) all in
    let ss : states ≡ states_after cell [] = s ∙ states-start cell (length cell.pins) cell.groups in
    o ∙ (λ j. map (shown_first cell.pins cell.groups (is j) (ss j)) cell.outputs)

-- Before any change.
pub start-stands :
    (cell : CellData) (known : CellStart) (count : ℕ) (inputs : List Trit) (times : List Times)
    (states : List Trit) (reports : List Bool) (shown : List Shown) (kept : KeptArcs)
    → IsCellStart cell known
    → count ≡ input_number cell.pins (length cell.pins)
    → inputs ≡ replicate count Unknown → times ≡ replicate count no_times
    → states ≡ replicate (length cell.groups) Unknown → reports ≡ replicate (length cell.checks) false
    → shown ≡ known.shown → kept
    ≡ record { conditions = replicate (length cell.arcs) None; delays = replicate (length cell.arcs) None }
    → Stands cell known.check_names known.arc_names inputs times states reports shown kept []
start-stands cell known count inputs times states reports shown kept k n i t s r o e =
    let all : count ≡ inputs_of cell = n ∙ ap (count_by is_input_at) (take-length cell.pins) in
    record {
      check_names_are = k.check_names_are;
      arc_names_are = k.arc_names_are;
      inputs_are = i ∙ ap (λ k. replicate k Unknown) all;
      times_are = t ∙ ap (λ k. replicate k no_times) all;
      states_are = s ∙ states-start cell (length cell.pins) cell.groups;
      reports_are =
          r ∙ ap (λ k. replicate k false) (sym (length-map cell.checks (input_check cell.pins)))
          ∙ sym (map-constant false (input_checks cell));
      shown_are = o ∙ k.shown_are;
      kept_are =
          subst (AreKeptArcs cell inputs) (sym e)
          (record {
            conditions_are = kept_none (IsCondition cell.pins inputs cell.arcs) (length cell.arcs);
            delays_are = kept_none (AreDelaysAt cell inputs) (length cell.arcs);
          });
    }

-- the reports by the kept times are the reports of the history
reports-by :
    (pins : List Pin) (checks : List Check) (h : List Change) (c : Change)
    → IsTrue (list_all (is_check pins) checks)
    → map (λ k. report_by (input_check pins k) (value_before (inputs_after (count_by is_input_at pins) h) c)
    (inputs_after (count_by is_input_at pins) (c ∷ h)) (times_after (count_by is_input_at pins) h) c) checks
    ≡ map (λ k. report (count_by is_input_at pins) k (c ∷ h)) (map (input_check pins) checks)
reports-by pins [] h c holds = refl
reports-by pins (k ∷ ks) h c holds =
    let parts = and_parts (is_check pins k) (list_all (is_check pins) ks) holds in
    let events = check_parts pins k parts.0 in
    let first =
    times_decide (count_by is_input_at pins) (input_check pins k) h c (input_number-below pins k.first.pin events.first)
    (input_number-below pins k.second.pin events.second) in
    let rest = reports-by pins ks h c parts.1 in
    λ i. sym first i ∷ rest i

-- states that are stepped at an event and stay else
states-change :
    (cell : CellData) (h : List Change) (c : Change) (groups : List NamedGroup) (event : Bool)
    (f : NamedGroup → Trit → Trit)
    → (if event then each f groups (map (state_after cell h) groups) else map (state_after cell h) groups)
    ≡ map (λ g. if event then f g (state_after cell h g) else state_after cell h g) groups
states-change cell h c groups true f = each-map f (state_after cell h) groups
states-change cell h c groups false f = refl

-- After a change.
pub change-stands :
    (cell : CellData) (names_of_checks names_of_arcs : List (List ℕ)) (inputs : List Trit) (times : List Times)
    (states : List Trit) (reports : List Bool) (shown : List Shown) (kept : KeptArcs) (h : List Change) (c : Change)
    (from' : Trit)
    (inputs' : List Trit) (times' : List Times) (states' : List Trit) (reports' : List Bool) (shown' : List Shown)
    (kept' : KeptArcs)
    → IsTrue (list_all (is_check cell.pins) cell.checks)
    → Stands cell names_of_checks names_of_arcs inputs times states reports shown kept h
    → from' ≡ get_or inputs c.pin Unknown
    → inputs' ≡ set inputs c.pin c.to
    → times' ≡ set times c.pin (stamped c.at from' c.to (get_or times c.pin no_times))
    → reports' ≡ map (λ k. report_by (input_check cell.pins k) from' inputs' times c) cell.checks
    → states'
    ≡ (if not (same from' c.to)
    then each (λ g s. state_step (any_true reports') cell.pins g inputs' from' c s) (named_groups cell) states else states)
    → shown'
    ≡ each (λ o s. shown_step cell.pins cell.groups cell.arcs inputs' states' c o s.value) cell.outputs shown
    → AreKeptArcs cell inputs' kept'
    → Stands cell names_of_checks names_of_arcs inputs' times' states' reports' shown' kept' (c ∷ h)
change-stands cell ncs nas inputs times states reports shown kept h c from' inputs' times' states' reports' shown' kept' holds
    st f i t r s o k =
    let n : ℕ = inputs_of cell in
    let fs : from' ≡ value_before (inputs_after n h) c = f ∙ ap (λ v. get_or v c.pin Unknown) st.inputs_are in
    let is : inputs' ≡ inputs_after n (c ∷ h) = i ∙ ap (λ v. set v c.pin c.to) st.inputs_are in
    let ts : times' ≡ times_after n (c ∷ h) =
    t ∙ (λ j. set (st.times_are j) c.pin (stamped c.at (fs j) c.to (get_or (st.times_are j) c.pin no_times))) in
    let rs : reports' ≡ reports_of cell (c ∷ h) =
    r ∙ (λ j. map (λ k. report_by (input_check cell.pins k) (fs j) (is j) (st.times_are j) c) cell.checks)
    ∙ reports-by cell.pins cell.checks h c holds in
    let ss : states' ≡ states_after cell (c ∷ h) =
    s
    ∙ (λ j.
    if not (same (fs j) c.to)
    then
    each (λ g s. state_step (any_true (rs j)) cell.pins g (is j) (fs j) c s) (named_groups cell) (st.states_are j)
    else st.states_are j)
    ∙ states-change cell h c (named_groups cell) (is_event (inputs_after n h) c)
    (λ g s. state_step (any_true (reports_of cell (c ∷ h))) cell.pins g (inputs_after n (c ∷ h))
    (value_before (inputs_after n h) c) c s) in
    record {
      check_names_are = st.check_names_are;
      arc_names_are = st.arc_names_are;
      inputs_are = is;
      times_are = ts;
      states_are = ss;
      reports_are = rs;
      shown_are =
          o
          ∙ (λ j.
          each (λ out s. shown_step cell.pins cell.groups cell.arcs (is j) (ss j) c out s.value) cell.outputs (st.shown_are j))
          ∙ each-map
          (λ out s. shown_step cell.pins cell.groups cell.arcs (inputs_after n (c ∷ h)) (states_after cell (c ∷ h)) c out s.value)
          (shown_after cell h) cell.outputs;
      kept_are = k;
    }
