-- A change to the same value, and inputs of which fewer are unknown.
use Rattle.std.proofs.Common.{◌≡◌, ℕ, zero, suc, Bool, true, false, not, ◌&&◌, List, [], ◌∷◌, length, map, get_or, set, refl, sym}
use Rattle.std.proofs.Common.{ap, ◌∙◌, subst, Some, None, nat_eq, if◌then◌else◌}
use Rattle.std.proofs.lemmas.List.{set-get_or}
use Rattle.std.proofs.Math.Bool.{and-false as and_false}
use Rattle.std.proofs.lemmas.Bool.{not-false}
use Rattle.trit_cubes.specs.declared.trits.Trit.{Trit}
use Rattle.trit_cubes.specs.declared.trits.Trit.TheVariants.{Zero, One, Unknown}
use Rattle.trit_cubes.specs.Filling.{same}
use Rattle.trit_cubes.specs.Resolution.{agreed, res}
use Rattle.cell_machine.specs.declared.pins.Pin.{Pin}
use Rattle.cell_machine.specs.declared.outputs.Source.{Source}
use Rattle.cell_machine.specs.declared.outputs.Source.TheVariants as source
use Rattle.cell_machine.specs.declared.outputs.OutputPin.{OutputPin}
use Rattle.cell_machine.specs.declared.checks.Edge.{Edge}
use Rattle.cell_machine.specs.declared.checks.Edge.TheVariants as edge
use Rattle.cell_machine.specs.declared.checks.Check.{Check}
use Rattle.cell_machine.specs.declared.checks.Event.{Event}
use Rattle.cell_machine.specs.declared.changes.Change.{Change}
use Rattle.cell_machine.specs.Edges.{moves}
use Rattle.cell_machine.specs.History.{inputs_after, value_before}
use Rattle.cell_machine.specs.Report.{InputCheck, is_event_of, last_event, opening, is_within, report}
use Rattle.cell_machine.specs.Inputs.{input_number}
use Rattle.cell_machine.specs.Outputs.{output_at}
use Rattle.cell_machine.specs.Delay.{least_delay}
use Rattle.cell_machine.specs.CellTrace.{inputs_of, input_check, state_after, states_after, named_groups, source_value}
use Rattle.cell_machine.specs.CellTrace.{output_value, output_after, paths_between, delay_at, delay_after}
use Rattle.cell_machine.specs.Laws.{SameValueChangesNothing, Refines, AllRefine, FewerUnknownsKeepOutputs}

-- two values are the same exactly where they are equal
pub same-is : (a b : Trit) → same a b ≡ true → a ≡ b
same-is Zero Zero h = refl
same-is One One h = refl
same-is Unknown Unknown h = refl
same-is _ _ h = absurd cc

pub same-self : (a : Trit) → same a a ≡ true
same-self Zero = refl
same-self One = refl
same-self Unknown = refl

pub same-equal : (a b : Trit) → not (same a b) ≡ false → b ≡ a
same-equal a b h = sym (same-is a b (not-false (same a b) h))

moves-self : (e : Edge) (a : Trit) → moves e a a ≡ false
moves-self edge.Any a = ap not (same-self a)
moves-self edge.Rise Zero = refl
moves-self edge.Rise One = refl
moves-self edge.Rise Unknown = refl
moves-self edge.Fall Zero = refl
moves-self edge.Fall One = refl
moves-self edge.Fall Unknown = refl

-- no event of any kind
pub no-event : (e : Event) (v : List Trit) (c : Change) → c.to ≡ value_before v c → is_event_of e v c ≡ false
no-event e v c to =
    ap (λ b. nat_eq c.pin e.pin && moves e.edge (value_before v c) b) to
    ∙ ap (λ b. nat_eq c.pin e.pin && b) (moves-self e.edge (value_before v c))
    ∙ and_false (nat_eq c.pin e.pin)

-- then no check reports
no-report :
    (n : ℕ) (k : InputCheck) (h : List Change) (c : Change)
    → c.to ≡ value_before (inputs_after n h) c → report n k (c ∷ h) ≡ false
no-report n k h c to =
    ap (λ b. b
    && (k.holds (inputs_after n (c ∷ h))
    && is_within c.at k.limit (last_event n (opening k (value_before (inputs_after n h) c) c) h)))
    (no-event k.second (inputs_after n h) c to)

no-reports :
    (n : ℕ) (pins : List Pin) (checks : List Check) (h : List Change) (c : Change)
    → c.to ≡ value_before (inputs_after n h) c
    → map (λ k. report n k (c ∷ h)) (map (input_check pins) checks) ≡ map (λ _. false) checks
no-reports n pins [] h c to = refl
no-reports n pins (k ∷ ks) h c to =
    λ i. no-report n (input_check pins k) h c to i ∷ no-reports n pins ks h c to i

pub same_value-lem : SameValueChangesNothing
same_value-lem cell h c still =
    let n : ℕ = inputs_of cell in
    let v : List Trit = inputs_after n h in
    let to : c.to ≡ value_before v c = same-equal (value_before v c) c.to still in
    let inputs : inputs_after n (c ∷ h) ≡ v = ap (set v c.pin) to ∙ set-get_or v c.pin Unknown in
    let state : (g : _) → state_after cell (c ∷ h) g ≡ state_after cell h g = λ g. rw still refl in
    let states : states_after cell (c ∷ h) ≡ states_after cell h = λ i. map (λ g. state g i) (named_groups cell) in
    let value : (o : OutputPin) → output_after cell (c ∷ h) o ≡ output_after cell h o =
    λ o i. output_value cell.pins cell.groups (inputs i) (states i) o in
    let delay : (o : OutputPin) → delay_after cell (c ∷ h) o ≡ None = λ o.
    ap (delay_at cell.pins cell.arcs (inputs_after n (c ∷ h)) c o (output_after cell h o)) (value o)
    ∙ ap (λ b. if b then None
    else Some (least_delay (output_after cell h o) (output_after cell h o)
    (paths_between cell.pins cell.arcs (inputs_after n (c ∷ h)) c.pin o.pin)))
    (same-self (output_after cell h o)) in (
      states,
      λ i. record {
        values = map (λ o. value o i) cell.outputs;
        delays = map (λ o. delay o i) cell.outputs;
        reports = no-reports n cell.pins cell.checks h c to i;
      },
    )

-- what is known stays as fewer places are unknown
agreed-refines : (x y z w : Trit) → Refines x z → Refines y w → Refines (agreed x y) (agreed z w)
agreed-refines Zero Zero z w p q = (λ i. agreed (p i) (q i))
agreed-refines Zero One z w p q = tt
agreed-refines Zero Unknown z w p q = tt
agreed-refines One Zero z w p q = tt
agreed-refines One One z w p q = (λ i. agreed (p i) (q i))
agreed-refines One Unknown z w p q = tt
agreed-refines Unknown y z w p q = tt

-- both choices of a place give what the unknown place gives
agreed-either : (x y : Trit) → Refines (agreed x y) x × Refines (agreed x y) y
agreed-either Zero Zero = (refl, refl)
agreed-either Zero One = (tt, tt)
agreed-either Zero Unknown = (tt, tt)
agreed-either One Zero = (tt, tt)
agreed-either One One = (refl, refl)
agreed-either One Unknown = (tt, tt)
agreed-either Unknown y = (tt, tt)

refines-next : (x y z : Trit) → Refines x y → Refines y z → Refines x z
refines-next Zero y z p q = subst (λ t. Refines t z) p q
refines-next One y z p q = subst (λ t. Refines t z) p q
refines-next Unknown y z p q = tt

pub res-refines : (f : List Bool → Trit) (ts us : List Trit) → AllRefine ts us → Refines (res f ts) (res f us)
res-refines f [] [] h = itself (f [])
  where
    itself : (t : Trit) → Refines t t
    itself Zero = refl
    itself One = refl
    itself Unknown = tt
res-refines f [] (u ∷ us) h = absurd h
res-refines f (t ∷ ts) [] h = absurd h
res-refines f (Zero ∷ ts) (Zero ∷ us) h = res-refines (λ p. f (false ∷ p)) ts us h.1
res-refines f (Zero ∷ ts) (One ∷ us) h = absurd (let e = h.0 in cc)
res-refines f (Zero ∷ ts) (Unknown ∷ us) h = absurd (let e = h.0 in cc)
res-refines f (One ∷ ts) (One ∷ us) h = res-refines (λ p. f (true ∷ p)) ts us h.1
res-refines f (One ∷ ts) (Zero ∷ us) h = absurd (let e = h.0 in cc)
res-refines f (One ∷ ts) (Unknown ∷ us) h = absurd (let e = h.0 in cc)
res-refines f (Unknown ∷ ts) (Zero ∷ us) h =
    refines-next _ _ _ (agreed-either (res (λ p. f (false ∷ p)) ts) (res (λ p. f (true ∷ p)) ts)).0
    (res-refines (λ p. f (false ∷ p)) ts us h.1)
res-refines f (Unknown ∷ ts) (One ∷ us) h =
    refines-next _ _ _ (agreed-either (res (λ p. f (false ∷ p)) ts) (res (λ p. f (true ∷ p)) ts)).1
    (res-refines (λ p. f (true ∷ p)) ts us h.1)
res-refines f (Unknown ∷ ts) (Unknown ∷ us) h =
    agreed-refines (res (λ p. f (false ∷ p)) ts) (res (λ p. f (true ∷ p)) ts) (res (λ p. f (false ∷ p)) us)
    (res (λ p. f (true ∷ p)) us) (res-refines (λ p. f (false ∷ p)) ts us h.1) (res-refines (λ p. f (true ∷ p)) ts us h.1)

get-refines : (v w : List Trit) (i : ℕ) → AllRefine v w → Refines (get_or v i Unknown) (get_or w i Unknown)
get-refines [] [] i h = tt
get-refines [] (u ∷ w) i h = absurd h
get-refines (t ∷ v) [] i h = absurd h
get-refines (t ∷ v) (u ∷ w) zero h = h.0
get-refines (t ∷ v) (u ∷ w) (suc i) h = get-refines v w i h.1

sources-refine :
    (pins : List Pin) (v w states more : List Trit) (sources : List Source)
    → AllRefine v w → AllRefine states more
    → AllRefine (map (source_value pins v states) sources) (map (source_value pins w more) sources)
sources-refine pins v w states more [] h k = tt
sources-refine pins v w states more (source.Pin p ∷ sources) h k =
    (get-refines v w (input_number pins p) h, sources-refine pins v w states more sources h k)
sources-refine pins v w states more (source.State g ∷ sources) h k =
    (get-refines states more g k, sources-refine pins v w states more sources h k)

pub fewer_unknowns-lem : FewerUnknownsKeepOutputs
fewer_unknowns-lem cell output v w states more h k =
    res-refines (output_at (length cell.pins) cell.groups output) (map (source_value cell.pins v states) output.support)
    (map (source_value cell.pins w more) output.support) (sources-refine cell.pins v w states more output.support h k)
