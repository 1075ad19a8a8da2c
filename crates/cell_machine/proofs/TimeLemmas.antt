-- The kept times are those of the last events.
use Rattle.std.proofs.Common.{◌≡◌, ◌≢◌, ℕ, ◌<◌, Bool, true, false, ◌&&◌, List, [], ◌∷◌, length, get_or, refl, sym, ap, ◌∙◌, subst}
use Rattle.std.proofs.Common.{arith, None, nat_eq, eqb-true}
use Rattle.std.proofs.lemmas.List.{get_or-set_other, get_or-set_same, get_or-replicate, length-replicate}
use Rattle.std.proofs.lemmas.Bool.{eqb-false}
use Rattle.std.proofs.Math.ListN.{length-set}
use Rattle.trit_cubes.specs.declared.trits.Trit.{Trit}
use Rattle.cell_machine.specs.declared.checks.Edge.{Edge}
use Rattle.cell_machine.specs.declared.checks.Edge.TheVariants as edge
use Rattle.cell_machine.specs.declared.checks.Event.{Event}
use Rattle.cell_machine.specs.declared.changes.Change.{Change}
use Rattle.cell_machine.specs.declared.times.Times.{Times}
use Rattle.cell_machine.specs.Edges.{moves}
use Rattle.cell_machine.specs.History.{inputs_after, value_before}
use Rattle.cell_machine.specs.Report.{InputCheck, is_period, is_event_of, last_event, opening_by, opening, is_within}
use Rattle.cell_machine.specs.Times.{no_times, time_of_edge, time_of, renewed, stamped, times_step, times_after}
use Rattle.cell_machine.specs.Laws.{TimesDecideReports}

pub length-times : (n : ℕ) (h : List Change) → length (times_after n h) ≡ n
length-times n [] = length-replicate n no_times
length-times n (c ∷ h) = length-set (times_after n h) c.pin _ ∙ length-times n h

-- the stamp of one kind of event
stamp-edge :
    (e : Edge) (at : ℕ) (a b : Trit) (t : Times)
    → time_of_edge e (stamped at a b t) ≡ renewed (moves e a b) at (time_of_edge e t)
stamp-edge edge.Any at a b t = refl
stamp-edge edge.Rise at a b t = refl
stamp-edge edge.Fall at a b t = refl

-- one change: the time of an event after it
time-step :
    (same : Bool) (e : Event) (a : Trit) (c : Change) (ts : List Times)
    → nat_eq c.pin e.pin ≡ same → e.pin < length ts
    → time_of e (times_step a c ts) ≡ renewed (same && moves e.edge a c.to) c.at (time_of e ts)
time-step true e a c ts is inside =
    let at : c.pin ≡ e.pin = eqb-true c.pin e.pin is in
    let within : c.pin < length ts = omega arith in
    let read : get_or (times_step a c ts) c.pin no_times ≡ stamped c.at a c.to (get_or ts c.pin no_times) =
    get_or-set_same ts c.pin (stamped c.at a c.to (get_or ts c.pin no_times)) no_times within in
    ap (λ p. time_of_edge e.edge (get_or (times_step a c ts) p no_times)) (sym at)
    ∙ ap (time_of_edge e.edge) read
    ∙ stamp-edge e.edge c.at a c.to (get_or ts c.pin no_times)
    ∙ ap (λ p. renewed (moves e.edge a c.to) c.at (time_of_edge e.edge (get_or ts p no_times))) at
time-step false e a c ts is inside =
    let apart : e.pin ≢ c.pin = λ h. eqb-false c.pin e.pin is (sym h) in
    ap (time_of_edge e.edge) (get_or-set_other ts c.pin e.pin (stamped c.at a c.to (get_or ts c.pin no_times)) no_times apart)

none-edge : (e : Edge) → time_of_edge e no_times ≡ None
none-edge edge.Any = refl
none-edge edge.Rise = refl
none-edge edge.Fall = refl

-- the kept time of an event is the time of the last one in the history
pub time-last : (n : ℕ) (e : Event) (h : List Change) → e.pin < n → time_of e (times_after n h) ≡ last_event n e h
time-last n e [] inside = ap (time_of_edge e.edge) (get_or-replicate n e.pin no_times no_times inside) ∙ none-edge e.edge
time-last n e (c ∷ h) inside =
    time-step (nat_eq c.pin e.pin) e (value_before (inputs_after n h) c) c (times_after n h) refl
    (subst (λ m. e.pin < m) (sym (length-times n h)) inside)
    ∙ ap (renewed (is_event_of e (inputs_after n h) c) c.at) (time-last n e h inside)

opening-inside :
    (period : Bool) (n : ℕ) (k : InputCheck) (a : Trit) (c : Change)
    → k.first.pin < n → k.second.pin < n → (opening_by period k a c).pin < n
opening-inside true n k a c first second = second
opening-inside false n k a c first second = first

pub times_decide : TimesDecideReports
times_decide n k h c first second =
    let a : Trit = value_before (inputs_after n h) c in
    ap (λ o. is_event_of k.second (inputs_after n h) c && (k.holds (inputs_after n (c ∷ h)) && is_within c.at k.limit o))
    (sym (time-last n (opening k a c) h (opening-inside (is_period k.kind) n k a c first second)))
