-- When a timing check reports.
use Rattle.std.specs.Prelude.{◌≡◌, ℕ, ◌+◌, ◌<◌, Bool, true, false, ◌&&◌, List, [], ◌∷◌, reverse, take, map, nat_eq, nat_lt}
use Rattle.std.specs.Prelude.{Option, Some, None, IsTrue, slice_get, if◌then◌else◌}
use Rattle.std.specs.List.{list_any}
use Rattle.trit_cubes.specs.declared.trits.Trit.{Trit}
use Rattle.cell_machine.specs.declared.changes.Change.{Change}
use Rattle.cell_machine.specs.declared.checks.CheckKind.{CheckKind}
use Rattle.cell_machine.specs.declared.checks.CheckKind.TheVariants as check_kind
use Rattle.cell_machine.specs.declared.checks.Event.{Event}
use Rattle.cell_machine.specs.Edges.{moves, edge_of}
use Rattle.cell_machine.specs.History.{inputs_after, value_before}

-- A timing check over the inputs: its events name inputs by their numbers, and `holds` says whether its condition is 1
-- at given values of the inputs. Cells and models are seen so.
pub record InputCheck : Type 0 where
  pub kind : CheckKind
  pub first : Event
  pub second : Event
  pub limit : ℕ
  pub holds : List Trit → Bool

abbrev pub is_period : CheckKind → Bool
is_period check_kind.Period = true
is_period _ = false

-- whether a change of an input that had the value a is this event
abbrev pub happens : Event → Trit → Change → Bool
happens e a c = nat_eq c.pin e.pin && moves e.edge a c.to

-- whether a change of these inputs is this event
abbrev pub is_event_of : Event → List Trit → Change → Bool
is_event_of e v c = happens e (value_before v c) c

-- the time of the last change of a history of n inputs that was this event
abbrev pub last_event : ℕ → Event → List Change → Option ℕ
last_event n e [] = None
last_event n e (c ∷ h) = (if is_event_of e (inputs_after n h) c then Some c.at else last_event n e h)

-- The event from which a check measures at a change of an input that had the value a: its first event; of a period the
-- event of the same input and of the change's own kind.
abbrev pub opening_by : Bool → InputCheck → Trit → Change → Event
opening_by true k a c = record { pin = k.second.pin; edge = edge_of a c.to }
opening_by false k a c = k.first

abbrev pub opening : InputCheck → Trit → Change → Event
opening k a c = opening_by (is_period k.kind) k a c

-- whether an event at this time came less than `limit` before
abbrev pub is_within : ℕ → ℕ → Option ℕ → Bool
is_within at limit None = false
is_within at limit (Some opened) = nat_lt at (opened + limit)

-- Whether a check reports at the newest change of a history of n inputs: the change is its second event, its condition
-- is 1 with the values after the change, and the last first event before it came less than the limit before.
-- (IEEE 1364-2005, clause 15, and IEEE 1076.4-2000, as this project reads them: the condition counts at the
-- second event alone, and a distance that equals the limit is no violation.)
abbrev pub report : ℕ → InputCheck → List Change → Bool
report n k [] = false
report n k (c ∷ h) =
    is_event_of k.second (inputs_after n h) c
    && (k.holds (inputs_after n (c ∷ h))
    && is_within c.at k.limit (last_event n (opening k (value_before (inputs_after n h) c) c) h))

-- the reports of several checks
abbrev pub reports : ℕ → List InputCheck → List Change → List Bool
reports n ks h = map (λ k. report n k h) ks

-- whether some check reported
abbrev pub any_true : List Bool → Bool
any_true = list_any (λ b. b)

-- The same said of the whole list in the order of time, by places.

-- the history of the changes before a place
abbrev pub before : List Change → ℕ → List Change
before cs place = reverse (take place cs)

-- the change at this place of the list is c, and it is this event
abbrev pub IsEventAt : ℕ → Event → List Change → ℕ → Change → Type 0
IsEventAt n e cs place c = (slice_get cs place ≡ Some c) × IsTrue (is_event_of e (inputs_after n (before cs place)) c)

-- What it means that a check reports at a place of a list: the change there is its second event, its condition is 1
-- with the values after it, and there is an earlier place with the last first event before it, less than the limit
-- earlier.
pub record Reports (n : ℕ) (k : InputCheck) (cs : List Change) (place : ℕ) : Type 0 where
  pub change : Change
  pub second : IsEventAt n k.second cs place change
  pub enabled : IsTrue (k.holds (inputs_after n (before cs (place + 1))))
  pub earlier : ℕ
  pub is_earlier : earlier < place
  pub opened : Change
  pub first : IsEventAt n (opening k (value_before (inputs_after n (before cs place)) change) change) cs earlier opened
  pub is_last :
      (between : ℕ) (other : Change)
      → earlier < between → between < place
      → IsEventAt n (opening k (value_before (inputs_after n (before cs place)) change) change) cs between other
      → ⊥
  pub near : change.at < opened.at + k.limit
