-- The report over a history is the report over the whole list, by places.
use Rattle.std.proofs.Common.{◌≡◌, ℕ, zero, suc, ◌+◌, ◌<◌, ◌≤◌, Bool, true, false, ◌&&◌, ◌⊎◌, inl, inr, List, [], ◌∷◌, ◌++◌}
use Rattle.std.proofs.Common.{length, take, refl, sym, ap, ◌∙◌, subst, arith, add-one, Option, Some, None, IsTrue, slice_get}
use Rattle.std.proofs.Common.{nat_lt, if◌then◌else◌}
use Rattle.std.specs.Prelude.{reverse}
use Rattle.std.proofs.lemmas.Bool.{and_parts, and_from, ltb-true, ltb-false, lt-ltb}
use Rattle.std.proofs.lemmas.List.{reverse-append}
use Rattle.cell_machine.specs.declared.checks.Event.{Event}
use Rattle.cell_machine.specs.declared.changes.Change.{Change}
use Rattle.cell_machine.specs.History.{inputs_after, value_before}
use Rattle.cell_machine.specs.Report.{is_event_of, last_event, opening, is_within, report, before, IsEventAt}
use Rattle.cell_machine.specs.Laws.{ReportIsWholeList}
use Rattle.cell_machine.proofs.ArcDelays.{some_at}

take-at : {X : Type 0} (xs : List X) (i : ℕ) (x : X) → slice_get xs i ≡ Some x → take (suc i) xs ≡ take i xs ++ x ∷ []
take-at [] i x e = absurd cc
take-at (y ∷ ys) zero x e = let same : y ≡ x = cc in ap (λ z. z ∷ []) same
take-at (y ∷ ys) (suc i) x e = ap (λ r. y ∷ r) (take-at ys i x e)

-- the history gains the change at its place
pub before-at :
    (cs : List Change) (place : ℕ) (c : Change)
    → slice_get cs place ≡ Some c → before cs (suc place) ≡ c ∷ before cs place
before-at cs place c e = ap reverse (take-at cs place c e) ∙ reverse-append (take place cs) (c ∷ [])

some-same : {X : Type 0} (xs : List X) (i : ℕ) (x y : X) → slice_get xs i ≡ Some x → slice_get xs i ≡ Some y → x ≡ y
some-same xs i x y e f = cc

-- The last event before a place, as a place of its own.
pub record LastAt (n : ℕ) (e : Event) (cs : List Change) (place : ℕ) (time : ℕ) : Type 0 where
  pub earlier : ℕ
  pub is_earlier : earlier < place
  pub opened : Change
  pub event : IsEventAt n e cs earlier opened
  pub is_last : (between : ℕ) (other : Change) → earlier < between → between < place → IsEventAt n e cs between other → ⊥
  pub time_is : opened.at ≡ time

split : (m n : ℕ) → m < suc n → (m < n) ⊎ (m ≡ n)
split m n h = elim (nat_lt m n) as (λ b. nat_lt m n ≡ b → (m < n) ⊎ (m ≡ n)) [
  | true ↦ λ e. inl (ltb-true m n e)
  | false ↦ λ e. let above : n ≤ m = ltb-false m n e in inr (omega arith)
] refl

-- a change that is not the event leaves the last one
still-last :
    (n : ℕ) (e : Event) (cs : List Change) (place earlier : ℕ) (c : Change)
    → slice_get cs place ≡ Some c → is_event_of e (inputs_after n (before cs place)) c ≡ false
    → ((between : ℕ) (other : Change) → earlier < between → between < place → IsEventAt n e cs between other → ⊥)
    → (between : ℕ) (other : Change) → earlier < between → between < suc place → IsEventAt n e cs between other → ⊥
still-last n e cs place earlier c at is rest between other later sooner event =
    elim (split between place sooner) [
      | inl below ↦ rest between other later below event
      | inr equal ↦ not-at n e cs place c other at is (subst (λ m. IsEventAt n e cs m other) equal event)
    ]
  where
    not-at :
        (n : ℕ) (e : Event) (cs : List Change) (place : ℕ) (c other : Change)
        → slice_get cs place ≡ Some c → is_event_of e (inputs_after n (before cs place)) c ≡ false
        → IsEventAt n e cs place other → ⊥
    not-at n e cs place c other at is event =
        let same : c ≡ other = some-same cs place c other at event.0 in
        let here : is_event_of e (inputs_after n (before cs place)) other ≡ false =
        subst (λ x. is_event_of e (inputs_after n (before cs place)) x ≡ false) same is in
        cc (here, event.1)

-- what the history says is found in the list
pub last-found :
    (n : ℕ) (e : Event) (cs : List Change) (place time : ℕ)
    → place ≤ length cs → last_event n e (before cs place) ≡ Some time → LastAt n e cs place time
last-found n e cs zero time inside h = absurd cc
last-found n e cs (suc place) time inside h =
    let here = some_at cs place (omega arith) in
    let grown = before-at cs place here.0 here.1 in
    by (is_event_of e (inputs_after n (before cs place)) here.0) here.0 here.1 refl (sym (ap (last_event n e) grown) ∙ h)
    (λ k. last-found n e cs place time (omega arith) k)
  where
    by :
        (b : Bool) (c : Change) → slice_get cs place ≡ Some c → is_event_of e (inputs_after n (before cs place)) c ≡ b
        → (if b then Some c.at else last_event n e (before cs place)) ≡ Some time
        → (last_event n e (before cs place) ≡ Some time → LastAt n e cs place time)
        → LastAt n e cs (suc place) time
    by true c at is k rest =
        record {
          earlier = place;
          is_earlier = omega arith;
          opened = c;
          event = (at, is);
          is_last = λ between other later sooner found. omega arith;
          time_is = cc;
        }
    by false c at is k rest =
        let found = rest k in
        record {
          earlier = found.earlier;
          is_earlier = let sooner = found.is_earlier in omega arith;
          opened = found.opened;
          event = found.event;
          is_last = still-last n e cs place found.earlier c at is found.is_last;
          time_is = found.time_is;
        }

-- what is found in the list is what the history says
pub found-last :
    (n : ℕ) (e : Event) (cs : List Change) (place time : ℕ)
    → place ≤ length cs → LastAt n e cs place time → last_event n e (before cs place) ≡ Some time
found-last n e cs zero time inside l = let sooner = l.is_earlier in absurd (omega arith)
found-last n e cs (suc place) time inside l =
    let here = some_at cs place (omega arith) in
    ap (last_event n e) (before-at cs place here.0 here.1)
    ∙ by (is_event_of e (inputs_after n (before cs place)) here.0) here.0 here.1 refl
    (λ k. found-last n e cs place time (omega arith) k)
  where
    by :
        (b : Bool) (c : Change) → slice_get cs place ≡ Some c → is_event_of e (inputs_after n (before cs place)) c ≡ b
        → (LastAt n e cs place time → last_event n e (before cs place) ≡ Some time)
        → (if b then Some c.at else last_event n e (before cs place)) ≡ Some time
    by true c at is rest =
        elim (split l.earlier place l.is_earlier) [
          | inl below ↦ absurd (l.is_last place c below (omega arith) (at, is))
          | inr equal ↦
              let there = subst (λ m. slice_get cs m ≡ Some l.opened) equal l.event.0 in
              let same : c ≡ l.opened = some-same cs place c l.opened at there in
              ap Some (ap (λ (x : Change). x.at) same ∙ l.time_is)
        ]
    by false c at is rest =
        elim (split l.earlier place l.is_earlier) [
          | inl below ↦ rest (record {
            earlier = l.earlier;
            is_earlier = below;
            opened = l.opened;
            event = l.event;
            is_last = λ between other later sooner event. l.is_last between other later (omega arith) event;
            time_is = l.time_is;
          })
          | inr equal ↦
              let there = subst (λ m. IsEventAt n e cs m l.opened) equal l.event in
              let same : c ≡ l.opened = some-same cs place c l.opened at there.0 in
              let here : is_event_of e (inputs_after n (before cs place)) l.opened ≡ false =
              subst (λ x. is_event_of e (inputs_after n (before cs place)) x ≡ false) same is in
              absurd (cc (here, there.1))
        ]

within-near :
    (at limit : ℕ) (o : Option ℕ) → IsTrue (is_within at limit o) → (time : ℕ) × (o ≡ Some time) × (at < time + limit)
within-near at limit None h = absurd cc
within-near at limit (Some time) h = (time, refl, ltb-true at (time + limit) h)

pub report_is_whole_list-lem : ReportIsWholeList
report_is_whole_list-lem n k cs place inside =
    rw add-one (
      λ h.
          let c = here.0 in
          let h0 : List Change = before cs place in
          let whole = subst (λ hs. IsTrue (report n k hs)) grown h in
          let first = and_parts (is_event_of k.second (inputs_after n h0) c)
          (k.holds (inputs_after n (c ∷ h0))
          && is_within c.at k.limit (last_event n (opening k (value_before (inputs_after n h0) c) c) h0)) whole in
          let second = and_parts (k.holds (inputs_after n (c ∷ h0)))
          (is_within c.at k.limit (last_event n (opening k (value_before (inputs_after n h0) c) c) h0)) first.1 in
          let near = within-near c.at k.limit (last_event n (opening k (value_before (inputs_after n h0) c) c) h0) second.1 in
          let found = last-found n (opening k (value_before (inputs_after n h0) c) c) cs place near.0 (omega arith) near.1 in
          record {
            change = c;
            second = (here.1, first.0);
            enabled = rw add-one (subst (λ hs. IsTrue (k.holds (inputs_after n hs))) (sym grown) second.0);
            earlier = found.earlier;
            is_earlier = found.is_earlier;
            opened = found.opened;
            first = found.event;
            is_last = found.is_last;
            near = let close = near.2 in let same = found.time_is in omega arith;
          },
      λ r.
          let c : Change = r.change in
          let h0 : List Change = before cs place in
          let gained = before-at cs place c r.second.0 in
          let e : Event = opening k (value_before (inputs_after n h0) c) c in
          let enabled = subst (λ hs. IsTrue (k.holds (inputs_after n hs))) gained (rw add-one at r.enabled) in
          let last = found-last n e cs place r.opened.at (omega arith)
          (record {
            earlier = r.earlier;
            is_earlier = r.is_earlier;
            opened = r.opened;
            time_is = refl;
            event = r.first;
            is_last = r.is_last;
          }) in
          let near = subst (λ o. IsTrue (is_within c.at k.limit o)) (sym last) (lt-ltb c.at (r.opened.at + k.limit) r.near) in
          subst (λ hs. IsTrue (report n k hs)) (sym gained)
          (and_from (is_event_of k.second (inputs_after n h0) c)
          (k.holds (inputs_after n (c ∷ h0)) && is_within c.at k.limit (last_event n e h0)) r.second.1
          (and_from (k.holds (inputs_after n (c ∷ h0))) (is_within c.at k.limit (last_event n e h0)) enabled near)),
    )
  where
    here : (x : Change) × (slice_get cs place ≡ Some x)
    here = some_at cs place inside

    grown : before cs (suc place) ≡ here.0 ∷ before cs place
    grown = before-at cs place here.0 here.1
