-- A state group of which nothing is refused keeps the rules of state groups: groups from `ff` and `latch`.
use Rattle.std.proofs.Common.{◌≡◌, ℕ, zero, suc, ◌+◌, ◌<◌, ◌≤◌, Bool, true, false, ◌&&◌, ◌||◌, ◌==◌, List, [], ◌∷◌, ◌++◌, length}
use Rattle.std.proofs.Common.{map, filter, refl, sym, ◌∙◌, ap, subst, arith, IsTrue, Option, Some, None, inl, inr, nat_eq, nat_lt}
use Rattle.std.proofs.Common.{nat_le, slice_index, eqb-true}
use Rattle.std.specs.Prelude.{option_to_list}
use Rattle.std.specs.List.{list_all}
use Rattle.std.proofs.lemmas.Bool.{cases_Bool, and_from, and_parts, or_left, or_right, or_cases, ltb-true, lt-ltb, leb-true}
use Rattle.cell_machine.specs.declared.groups.GroupKind.{GroupKind}
use Rattle.cell_machine.specs.declared.pins.Pin.{Pin}
use Rattle.cell_machine.specs.Names.{has}
use Rattle.cell_machine.specs.CellRules.{is_ascending, is_input_pin, is_support, control_names, data_names, names_support}
use Rattle.cell_machine.specs.CellRules.{is_kind, is_group}
use Rattle.cell_machine.proofs.CellFacts.{list_all-implied, has-all, input-below}
use Rattle.cell_attributes.specs.declared.texts.Text.{Text}
use Rattle.cell_attributes.specs.declared.state_readings.StateReading.{StateReading}
use Rattle.cell_attributes.specs.Texts.{text_support, malformed_at, unknown_at, coupled_at}
use Rattle.cell_attributes.specs.TextFaults.{malformed_in, unknown_in, coupled_in}
use Rattle.cell_attributes.specs.StateReadings.{pins_among, names_read}
use Rattle.cell_attributes.specs.Limits.{no_support_in, wide_support_in}
use Rattle.cell_attributes.proofs.Distinct.{nil_parts, no_place}
use Rattle.cell_attributes.proofs.Members.{stand_in, all_from, all_both, in_passes, in_left, in_right, in_itself, all_insert_all}
use Rattle.cell_attributes.proofs.Members.{in_placed, placed_ascend, in_filter, filter_in, filter_all, has_map, all_map}
use Rattle.cell_attributes.proofs.Members.{has_append_left, has_append_right}
use Rattle.cell_attributes.proofs.TextNames.{text_names, names_in_support, support_in_names, IsSound, is_kept_input}
use Rattle.cell_attributes.proofs.TextNames.{is_input_or_own}

-- Nothing is wrong with a reading.
pub record IsSoundReading (r : StateReading) : Type 0 where
  pub whole : r.malformed ≡ None
  pub inputs_known : r.unknown ≡ None
  pub inputs_apart : r.coupled ≡ None
  pub of_data : IsSound r.data_text
  pub of_control : IsSound r.control
  pub of_clear : IsSound r.clear
  pub of_preset : IsSound r.preset

none_listed : (o : Option ℕ) → option_to_list o ≡ [] → o ≡ None
none_listed None h = refl
none_listed (Some x) h = absurd cc

-- the parts of four lists and an optional place that are empty together
pub record AllEmpty (o : Option ℕ) (a b c d : List ℕ) : Type 0 where
  pub place : o ≡ None
  pub one : a ≡ []
  pub two : b ≡ []
  pub three : c ≡ []
  pub four : d ≡ []

all_empty : (o : Option ℕ) (a b c d : List ℕ) → option_to_list o ++ (a ++ (b ++ (c ++ d))) ≡ [] → AllEmpty o a b c d
all_empty o a b c d h =
    let p = nil_parts (option_to_list o) (a ++ (b ++ (c ++ d))) h in
    let q = nil_parts a (b ++ (c ++ d)) p.1 in
    let r = nil_parts b (c ++ d) q.1 in
    let s = nil_parts c d r.1 in
    record { place = none_listed o p.0; one = q.0; two = r.0; three = s.0; four = s.1 }

-- of one kind of what is wrong with a reading, at the offset for the group and at those in its texts
pub none_in : (o : Option ℕ) (at : Text → List ℕ) (r : StateReading)
    → option_to_list o ++ (at r.data_text ++ (at r.control ++ (at r.clear ++ at r.preset))) ≡ []
    → AllEmpty o (at r.data_text) (at r.control) (at r.clear) (at r.preset)
none_in o at r h = all_empty o (at r.data_text) (at r.control) (at r.clear) (at r.preset) h

pub sound_reading : (r : StateReading) → malformed_in r ≡ [] → unknown_in r ≡ [] → coupled_in r ≡ [] → IsSoundReading r
unfolding malformed_in unknown_in coupled_in
sound_reading r h k l =
    let m = none_in r.malformed malformed_at r h in
    let u = none_in r.unknown unknown_at r k in
    let c = none_in r.coupled coupled_at r l in
    record {
      whole = m.place;
      inputs_known = u.place;
      inputs_apart = c.place;
      of_data = record { well_formed = m.one; known = u.one; apart = c.one };
      of_control = record { well_formed = m.two; known = u.two; apart = c.two };
      of_clear = record { well_formed = m.three; known = u.three; apart = c.three };
      of_preset = record { well_formed = m.four; known = u.four; apart = c.four };
    }

-- Supports.

pub some_support : (r : StateReading) → r.holds ≡ true → no_support_in r ≡ [] → IsTrue (nat_lt 0 (length r.support))
unfolding no_support_in
some_support r h k =
    let e : r.holds && length r.support == 0 ≡ false = no_place (r.holds && length r.support == 0) r.at k in
    let l : length r.support == 0 ≡ false = rw h at e in
    above (length r.support) l
  where
    above : (n : ℕ) → n == 0 ≡ false → IsTrue (nat_lt 0 n)
    above zero e = absurd cc
    above (suc n) e = lt-ltb 0 (suc n) (omega arith)

pub narrow_support : (r : StateReading) → r.holds ≡ true → wide_support_in r ≡ [] → IsTrue (nat_le (length r.support) 8)
unfolding wide_support_in
narrow_support r h k =
    let e : r.holds && nat_lt 8 (length r.support) ≡ false = no_place (r.holds && nat_lt 8 (length r.support)) r.at k in
    let l : nat_lt 8 (length r.support) ≡ false = rw h at e in
    within (length r.support) l
  where
    within : (n : ℕ) → nat_lt 8 n ≡ false → IsTrue (nat_le n 8)
    within n e = elim (cases_Bool (nat_le n 8)) [
      | inl t ↦ t
      | inr t ↦ absurd (let less : 8 < n = grind arith in let u : nat_lt 8 n ≡ true = lt-ltb 8 n less in cc)
    ]

-- an input pin, or no pin
abbrev pub is_no_other_pin : List Pin → ℕ → Bool
is_no_other_pin pins i = is_input_pin pins i || nat_le (length pins) i

not_both : (n i : ℕ) → IsTrue (nat_lt i n) → IsTrue (nat_le n i) → ⊥
not_both n i h k = let a : i < n = ltb-true i n h in let b : n ≤ i = leb-true n i k in absurd (omega arith)

pin_among : (pins : List Pin) (i : ℕ) → IsTrue (nat_lt i (length pins)) → IsTrue (is_no_other_pin pins i)
    → IsTrue (is_input_pin pins i)
pin_among pins i h k =
    elim (or_cases (is_input_pin pins i) (nat_le (length pins) i) k) [
      | inl e ↦ e
      | inr e ↦ absurd (not_both (length pins) i h e)
    ]

-- the pins among some names are input pins, where these are input pins and no pins
pub support_of_inputs :
    (pins : List Pin) (names : List ℕ) → IsTrue (list_all (is_no_other_pin pins) names)
    → IsTrue (list_all (is_input_pin pins) (pins_among (length pins) names))
support_of_inputs pins names h =
    let below : ℕ → Bool = λ i. nat_lt i (length pins) in
    all_insert_all (is_input_pin pins) [] (filter below names) refl
    (all_both below (is_no_other_pin pins) (is_input_pin pins) (filter below names) (λ i. pin_among pins i)
    (filter_all below names)
    (in_passes (is_no_other_pin pins) (filter below names) names (filter_in below names) h))

-- input pins among some names stand in the support that these give
pub inputs_in_support :
    (pins : List Pin) (xs names : List ℕ) → IsTrue (stand_in names xs) → IsTrue (list_all (is_input_pin pins) xs)
    → IsTrue (stand_in (pins_among (length pins) names) xs)
inputs_in_support pins xs names h k =
    let below : ℕ → Bool = λ i. nat_lt i (length pins) in
    let support : List ℕ = pins_among (length pins) names in
    all_both (has names) (is_input_pin pins) (has support) xs
    (λ i there input.
    let less : i < length pins = input-below pins i input in
    has-all (has support) (filter below names) i (in_placed (filter below names))
    (in_filter below names i (lt-ltb i (length pins) less) there))
    h k

-- what all pins among some names pass, their support passes
pub support_passes :
    (pins : List Pin) (p : ℕ → Bool) (names : List ℕ) → IsTrue (list_all (λ i. p i || nat_le (length pins) i) names)
    → IsTrue (list_all p (pins_among (length pins) names))
support_passes pins p names h =
    let below : ℕ → Bool = λ i. nat_lt i (length pins) in
    let either : ℕ → Bool = λ i. p i || nat_le (length pins) i in
    all_insert_all p [] (filter below names) refl
    (all_both below either p (filter below names)
    (λ i l e. elim (or_cases (p i) (nat_le (length pins) i) e) [ inl k ↦ k | inr k ↦ absurd (not_both (length pins) i l k) ])
    (filter_all below names) (in_passes either (filter below names) names (filter_in below names) h))

pub is_support_from :
    (pins : List Pin) (names : List ℕ) → IsTrue (nat_lt 0 (length (pins_among (length pins) names)))
    → IsTrue (nat_le (length (pins_among (length pins) names)) 8) → IsTrue (list_all (is_no_other_pin pins) names)
    → IsTrue (is_support pins (pins_among (length pins) names))
is_support_from pins names some few inputs =
    let support : List ℕ = pins_among (length pins) names in
    let below : ℕ → Bool = λ i. nat_lt i (length pins) in
    and_from (nat_lt 0 (length support)) _ some
    (and_from (nat_le (length support) 8) _ few
    (and_from (is_ascending support) (list_all (is_input_pin pins) support) (placed_ascend (filter below names))
    (support_of_inputs pins names inputs)))

-- Names of texts.

kept_parts : (pins : List Pin) (to : List ℕ) (i : ℕ) → IsTrue (is_kept_input pins to i) → (slice_index to i ≡ i)
    × IsTrue (is_input_pin pins i)
kept_parts pins to i h =
    let p = and_parts (nat_eq (slice_index to i) i) (is_input_pin pins i) h in
    (eqb-true (slice_index to i) i p.0, p.1)

-- input pins keep their numbers
pub map_kept : (pins : List Pin) (to xs : List ℕ) → IsTrue (list_all (is_kept_input pins to) xs) → map (slice_index to) xs ≡ xs
map_kept pins to [] h = refl
map_kept pins to (x ∷ xs) h =
    let p = and_parts (is_kept_input pins to x) (list_all (is_kept_input pins to) xs) h in
    ap (λ y. y ∷ map (slice_index to) xs) (kept_parts pins to x p.0).0 ∙ ap (λ ys. x ∷ ys) (map_kept pins to xs p.1)

-- The names of the texts of a group: of the text that may name the own variables, and of the three that may not.
pub record NamesAre (pins : List Pin) (to : List ℕ) (m : ℕ) (d c l p : Text) : Type 0 where
  pub of_data : IsTrue (list_all (is_input_or_own pins to m) (text_names d))
  pub of_control : IsTrue (list_all (is_kept_input pins to) (text_names c))
  pub of_clear : IsTrue (list_all (is_kept_input pins to) (text_names l))
  pub of_preset : IsTrue (list_all (is_kept_input pins to) (text_names p))

kept_is_input : (pins : List Pin) (to xs : List ℕ) → IsTrue (list_all (is_kept_input pins to) xs)
    → IsTrue (list_all (is_input_pin pins) xs)
kept_is_input pins to xs h = list_all-implied (is_kept_input pins to) (is_input_pin pins) xs (λ i k. (kept_parts pins to i k).1) h

input_is_no_other : (pins : List Pin) (xs : List ℕ) → IsTrue (list_all (is_input_pin pins) xs)
    → IsTrue (list_all (is_no_other_pin pins) xs)
input_is_no_other pins xs h =
    list_all-implied (is_input_pin pins) (is_no_other_pin pins) xs
    (λ i k. or_left (is_input_pin pins i) (nat_le (length pins) i) k) h

own_is_no_other :
    (pins : List Pin) (to : List ℕ) (m i : ℕ) → IsTrue (is_input_or_own pins to m i) → IsTrue (is_no_other_pin pins i)
own_is_no_other pins to m i h =
    let own : Bool = nat_eq (slice_index to i) m || nat_eq (slice_index to i) (m + 1) in
    elim (or_cases (is_kept_input pins to i) (nat_le (length pins) i && own) h) [
      | inl e ↦ or_left (is_input_pin pins i) (nat_le (length pins) i) (kept_parts pins to i e).1
      | inr e ↦ or_right (is_input_pin pins i) (nat_le (length pins) i) (and_parts (nat_le (length pins) i) own e).0
    ]

-- what the names of a text pass, its support passes
in_text : (p : ℕ → Bool) (t : Text) → IsTrue (list_all p (text_names t)) → IsTrue (list_all p (text_support t))
in_text p t h = in_passes p (text_support t) (text_names t) (support_in_names t) h

module _ (pins : List Pin) (to : List ℕ) (m : ℕ) (d c l p : Text) (n : NamesAre pins to m d c l p) where
  abbrev support : List ℕ
  support = pins_among (length pins) (names_read d c l p)

  abbrev control : List ℕ
  control = text_names c ++ (text_names l ++ text_names p)

  abbrev written : List ℕ
  written = map (slice_index to) (text_names d)

  -- what each text's names pass, all names pass that were read
  reads_pass :
      (q : ℕ → Bool) → IsTrue (list_all q (text_names d)) → IsTrue (list_all q (text_names c))
      → IsTrue (list_all q (text_names l))
      → IsTrue (list_all q (text_names p)) → IsTrue (list_all q (names_read d c l p))
  reads_pass q a b e f =
      all_from q (text_support d) (text_support c ++ (text_support l ++ text_support p)) (in_text q d a)
      (all_from q (text_support c) (text_support l ++ text_support p) (in_text q c b)
      (all_from q (text_support l) (text_support p) (in_text q l e) (in_text q p f)))

  reads_are_inputs : IsTrue (list_all (is_no_other_pin pins) (names_read d c l p))
  reads_are_inputs =
      reads_pass (is_no_other_pin pins)
      (list_all-implied (is_input_or_own pins to m) (is_no_other_pin pins) (text_names d) (λ i. own_is_no_other pins to m i)
      n.of_data)
      (input_is_no_other pins (text_names c) (kept_is_input pins to (text_names c) n.of_control))
      (input_is_no_other pins (text_names l) (kept_is_input pins to (text_names l) n.of_clear))
      (input_is_no_other pins (text_names p) (kept_is_input pins to (text_names p) n.of_preset))

  data_read : IsTrue (stand_in (names_read d c l p) (text_names d))
  data_read = in_left (text_names d) (text_support d) (text_support c ++ (text_support l ++ text_support p)) (names_in_support d)

  control_read : IsTrue (stand_in (names_read d c l p) (text_names c))
  control_read =
      in_right (text_names c) (text_support d) (text_support c ++ (text_support l ++ text_support p))
      (in_left (text_names c) (text_support c) (text_support l ++ text_support p) (names_in_support c))

  clear_read : IsTrue (stand_in (names_read d c l p) (text_names l))
  clear_read =
      in_right (text_names l) (text_support d) (text_support c ++ (text_support l ++ text_support p))
      (in_right (text_names l) (text_support c) (text_support l ++ text_support p)
      (in_left (text_names l) (text_support l) (text_support p) (names_in_support l)))

  preset_read : IsTrue (stand_in (names_read d c l p) (text_names p))
  preset_read =
      in_right (text_names p) (text_support d) (text_support c ++ (text_support l ++ text_support p))
      (in_right (text_names p) (text_support c) (text_support l ++ text_support p)
      (in_right (text_names p) (text_support l) (text_support p) (names_in_support p)))

  control_in_support : IsTrue (list_all (has support) control)
  control_in_support =
      all_from (has support) (text_names c) (text_names l ++ text_names p)
      (inputs_in_support pins (text_names c) (names_read d c l p) control_read
      (kept_is_input pins to (text_names c) n.of_control))
      (all_from (has support) (text_names l) (text_names p)
      (inputs_in_support pins (text_names l) (names_read d c l p) clear_read (kept_is_input pins to (text_names l) n.of_clear))
      (inputs_in_support pins (text_names p) (names_read d c l p) preset_read (kept_is_input pins to (text_names p) n.of_preset)))

  -- a name of the data text is in the support or the own variables'
  abbrev is_own_or_held : ℕ → Bool
  is_own_or_held x = has support x || (nat_eq x m || nat_eq x (m + 1))

  data_number_held :
      (i : ℕ) → IsTrue (has (names_read d c l p) i) → IsTrue (is_input_or_own pins to m i)
      → IsTrue (is_own_or_held (slice_index to i))
  data_number_held i there h =
      let x : ℕ = slice_index to i in
      let own : Bool = nat_eq (slice_index to i) m || nat_eq (slice_index to i) (m + 1) in
      elim (or_cases (is_kept_input pins to i) (nat_le (length pins) i && own) h) [
        | inl e ↦
            let k = kept_parts pins to i e in
            let one : IsTrue (stand_in (names_read d c l p) (i ∷ [])) = and_from (has (names_read d c l p) i) true there refl in
            let two : IsTrue (list_all (is_input_pin pins) (i ∷ [])) = and_from (is_input_pin pins i) true k.1 refl in
            let held : IsTrue (has support i) =
            (and_parts (has support i) true (inputs_in_support pins (i ∷ []) (names_read d c l p) one two)).0 in
            or_left (has support x) own (subst (λ y. IsTrue (has support y)) (sym k.0) held)
        | inr e ↦ or_right (has support x) own (and_parts (nat_le (length pins) i) own e).1
      ]

  data_in_support : IsTrue (list_all is_own_or_held written)
  data_in_support =
      all_map is_own_or_held (slice_index to) (text_names d)
      (all_both (has (names_read d c l p)) (is_input_or_own pins to m) (λ i. is_own_or_held (slice_index to i)) (text_names d)
      data_number_held data_read n.of_data)

  -- the support is named
  abbrev is_named : ℕ → Bool
  is_named i = has (control ++ written) i

  data_named : (i : ℕ) → IsTrue (has (text_names d) i) → IsTrue (is_input_or_own pins to m i)
      → IsTrue (is_named i || nat_le (length pins) i)
  data_named i there h =
      let own : Bool = nat_eq (slice_index to i) m || nat_eq (slice_index to i) (m + 1) in
      elim (or_cases (is_kept_input pins to i) (nat_le (length pins) i && own) h) [
        | inl e ↦
            let k = kept_parts pins to i e in
            or_left (is_named i) (nat_le (length pins) i)
            (has_append_right control written i
            (subst (λ y. IsTrue (has written y)) k.0 (has_map (slice_index to) (text_names d) i there)))
        | inr e ↦ or_right (is_named i) (nat_le (length pins) i) (and_parts (nat_le (length pins) i) own e).0
      ]

  control_named : (xs : List ℕ) → IsTrue (stand_in control xs) → IsTrue (list_all (λ i. is_named i || nat_le (length pins) i) xs)
  control_named xs h =
      list_all-implied (has control) (λ i. is_named i || nat_le (length pins) i) xs
      (λ i k. or_left (is_named i) (nat_le (length pins) i) (has_append_left control written i k)) h

  support_named : IsTrue (list_all is_named support)
  support_named =
      support_passes pins is_named (names_read d c l p)
      (reads_pass (λ i. is_named i || nat_le (length pins) i)
      (all_both (has (text_names d)) (is_input_or_own pins to m) (λ i. is_named i || nat_le (length pins) i) (text_names d)
      data_named (in_itself (text_names d)) n.of_data)
      (control_named (text_names c) (in_left (text_names c) (text_names c) (text_names l ++ text_names p)
      (in_itself (text_names c))))
      (control_named (text_names l)
      (in_right (text_names l) (text_names c) (text_names l ++ text_names p)
      (in_left (text_names l) (text_names l) (text_names p) (in_itself (text_names l)))))
      (control_named (text_names p)
      (in_right (text_names p) (text_names c) (text_names l ++ text_names p)
      (in_right (text_names p) (text_names l) (text_names p) (in_itself (text_names p))))))

  -- The group of these texts, where the kind names what they do.
  pub group_from :
      (k : GroupKind) → control_names k ≡ text_names c ++ (text_names l ++ text_names p)
      → data_names k ≡ map (slice_index to) (text_names d)
      → IsTrue (is_kind k)
      → IsTrue (nat_lt 0 (length (pins_among (length pins) (names_read d c l p))))
      → IsTrue (nat_le (length (pins_among (length pins) (names_read d c l p))) 8)
      → IsTrue (is_group pins m (record { kind = k; support = pins_among (length pins) (names_read d c l p) }))
  group_from k e f ok some few =
      and_from (is_support pins support) _ (is_support_from pins (names_read d c l p) some few reads_are_inputs)
      (and_from (names_support m (record { kind = k; support = support })) (is_kind k)
      (and_from (list_all (has support) (control_names k)) _
      (subst (λ xs. IsTrue (list_all (has support) xs)) (sym e) control_in_support)
      (and_from (list_all is_own_or_held (data_names k)) (list_all (has (control_names k ++ data_names k)) support)
      (subst (λ xs. IsTrue (list_all is_own_or_held xs)) (sym f) data_in_support)
      (subst (λ xs. IsTrue (list_all (has (xs ++ data_names k)) support)) (sym e)
      (subst (λ xs. IsTrue (list_all (has (control ++ xs)) support)) (sym f) support_named))))
      ok)
