-- The core of a cell with more pins than the limit is refused as the trimmed core is, or for what is wrong in the timing that it
-- lost.
use Rattle.std.proofs.Common.{◌≡◌, ℕ, ◌+◌, ◌-◌, ◌<◌, ◌^◌, suc, zero, Bool, true, false, ◌&&◌, List, [], ◌∷◌, ◌++◌, length, map}
use Rattle.std.proofs.Common.{drop, take, if◌then◌else◌, refl, sym, ap, ◌∙◌, subst, arith, Option, None}
use Rattle.std.specs.Prelude.{nat_le}
use Rattle.std.specs.List.{list_all}
use Rattle.std.proofs.Math.Bool.{and-false as no_and}
use Rattle.std.proofs.lemmas.Bool.{and_parts, and_from}
use Rattle.std.proofs.lemmas.List.{take-append-drop, map-append, append_assoc, length-drop, length-map, length-take-le}
use Rattle.liberty_groups.specs.declared.tree.Item.{Item, out-Item}
use Rattle.liberty_groups.specs.declared.tree.Item.TheOpen.{Group-F}
use Rattle.liberty_groups.specs.declared.tree.Item.TheViews.{out-roll-Group}
use Rattle.liberty_groups.specs.declared.tree.Group.{Group}
use Rattle.liberty_groups.specs.Attributes.{Attribute}
use Rattle.timing_arcs.specs.declared.subject.Subject.{Subject}
use Rattle.timing_arcs.specs.Timing.{check_at_of, reading_answer}
use Rattle.cell_attributes.specs.Groups.{pin_groups}
use Rattle.cell_attributes.specs.Pins.{owners_of}
use Rattle.cell_reader.specs.declared.refusal.Refusal.{Refusal}
use Rattle.cell_reader.specs.PinTimings.{subject_at, arc_at_of, places_from}
use Rattle.cell_reader.specs.Refusals.{refusal_of}
use Rattle.core_groups.specs.Outputs.{CanBeNumbered, is_three_state, three_state_outputs}
use Rattle.core_groups.specs.CoreGroups.{stays_in_core, core_pin, core_group}
use Rattle.three_state_cells.specs.Refusals.{first_of_two}
use Rattle.three_state_cells.specs.Trimmed.{is_behind, all_behind, stands_behind, are_behind, is_in_order, is_trimmed, trimmed}
use Rattle.three_state_cells.specs.Trimmed.{keeps_order, all_keep_order, timing_told, wrong_pin, wrong_with, in_core, lost_wrong}
use Rattle.three_state_cells.specs.Trimmed.{IsTrimmedCore}
use Rattle.three_state_cells.proofs.Untimed.{same_at}
use Rattle.three_state_cells.proofs.Groups.{no_more, same_of}
use Rattle.three_state_cells.proofs.Owners.{trimmed_owners}
use Rattle.three_state_cells.proofs.Limits.{are_above, both_above, all_whole, AreBehind, stand_behind}
use Rattle.three_state_cells.proofs.Refused.{owners, places_join, refused, unaccepted}
use Rattle.three_state_cells.proofs.CorePins.{core_as}
use Rattle.three_state_cells.proofs.CoreOwners.{stay, core_items, core_place, owners_of_core, enable_owners, enable_group}
use Rattle.three_state_cells.proofs.CoreOwners.{AreEnables}
use Rattle.three_state_cells.proofs.CoreOwners.{are_enables}
use Rattle.three_state_cells.proofs.UntimedCores.{enable_untimed, no_checks, no_arcs}
use Rattle.three_state_cells.proofs.TrimmedCores.{trimmed_in_core, owners_stay, core_trimmed}
use Rattle.three_state_cells.proofs.Sinks.{first_alone}

-- What stands no less far does so in the core.
all_stay : (m : ℕ) (items : List Item) → list_all (is_behind m) items ≡ true
    → list_all (is_behind m) (stay items) ≡ true
all_stay m [] h = refl
all_stay m (item ∷ items) h =
    let parts = and_parts (is_behind m item) (list_all (is_behind m) items) h in
    by (stays_in_core (out-Item item)) parts.0 (all_stay m items parts.1)
  where
    by : (b : Bool) → is_behind m item ≡ true → list_all (is_behind m) (stay items) ≡ true
        → list_all (is_behind m) (if b then item ∷ stay items else stay items) ≡ true
    by true e h = and_from (is_behind m item) (list_all (is_behind m) (stay items)) e h
    by false e h = h

behind_in_core : (m : ℕ) (group : Group) → stands_behind m group ≡ true → stands_behind m (in_core group) ≡ true
behind_in_core m group h = by (is_three_state group)
  where
    by : (b : Bool) → stands_behind m (if b then core_pin group else group) ≡ true
    by true =
        let parts = and_parts (nat_le m group.at) (all_behind m group) h in
        and_from (nat_le m (core_pin group).at) (all_behind m (core_pin group))
        (ap (λ (one : Group-F Item Group). nat_le m one.at) (out-roll-Group (core_as group)) ∙ parts.0)
        (ap (list_all (is_behind m)) (core_items group) ∙ all_stay m group.items parts.1)
    by false = h

all_in_core : (m : ℕ) (owners : List Group) → list_all (stands_behind m) owners ≡ true
    → list_all (stands_behind m) (map in_core owners) ≡ true
all_in_core m [] h = refl
all_in_core m (owner ∷ owners) h =
    let parts = and_parts (stands_behind m owner) (list_all (stands_behind m) owners) h in
    and_from (stands_behind m (in_core owner)) (list_all (stands_behind m) (map in_core owners))
    (behind_in_core m owner parts.0) (all_in_core m owners parts.1)

-- The outputs for three-state outputs make no checks and no arcs, and nothing is wrong in their timing.
none_made : (f : Subject → Group → List ℕ) → ((s : Subject) (number : ℕ) (floats : Attribute) → f s (enable_group number floats) ≡ [])
    → (s : Subject) (pin : ℕ) (owners : List Group) → AreEnables owners → places_from f s pin owners ≡ []
none_made f none s pin [] h = refl
none_made f none s pin (owner ∷ owners) h =
    let here : f (subject_at s pin) owner ≡ [] =
    ap (f (subject_at s pin)) h.0.1.1 ∙ none (subject_at s pin) h.0.0 h.0.1.0 in
    λ i. here i ++ none_made f none s (pin + 1) owners h.1 i

with_enables : (m : ℕ) (s : Subject) (owners enables : List Group) → list_all (stands_behind m) owners ≡ true
    → AreEnables enables → AreBehind m s (owners ++ enables)
with_enables m s owners enables h e =
    let own : AreBehind m s owners = stand_behind m s owners h in
    record {
      checks = λ pin.
          ap (are_above m) (places_join check_at_of s owners enables pin)
          ∙ both_above m (places_from check_at_of s pin owners) (places_from check_at_of s (pin + length owners) enables)
          (own.checks pin)
          (ap (are_above m) (none_made check_at_of (λ s number floats. no_checks number floats s) s (pin + length owners) enables e));
      arcs = λ pin.
          ap (are_above m) (places_join arc_at_of s owners enables pin)
          ∙ both_above m (places_from arc_at_of s pin owners) (places_from arc_at_of s (pin + length owners) enables)
          (own.arcs pin)
          (ap (are_above m) (none_made arc_at_of (λ s number floats. no_arcs number floats s) s (pin + length owners) enables e));
    }

enable_right : (s : Subject) (pin number : ℕ) (floats : Attribute) → wrong_pin s pin (enable_group number floats) ≡ None
enable_right s pin number floats =
    ap (λ b. if b then timing_told (reading_answer (subject_at s pin) (enable_group number floats)) else None)
    (ap (λ b. is_trimmed pin (enable_group number floats) && b) (enable_untimed number floats)
    ∙ no_and (is_trimmed pin (enable_group number floats)))

enables_right : (s : Subject) (found : Option Refusal) (pin : ℕ) (owners : List Group) → AreEnables owners
    → wrong_with s found pin owners ≡ found
enables_right s found pin [] h = refl
enables_right s found pin (owner ∷ owners) h =
    let none : wrong_pin s pin owner ≡ None = ap (wrong_pin s pin) h.0.1.1 ∙ enable_right s pin h.0.0 h.0.1.0 in
    ap (λ f. wrong_with s f (pin + 1) owners) (ap (first_of_two found) none ∙ first_alone found)
    ∙ enables_right s found (pin + 1) owners h.1

wrong_before : (s : Subject) (found : Option Refusal) (pin : ℕ) (owners enables : List Group) → AreEnables enables
    → wrong_with s found pin (owners ++ enables) ≡ wrong_with s found pin owners
wrong_before s found pin [] enables e = enables_right s found pin enables e
wrong_before s found pin (owner ∷ owners) enables e =
    wrong_before s (first_of_two found (wrong_pin s pin owner)) (pin + 1) owners enables e

-- The pins behind the limit.
drop_trimmed : (n pin : ℕ) (owners : List Group)
    → drop n (trimmed_owners pin owners) ≡ trimmed_owners (pin + n) (drop n owners)
drop_trimmed zero pin owners = ap (λ p. trimmed_owners p owners) (sym (no_more pin))
drop_trimmed (suc n) pin [] = refl
drop_trimmed (suc n) pin (owner ∷ owners) =
    drop_trimmed n (pin + 1) owners ∙ ap (λ p. trimmed_owners p (drop n owners)) (next n pin)
  where
    next : (n pin : ℕ) → (pin + 1) + n ≡ pin + suc n
    next n pin = omega arith

drop_ordered : (n pin : ℕ) (owners : List Group) → all_keep_order pin owners ≡ true
    → all_keep_order (pin + n) (drop n owners) ≡ true
drop_ordered zero pin owners h = ap (λ p. all_keep_order p owners) (no_more pin) ∙ h
drop_ordered (suc n) pin [] h = refl
drop_ordered (suc n) pin (owner ∷ owners) h =
    ap (λ p. all_keep_order p (drop n owners)) (next n pin)
    ∙ drop_ordered n (pin + 1) owners (and_parts (keeps_order pin owner) (all_keep_order (pin + 1) owners) h).1
  where
    next : (n pin : ℕ) → pin + suc n ≡ (pin + 1) + n
    next n pin = omega arith

front_length : (owners : List Group) (first : Group) (back : List Group) → drop 64 owners ≡ first ∷ back
    → length (take 64 owners) ≡ 64
front_length owners first back e =
    let behind : length (first ∷ back) ≡ length owners - 64 = sym (ap length e) ∙ length-drop 64 owners in
    let some : 0 < length (first ∷ back) = omega arith in
    length-take-le 64 owners (omega arith)

trimmed_with : (pin : ℕ) (owners enables : List Group) → AreEnables enables
    → trimmed_owners pin (map in_core owners ++ enables) ≡ map in_core (trimmed_owners pin owners) ++ enables
trimmed_with pin [] enables e = owners_stay pin enables e
trimmed_with pin (owner ∷ owners) enables e = λ i. trimmed_in_core pin owner i ∷ trimmed_with (pin + 1) owners enables e i

same_count : (pin : ℕ) (groups : List Group) → length (trimmed_owners pin groups) ≡ length groups
same_count pin [] = refl
same_count pin (group ∷ groups) = ap suc (same_count (pin + 1) groups)

module _ (cell : Group) where
  abbrev enables : List Group
  enables = enable_owners 0 (three_state_outputs cell)

  -- What is told of the core where the cell stands in order.
  record Refuses (s : Subject) (earlier : List (List ℕ)) : Type 0 where
    pub same : refusal_of s earlier (core_group cell)
        ≡ first_of_two (refusal_of s earlier (trimmed (core_group cell))) (lost_wrong s cell)
    pub never : refusal_of s earlier (trimmed (core_group cell)) ≡ None → ⊥

  with_first : (s : Subject) (earlier : List (List ℕ)) (first : Group) (back : List Group)
      → drop 64 (owners_of cell) ≡ first ∷ back → all_keep_order 64 (first ∷ back) ≡ true
      → list_all (stands_behind first.at) (trimmed_owners 64 (first ∷ back)) ≡ true → Refuses s earlier
  with_first s earlier first back e ordered small =
      let front : List Group = take 64 (owners_of cell) in
      let rest : List Group = map in_core back ++ enables in
      let split : owners_of cell ≡ front ++ first ∷ back =
      sym (take-append-drop 64 (owners_of cell)) ∙ ap (λ l. front ++ l) e in
      let core_split : owners_of (core_group cell) ≡ map in_core front ++ in_core first ∷ rest =
      owners_of_core cell
      ∙ (ap (λ l. map in_core l ++ enables) split
      ∙ (ap (λ l. l ++ enables) (map-append in_core front (first ∷ back))
      ∙ append_assoc (map in_core front) (map in_core (first ∷ back)) enables)) in
      let count : length (map in_core front) ≡ 64 = length-map front in_core ∙ front_length (owners_of cell) first back e in
      let at : ℕ = (in_core first).at in
      let are : AreEnables enables = are_enables 0 (three_state_outputs cell) in
      let whole : list_all (stands_behind at) (first ∷ back) ≡ true =
      ap (λ m. list_all (stands_behind m) (first ∷ back)) (core_place first)
      ∙ all_whole first.at 64 (first ∷ back) ordered small in
      let trimmed_whole : list_all (stands_behind at) (trimmed_owners 64 (first ∷ back)) ≡ true =
      ap (λ m. list_all (stands_behind m) (trimmed_owners 64 (first ∷ back))) (core_place first) ∙ small in
      let behind : AreBehind at s (in_core first ∷ rest) =
      with_enables at s (map in_core (first ∷ back)) enables (all_in_core at (first ∷ back) whole) are in
      let trimmed_behind : AreBehind at s (trimmed_owners 64 (in_core first ∷ rest)) =
      subst (AreBehind at s) (sym (trimmed_with 64 (first ∷ back) enables are))
      (with_enables at s (map in_core (trimmed_owners 64 (first ∷ back))) enables
      (all_in_core at (trimmed_owners 64 (first ∷ back)) trimmed_whole) are) in
      record {
        same =
            refused (core_group cell) (map in_core front) (in_core first) rest core_split count s behind trimmed_behind earlier
            ∙ ap (first_of_two (refusal_of s earlier (trimmed (core_group cell))))
            (ap (wrong_with s None 0) (owners_of_core cell) ∙ wrong_before s None 0 (map in_core (owners_of cell)) enables are);
        never = unaccepted (core_group cell) (map in_core front) (in_core first) rest core_split count s behind trimmed_behind
            earlier;
      }

  in_order : is_in_order (trimmed cell) ≡ true → all_keep_order 0 (owners_of cell) ≡ true → (s : Subject)
      (earlier : List (List ℕ)) → Refuses s earlier
  in_order h order s earlier =
      by (drop 64 (owners_of cell)) refl
      (sym (ap are_behind (ap (drop 64) (owners cell) ∙ drop_trimmed 64 0 (owners_of cell))) ∙ h)
    where
      by : (back : List Group) → drop 64 (owners_of cell) ≡ back → are_behind (trimmed_owners 64 (drop 64 (owners_of cell))) ≡ true
          → Refuses s earlier
      by [] e k =
          let no : false ≡ true = sym (ap (λ l. are_behind (trimmed_owners 64 l)) e) ∙ k in absurd cc
      by (first ∷ back) e k =
          with_first s earlier first back e
          (sym (ap (all_keep_order 64) e) ∙ drop_ordered 64 0 (owners_of cell) order)
          (sym (ap (λ at. list_all (stands_behind at) (trimmed_owners 64 (first ∷ back)))
          (same_of (λ (group : Group). group.at) (λ group is. same_at group) 64 first))
          ∙ (sym (ap (λ l. are_behind (trimmed_owners 64 l)) e) ∙ k))

  pub is_trimmed_core : (made core : Group) → made ≡ trimmed cell → core ≡ core_group made → is_in_order made ≡ true
      → all_keep_order 0 (owners_of cell) ≡ true → CanBeNumbered (pin_groups made) → IsTrimmedCore cell core
  is_trimmed_core made core trims is order ordered few =
      let same : core ≡ trimmed (core_group cell) = is ∙ (ap core_group trims ∙ core_trimmed cell) in
      let refuses : (s : Subject) (earlier : List (List ℕ)) → Refuses s earlier =
      in_order (sym (ap is_in_order trims) ∙ order) ordered in
      let count : length (owners_of made) ≡ length (owners_of cell) =
      ap (λ (one : Group). length (owners_of one)) trims ∙ (ap (λ l. length l) (owners cell) ∙ same_count 0 (owners_of cell)) in
      record {
        trims = same;
        few = subst (λ n. n < 2 ^ 64) count few;
        decides = λ s earlier.
            (refuses s earlier).same ∙ ap (λ small. first_of_two (refusal_of s earlier small) (lost_wrong s cell)) (sym same);
        never = λ s earlier h. (refuses s earlier).never (sym (ap (refusal_of s earlier) same) ∙ h);
      }
