-- The offsets of checks and arcs of pins behind the limit are no less than that of the first of these pins, so that they don't
-- decide where a limit is passed.
use Rattle.std.proofs.Common.{◌≡◌, ℕ, ◌+◌, ◌≤◌, min, suc, zero, Bool, true, false, not, ◌||◌, List, [], ◌∷◌, ◌++◌, length, map}
use Rattle.std.proofs.Common.{if◌then◌else◌, refl, sym, ap, ◌∙◌, arith, codes, Option, Some, None}
use Rattle.std.specs.Prelude.{flat_map, nat_le, bytes_eq}
use Rattle.std.specs.Option.{option_map_or}
use Rattle.std.specs.List.{list_all, list_any, cons_option}
use Rattle.std.proofs.lemmas.Bool.{and_parts, and_from, leb-true, le-leb}
use Rattle.std.proofs.lemmas.List.Folds.{list_all-append, list_all-map}
use Rattle.liberty_groups.specs.declared.tree.Item.{Item, out-Item}
use Rattle.liberty_groups.specs.declared.tree.Item.TheOpen.{Item-F}
use Rattle.liberty_groups.specs.declared.tree.Item.TheOpen as layer
use Rattle.liberty_groups.specs.declared.tree.Group.{Group}
use Rattle.liberty_groups.specs.Attributes.{Attribute, simple_named, group_named, attributes_named, groups_named, last_or}
use Rattle.liberty_groups.specs.Attributes.{text_of}
use Rattle.liberty_groups.specs.Attributes.{attribute_of}
use Rattle.cell_machine.specs.declared.arcs.Arc.{Arc}
use Rattle.cell_machine.specs.declared.checks.CheckKind.{CheckKind}
use Rattle.cell_machine.specs.declared.checks.CheckKind.TheVariants as kind
use Rattle.cell_machine.specs.declared.checks.Edge.{Edge}
use Rattle.cell_machine.specs.declared.checks.Edge.TheVariants.{Any, Rise, Fall}
use Rattle.cell_machine.specs.CellRules.{is_input_pin}
use Rattle.cell_machine.specs.Delay.{lesser, least}
use Rattle.timing_arcs.specs.declared.subject.Subject.{Subject}
use Rattle.timing_arcs.specs.Making.{checks_in, arcs_in}
use Rattle.timing_arcs.specs.Merging.{Placed, same_path, firsts_after}
use Rattle.timing_arcs.specs.Timing as timing
use Rattle.cell_attributes.specs.Limits.{first_past}
use Rattle.cell_reader.specs.PinTimings.{subject_at, places_from, arc_at_of}
use Rattle.three_state_cells.specs.PinAttributes.{untimed}
use Rattle.three_state_cells.specs.Trimmed.{place_in, is_behind, all_behind, is_trimmed, trimmed_pin, stands_behind}
use Rattle.three_state_cells.specs.Trimmed.{keeps_order, all_keep_order}
use Rattle.three_state_cells.proofs.Untimed.{same_at}
use Rattle.three_state_cells.proofs.Owners.{trimmed_owners}

-- Offsets that are no less than this.
abbrev pub are_above : ℕ → List ℕ → Bool
are_above at offsets = list_all (nat_le at) offsets

module _ (m : ℕ) where
  no_less : (y : ℕ) → nat_le m y ≡ true → min m y ≡ m
  no_less y h = let le : m ≤ y = leb-true m y h in omega arith

  past_end : (n : ℕ) (ys : List ℕ) → are_above m ys ≡ true → lesser (Some m) (least (first_past n ys)) ≡ Some m
  past_end n [] h = refl
  past_end zero (y ∷ ys) h = ap Some (no_less y (and_parts (nat_le m y) (are_above m ys) h).0)
  past_end (suc n) (y ∷ ys) h = past_end n ys (and_parts (nat_le m y) (are_above m ys) h).1

  -- which is past a limit hangs on those before them, or is no less
  pub past : (n : ℕ) (xs ys : List ℕ) → are_above m ys ≡ true
      → lesser (Some m) (least (first_past n (xs ++ ys))) ≡ lesser (Some m) (least (first_past n xs))
  past n [] ys h = past_end n ys h
  past zero (x ∷ xs) ys h = refl
  past (suc n) (x ∷ xs) ys h = past n xs ys h

  -- Statements that stand no less far make no lesser offsets.
  all_told : {A B : Type 0} (test : A → Bool) (told : B → Bool) (f : A → List B)
      → ((x : A) → test x ≡ true → list_all told (f x) ≡ true) → (xs : List A) → list_all test xs ≡ true
      → list_all told (flat_map f xs) ≡ true
  all_told test told f each [] h = refl
  all_told test told f each (x ∷ xs) h =
      let parts = and_parts (test x) (list_all test xs) h in
      list_all-append told (f x) (flat_map f xs)
      ∙ and_from (list_all told (f x)) (list_all told (flat_map f xs)) (each x parts.0)
      (all_told test told f each xs parts.1)

  same_above : {A : Type 0} (at : ℕ) (xs : List A) → nat_le m at ≡ true → are_above m (map (λ x. at) xs) ≡ true
  same_above at [] h = refl
  same_above at (x ∷ xs) h = and_from (nat_le m at) (are_above m (map (λ x. at) xs)) h (same_above at xs h)

  abbrev group_above : Group → Bool
  group_above group = nat_le m group.at

  abbrev attribute_above : Attribute → Bool
  attribute_above attribute = nat_le m attribute.at

  groups_above : (items : List Item) → list_all (is_behind m) items ≡ true
      → list_all group_above (groups_named (codes "timing") items) ≡ true
  groups_above [] h = refl
  groups_above (item ∷ items) h =
      let parts = and_parts (is_behind m item) (list_all (is_behind m) items) h in
      by (out-Item item) parts.0 (groups_above items parts.1)
    where
      inner : (b : Bool) (group : Group) → nat_le m group.at ≡ true
          → list_all group_above (groups_named (codes "timing") items) ≡ true
          → list_all group_above (cons_option (if b then Some group else None) (groups_named (codes "timing") items)) ≡ true
      inner true group e rest =
          and_from (nat_le m group.at) (list_all group_above (groups_named (codes "timing") items)) e rest
      inner false group e rest = rest

      by : (y : Item-F Item Group) → nat_le m (place_in y) ≡ true
          → list_all group_above (groups_named (codes "timing") items) ≡ true
          → list_all group_above (cons_option (group_named (codes "timing") y) (groups_named (codes "timing") items)) ≡ true
      by (layer.Simple name value at) e rest = rest
      by (layer.Complex name arguments at) e rest = rest
      by (layer.Inner group) e rest = inner (bytes_eq group.name (codes "timing")) group e rest

  attributes_above : (wanted : List ℕ) (items : List Item) → list_all (is_behind m) items ≡ true
      → list_all attribute_above (attributes_named wanted items) ≡ true
  attributes_above wanted [] h = refl
  attributes_above wanted (item ∷ items) h =
      let parts = and_parts (is_behind m item) (list_all (is_behind m) items) h in
      by (out-Item item) parts.0 (attributes_above wanted items parts.1)
    where
      found : (b : Bool) (one : Attribute) → nat_le m one.at ≡ true
          → list_all attribute_above (attributes_named wanted items) ≡ true
          → list_all attribute_above (cons_option (if b then Some one else None) (attributes_named wanted items)) ≡ true
      found true one e rest =
          and_from (nat_le m one.at) (list_all attribute_above (attributes_named wanted items)) e rest
      found false one e rest = rest

      by : (y : Item-F Item Group) → nat_le m (place_in y) ≡ true
          → list_all attribute_above (attributes_named wanted items) ≡ true
          → list_all attribute_above (cons_option (simple_named wanted y) (attributes_named wanted items)) ≡ true
      by (layer.Simple name value at) e rest =
          found (bytes_eq name wanted) (record { text = text_of value; at = at }) e rest
      by (layer.Complex name arguments at) e rest = rest
      by (layer.Inner group) e rest = rest

  abbrev option_above : Option Attribute → Bool
  option_above o = option_map_or attribute_above o true

  last_above : (o : Option Attribute) (xs : List Attribute) → option_above o ≡ true → list_all attribute_above xs ≡ true
      → option_above (last_or o xs) ≡ true
  last_above o [] h k = h
  last_above o (x ∷ xs) h k =
      let parts = and_parts (attribute_above x) (list_all attribute_above xs) k in last_above (Some x) xs parts.0 parts.1

  limit_above : (s : Subject) (pin : Group) (name : List ℕ) → all_behind m pin ≡ true
      → option_above (timing.limit_attribute s pin name) ≡ true
  limit_above s pin name h = by (is_input_pin s.pins s.place)
    where
      by : (b : Bool) → option_above (if b then attribute_of pin name else None) ≡ true
      by true = last_above None (attributes_named name pin.items) refl (attributes_above name pin.items h)
      by false = refl

  check_above : (s : Subject) (k : CheckKind) (first second : Edge) (o : Option Attribute) → option_above o ≡ true
      → are_above m (timing.attribute_check_at s k first second o) ≡ true
  check_above s k first second None h = refl
  check_above s k first second (Some a) h = same_above a.at (timing.attribute_check s k first second a) h

  pub both_above : (xs ys : List ℕ) → are_above m xs ≡ true → are_above m ys ≡ true → are_above m (xs ++ ys) ≡ true
  both_above xs ys h k = list_all-append (nat_le m) xs ys ∙ and_from (are_above m xs) (are_above m ys) h k

  -- What statements of a pin make stands no less far.
  abbrev pub MakesAbove : (Subject → Group → List ℕ) → Type 0
  MakesAbove f = (s : Subject) (pin : Group) → all_behind m pin ≡ true → are_above m (f s pin) ≡ true

  pub checks_above : MakesAbove timing.check_at_of
  checks_above s pin h =
      let high : Option Attribute = timing.pulse_high s pin in
      let low : Option Attribute = timing.pulse_low s pin in
      let period : Option Attribute = timing.least_period s pin in
      both_above (flat_map (λ (group : Group). timing.at_each group.at (checks_in s group)) (timing.timing_groups pin)) _
      (all_told group_above (nat_le m) (λ (group : Group). timing.at_each group.at (checks_in s group))
      (λ group e. same_above group.at (checks_in s group) e) (timing.timing_groups pin) (groups_above pin.items h))
      (both_above (timing.attribute_check_at s kind.Width Rise Fall high) _
      (check_above s kind.Width Rise Fall high (limit_above s pin (codes "min_pulse_width_high") h))
      (both_above (timing.attribute_check_at s kind.Width Fall Rise low) _
      (check_above s kind.Width Fall Rise low (limit_above s pin (codes "min_pulse_width_low") h))
      (check_above s kind.Period Any Any period (limit_above s pin (codes "min_period") h))))

  abbrev placed_above : Placed → Bool
  placed_above p = nat_le m p.at

  firsts_above : (earlier : List Arc) (ps : List Placed) → list_all placed_above ps ≡ true
      → list_all placed_above (firsts_after earlier ps) ≡ true
  firsts_above earlier [] h = refl
  firsts_above earlier (p ∷ ps) h =
      let parts = and_parts (placed_above p) (list_all placed_above ps) h in
      by (list_any (same_path p.arc) earlier) parts.0 (firsts_above earlier ps parts.1)
      (firsts_above (p.arc ∷ earlier) ps parts.1)
    where
      by : (b : Bool) → placed_above p ≡ true → list_all placed_above (firsts_after earlier ps) ≡ true
          → list_all placed_above (firsts_after (p.arc ∷ earlier) ps) ≡ true
          → list_all placed_above (if b then firsts_after earlier ps else p ∷ firsts_after (p.arc ∷ earlier) ps) ≡ true
      by true e known new = known
      by false e known new = and_from (placed_above p) (list_all placed_above (firsts_after (p.arc ∷ earlier) ps)) e new

  arcs_of_above : (at : ℕ) (arcs : List Arc) → nat_le m at ≡ true
      → list_all placed_above (map (λ arc. record { arc = arc; at = at }) arcs) ≡ true
  arcs_of_above at [] h = refl
  arcs_of_above at (arc ∷ arcs) h =
      and_from (nat_le m at) (list_all placed_above (map (λ arc. record { arc = arc; at = at }) arcs)) h
      (arcs_of_above at arcs h)

  pub arcs_above : MakesAbove arc_at_of
  arcs_above s pin h =
      list_all-map (nat_le m) (λ (p : Placed). p.at) (firsts_after [] (timing.placed_arcs s pin))
      ∙ firsts_above [] (timing.placed_arcs s pin)
      (all_told group_above placed_above (timing.placed_arcs_in s)
      (λ group e. arcs_of_above group.at (arcs_in s group) e) (timing.timing_groups pin) (groups_above pin.items h))

  pub places_above : (f : Subject → Group → List ℕ) → MakesAbove f → (s : Subject) (pin : ℕ) (owners : List Group)
      → list_all (stands_behind m) owners ≡ true → are_above m (places_from f s pin owners) ≡ true
  places_above f makes s pin [] h = refl
  places_above f makes s pin (owner ∷ owners) h =
      let parts = and_parts (stands_behind m owner) (list_all (stands_behind m) owners) h in
      both_above (f (subject_at s pin) owner) (places_from f s (pin + 1) owners)
      (makes (subject_at s pin) owner (and_parts (nat_le m owner.at) (all_behind m owner) parts.0).1)
      (places_above f makes s (pin + 1) owners parts.1)

  -- A trimmed pin that stands no less far does so whole.
  further : (at : ℕ) (items : List Item) → m ≤ at → list_all (is_behind at) items ≡ true → list_all (is_behind m) items ≡ true
  further at [] h k = refl
  further at (item ∷ items) h k =
      let parts = and_parts (is_behind at item) (list_all (is_behind at) items) k in
      let le : at ≤ place_in (out-Item item) = leb-true at (place_in (out-Item item)) parts.0 in
      and_from (is_behind m item) (list_all (is_behind m) items) (le-leb m (place_in (out-Item item)) (omega arith))
      (further at items h parts.1)

  whole : (pin : ℕ) (owner : Group) → keeps_order pin owner ≡ true → stands_behind m (trimmed_pin pin owner) ≡ true
      → stands_behind m owner ≡ true
  whole pin owner o h = by (is_trimmed pin owner) o h
    where
      by : (b : Bool) → (not b || all_behind owner.at owner) ≡ true → stands_behind m (if b then untimed owner else owner) ≡ true
          → stands_behind m owner ≡ true
      by true behind h =
          let place : nat_le m owner.at ≡ true = sym (ap (nat_le m) (same_at owner))
          ∙ (and_parts (nat_le m (untimed owner).at) (all_behind m (untimed owner)) h).0 in
          and_from (nat_le m owner.at) (all_behind m owner) place
          (further owner.at owner.items (leb-true m owner.at place) behind)
      by false o h = h

  pub all_whole : (pin : ℕ) (owners : List Group) → all_keep_order pin owners ≡ true
      → list_all (stands_behind m) (trimmed_owners pin owners) ≡ true → list_all (stands_behind m) owners ≡ true
  all_whole pin [] o h = refl
  all_whole pin (owner ∷ owners) o h =
      let parts = and_parts (stands_behind m (trimmed_pin pin owner))
      (list_all (stands_behind m) (trimmed_owners (pin + 1) owners)) h in
      let ordered = and_parts (keeps_order pin owner) (all_keep_order (pin + 1) owners) o in
      and_from (stands_behind m owner) (list_all (stands_behind m) owners) (whole pin owner ordered.0 parts.0)
      (all_whole (pin + 1) owners ordered.1 parts.1)

-- The checks and the arcs of pins stand no less far.
pub record AreBehind (m : ℕ) (s : Subject) (owners : List Group) : Type 0 where
  pub checks : (pin : ℕ) → are_above m (places_from timing.check_at_of s pin owners) ≡ true
  pub arcs : (pin : ℕ) → are_above m (places_from arc_at_of s pin owners) ≡ true

pub stand_behind : (m : ℕ) (s : Subject) (owners : List Group) → list_all (stands_behind m) owners ≡ true → AreBehind m s owners
stand_behind m s owners h = record {
  checks = λ pin. places_above m timing.check_at_of (checks_above m) s pin owners h;
  arcs = λ pin. places_above m arc_at_of (arcs_above m) s pin owners h;
}

-- The offset that passes a limit of so many.
pub past_all : (xs : List ℕ) (x : ℕ) (ys : List ℕ) → first_past (length xs) (xs ++ x ∷ ys) ≡ x ∷ []
past_all [] x ys = refl
past_all (y ∷ xs) x ys = past_all xs x ys
