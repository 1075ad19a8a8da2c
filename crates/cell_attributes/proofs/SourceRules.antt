-- What the names of an output's function stand for: input pins and states.
use Rattle.std.proofs.Common.{◌≡◌, ℕ, suc, ◌+◌, ◌-◌, ◌*◌, ◌/◌, ◌<◌, ◌≤◌, Bool, true, false, ◌&&◌, ◌||◌, List, [], ◌∷◌, ◌++◌}
use Rattle.std.proofs.Common.{length, map, refl, sym, ◌∙◌, ap, subst, arith, IsTrue, Option, Some, None, if◌then◌else◌, inl, inr}
use Rattle.std.proofs.Common.{nat_eq, nat_lt, nat_le, eqb-true}
use Rattle.std.specs.Prelude.{flat_map}
use Rattle.std.specs.List.{list_all}
use Rattle.std.proofs.lemmas.Bool.{cases_Bool, and_from, and_parts, or_left, or_right, or_cases, lt-ltb, le-ltb, le-leb, eq-eqb}
use Rattle.std.proofs.lemmas.Bool.{ne_eqb}
use Rattle.std.proofs.lemmas.List.{length-map}
use Rattle.bool_functions.specs.declared.tree.Node.{Node as Tree}
use Rattle.bool_functions.specs.Tree.{names_of}
use Rattle.bool_functions.specs.Support.{insert_all, support_of}
use Rattle.cell_machine.specs.declared.groups.GroupKind.{GroupKind}
use Rattle.cell_machine.specs.declared.groups.GroupKind.TheVariants as kind
use Rattle.cell_machine.specs.declared.groups.StateGroup.{StateGroup}
use Rattle.cell_machine.specs.declared.pins.Pin.{Pin}
use Rattle.cell_machine.specs.Names.{has, source_name, names_of_optional}
use Rattle.cell_machine.specs.CellRules.{is_input_pin, is_ascending, is_support, names_support, control_names, is_kind, is_group}
use Rattle.cell_machine.specs.CellRules.{are_groups_from, names_of_both, second_names, names_behind, is_source, is_output_of}
use Rattle.cell_machine.proofs.CellFacts.{list_all-implied, input-below}
use Rattle.cell_attributes.specs.Building.{source_of, supports_of_both, second_support, stands_for, sources_of}
use Rattle.cell_attributes.proofs.Members.{stand_in, all_parts, all_from, in_passes, all_insert_all, placed_in, in_placed}
use Rattle.cell_attributes.proofs.Members.{placed_ascend, in_flat_map, all_flat_map}
use Rattle.cell_attributes.proofs.Numbering.{is_variable}
use Rattle.cell_attributes.proofs.TextNames.{is_value_number}

-- a node has no second variable
abbrev pub has_second : GroupKind → Bool
has_second (kind.Ff k) = true
has_second (kind.Latch k) = true
has_second (kind.Table table node inputs) = false

-- for each group whether it has a second variable
abbrev pub group_flags : List StateGroup → List Bool
group_flags [] = []
group_flags (group ∷ groups) = has_second group.kind ∷ group_flags groups

-- whether this is the number of a state, where the first one has the number m
abbrev pub is_state_number : List StateGroup → ℕ → ℕ → Bool
is_state_number [] m n = false
is_state_number (group ∷ groups) m n = nat_eq n m || is_state_number groups (m + 2) n

-- the names of `clear` and `preset`, where both are written, are input pins
abbrev is_plain_second : List Pin → GroupKind → Bool
is_plain_second pins (kind.Ff k) = list_all (is_input_pin pins) (names_of_both k.clear k.preset)
is_plain_second pins (kind.Latch k) = list_all (is_input_pin pins) (names_of_both k.clear k.preset)
is_plain_second pins (kind.Table table node inputs) = true

abbrev are_plain : List Pin → List StateGroup → Bool
are_plain pins [] = true
are_plain pins (group ∷ groups) = is_plain_second pins group.kind && are_plain pins groups

both_pass : (p : ℕ → Bool) (f g : Option Tree) → IsTrue (list_all p (names_of_optional f ++ names_of_optional g))
    → IsTrue (list_all p (names_of_both f g))
both_pass p (Some f) (Some g) h = h
both_pass p None None h = refl
both_pass p None (Some g) h = refl
both_pass p (Some f) None h = refl

plain_second : (pins : List Pin) (k : GroupKind) → IsTrue (list_all (is_input_pin pins) (control_names k))
    → IsTrue (is_plain_second pins k)
plain_second pins (kind.Ff k) h =
    both_pass (is_input_pin pins) k.clear k.preset
    (all_parts (is_input_pin pins) (names_of k.clocked_on) (names_of_optional k.clear ++ names_of_optional k.preset) h).1
plain_second pins (kind.Latch k) h =
    both_pass (is_input_pin pins) k.clear k.preset
    (all_parts (is_input_pin pins) (names_of_optional k.enable) (names_of_optional k.clear ++ names_of_optional k.preset) h).1
plain_second pins (kind.Table table node inputs) h = refl

group_is_plain : (pins : List Pin) (m : ℕ) (group : StateGroup) → IsTrue (is_group pins m group)
    → IsTrue (is_plain_second pins group.kind)
group_is_plain pins m group h =
    let whole = and_parts (is_support pins group.support) (names_support m group && is_kind group.kind) h in
    let one = and_parts (nat_lt 0 (length group.support)) _ whole.0 in
    let two = and_parts (nat_le (length group.support) 8) _ one.1 in
    let three = and_parts (is_ascending group.support) (list_all (is_input_pin pins) group.support) two.1 in
    let named = and_parts (names_support m group) (is_kind group.kind) whole.1 in
    let control = and_parts (list_all (has group.support) (control_names group.kind)) _ named.0 in
    plain_second pins group.kind (in_passes (is_input_pin pins) (control_names group.kind) group.support control.0 three.1)

pub groups_are_plain : (pins : List Pin) (m : ℕ) (groups : List StateGroup) → IsTrue (are_groups_from pins m groups)
    → IsTrue (are_plain pins groups)
groups_are_plain pins m [] h = refl
groups_are_plain pins m (group ∷ groups) h =
    let parts = and_parts (is_group pins m group) (are_groups_from pins (m + 2) groups) h in
    and_from (is_plain_second pins group.kind) (are_plain pins groups) (group_is_plain pins m group parts.0)
    (groups_are_plain pins (m + 2) groups parts.1)

-- Written names and supports stand for the same.

-- what passes of two lists passes of two others, where what passes of each does
two_pass :
    (p : ℕ → Bool) (one other : Tree → List ℕ) → ((f : Tree) → IsTrue (list_all p (one f)) → IsTrue (list_all p (other f)))
    → (f g : Tree) → IsTrue (list_all p (one f ++ one g)) → IsTrue (list_all p (other f ++ other g))
two_pass p one other pass f g h =
    let parts = all_parts p (one f) (one g) h in
    all_from p (other f) (other g) (pass f parts.0) (pass g parts.1)

supports_pass : (p : ℕ → Bool) (f g : Option Tree) → IsTrue (list_all p (names_of_both f g))
    → IsTrue (list_all p (supports_of_both f g))
supports_pass p (Some f) (Some g) h =
    two_pass p names_of support_of (λ f. in_passes p (support_of f) (names_of f) (placed_in (names_of f))) f g h
supports_pass p _ _ h = refl

names_pass : (p : ℕ → Bool) (f g : Option Tree) → IsTrue (list_all p (supports_of_both f g))
    → IsTrue (list_all p (names_of_both f g))
names_pass p (Some f) (Some g) h =
    two_pass p support_of names_of (λ f. in_passes p (names_of f) (support_of f) (in_placed (names_of f))) f g h
names_pass p None None h = refl
names_pass p None (Some g) h = refl
names_pass p (Some f) None h = refl

-- what passes behind a number that stands for itself
behind_own : (p : ℕ → Bool) (m : ℕ) (xs ys : List ℕ) → (IsTrue (list_all p xs) → IsTrue (list_all p ys))
    → IsTrue (list_all p (m ∷ xs)) → IsTrue (list_all p (m ∷ ys))
behind_own p m xs ys pass h = let parts = and_parts (p m) (list_all p xs) h
    in and_from (p m) (list_all p ys) parts.0 (pass parts.1)

-- each of two lists passes where the other one does
abbrev PassAlike : (ℕ → Bool) → List ℕ → List ℕ → Type 0
PassAlike p xs ys = (IsTrue (list_all p xs) → IsTrue (list_all p ys)) × (IsTrue (list_all p ys) → IsTrue (list_all p xs))

both_pass_alike : (p : ℕ → Bool) (m : ℕ) (f g : Option Tree) → PassAlike p (m ∷ supports_of_both f g) (m ∷ names_of_both f g)
both_pass_alike p m f g = (
  behind_own p m (supports_of_both f g) (names_of_both f g) (names_pass p f g),
  behind_own p m (names_of_both f g) (supports_of_both f g) (supports_pass p f g),
)

second_pass : (p : ℕ → Bool) (m : ℕ) (k : GroupKind) → PassAlike p (second_support m k) (second_names m k)
second_pass p m (kind.Ff k) = both_pass_alike p m k.clear k.preset
second_pass p m (kind.Latch k) = both_pass_alike p m k.clear k.preset
second_pass p m (kind.Table table node inputs) = (λ h. h, λ h. h)

-- what passes of whichever of two lists is taken
either_passes :
    (p : ℕ → Bool) (b : Bool) (a c x y : List ℕ) → (IsTrue (list_all p a) → IsTrue (list_all p x))
    → (IsTrue (list_all p c) → IsTrue (list_all p y))
    → IsTrue (list_all p (if b then a else c)) → IsTrue (list_all p (if b then x else y))
either_passes p true a c x y first second h = first h
either_passes p false a c x y first second h = second h

number_pass : (p : ℕ → Bool) (m : ℕ) (groups : List StateGroup) (i : ℕ)
    → PassAlike p (stands_for m groups i) (names_behind m groups i)
number_pass p m [] i = (λ h. h, λ h. h)
number_pass p m (group ∷ groups) i =
    let here = second_pass p m group.kind in
    let rest = number_pass p (m + 2) groups i in
    let stood = stands_for (m + 2) groups i in
    let behind = names_behind (m + 2) groups i in
    let support = second_support m group.kind in
    let names = second_names m group.kind in (
      either_passes p (nat_eq i (m + 1)) support stood names behind here.0 rest.0,
      either_passes p (nat_eq i (m + 1)) names behind support stood here.1 rest.1,
    )

-- What values stand for.

variable_above : (flags : List Bool) (m n : ℕ) → IsTrue (is_variable flags m n) → m ≤ n
variable_above [] m n h = absurd cc
variable_above (b ∷ bs) m n h =
    elim (or_cases (nat_eq n m) (b && nat_eq n (m + 1) || is_variable bs (m + 2) n) h) [
      | inl e ↦ let same : n ≡ m = eqb-true n m e in omega arith
      | inr e ↦ elim (or_cases (b && nat_eq n (m + 1)) (is_variable bs (m + 2) n) e) [
        | inl k ↦ let same : n ≡ m + 1 = eqb-true n (m + 1) (and_parts b (nat_eq n (m + 1)) k).1 in omega arith
        | inr k ↦ let above : m + 2 ≤ n = variable_above bs (m + 2) n k in omega arith
      ]
    ]

-- a number below those of the groups stands for itself
stands_below : (m : ℕ) (groups : List StateGroup) (i : ℕ) → i < m → stands_for m groups i ≡ i ∷ []
stands_below m [] i h = refl
stands_below m (group ∷ groups) i h =
    let other : nat_eq i (m + 1) ≡ false = ne_eqb i (m + 1) (λ e. absurd (omega arith)) in
    rw other (stands_below (m + 2) groups i (omega arith))

one_passes : (q : ℕ → Bool) (i : ℕ) → IsTrue (q i) → IsTrue (list_all q (i ∷ []))
one_passes q i h = and_from (q i) true h refl

second_passes :
    (pins : List Pin) (q : ℕ → Bool) (m : ℕ) (flags : List Bool) (k : GroupKind)
    → length pins ≤ m → ((x : ℕ) → IsTrue (is_input_pin pins x) → IsTrue (q x)) → IsTrue (q m) → IsTrue (is_plain_second pins k)
    → IsTrue (is_input_pin pins (m + 1) || is_variable (has_second k ∷ flags) m (m + 1))
    → IsTrue (list_all q (second_support m k))
second_passes pins q m flags (kind.Ff k) far inputs here plain h =
    and_from (q m) (list_all q (supports_of_both k.clear k.preset)) here
    (supports_pass q k.clear k.preset (list_all-implied (is_input_pin pins) q (names_of_both k.clear k.preset) inputs plain))
second_passes pins q m flags (kind.Latch k) far inputs here plain h =
    and_from (q m) (list_all q (supports_of_both k.clear k.preset)) here
    (supports_pass q k.clear k.preset (list_all-implied (is_input_pin pins) q (names_of_both k.clear k.preset) inputs plain))
second_passes pins q m flags (kind.Table table node inputs') far inputs here plain h =
    absurd (elim (or_cases (is_input_pin pins (m + 1)) (is_variable (false ∷ flags) m (m + 1)) h) [
      | inl e ↦ let below : m + 1 < length pins = input-below pins (m + 1) e in omega arith
      | inr e ↦ elim (or_cases (nat_eq (m + 1) m) (is_variable flags (m + 2) (m + 1)) e) [
        | inl k ↦ let same : m + 1 ≡ m = eqb-true (m + 1) m k in omega arith
        | inr k ↦ let above : m + 2 ≤ m + 1 = variable_above flags (m + 2) (m + 1) k in omega arith
      ]
    ])

-- a value stands for input pins and states alone
value_stands :
    (pins : List Pin) (q : ℕ → Bool) (m : ℕ) (groups : List StateGroup) (i : ℕ)
    → length pins ≤ m → IsTrue (are_plain pins groups)
    → ((x : ℕ) → IsTrue (is_input_pin pins x) → IsTrue (q x)) → ((x : ℕ) → IsTrue (is_state_number groups m x) → IsTrue (q x))
    → IsTrue (is_input_pin pins i || is_variable (group_flags groups) m i)
    → IsTrue (list_all q (stands_for m groups i))
value_stands pins q m [] i far plain inputs states h =
    elim (or_cases (is_input_pin pins i) false h) [ inl e ↦ one_passes q i (inputs i e) | inr e ↦ absurd cc ]
value_stands pins q m (group ∷ groups) i far plain inputs states h =
    let parts = and_parts (is_plain_second pins group.kind) (are_plain pins groups) plain in
    let first : IsTrue (q m) = states m (or_left (nat_eq m m) (is_state_number groups (m + 2) m) (eq-eqb m m refl)) in
    let states_later : (x : ℕ) → IsTrue (is_state_number groups (m + 2) x) → IsTrue (q x) =
    λ x k. states x (or_right (nat_eq x m) (is_state_number groups (m + 2) x) k) in
    let later : IsTrue (is_input_pin pins i || is_variable (group_flags groups) (m + 2) i)
    → IsTrue (list_all q (stands_for (m + 2) groups i)) =
    value_stands pins q (m + 2) groups i (omega arith) parts.1 inputs states_later in
    elim (cases_Bool (nat_eq i (m + 1))) [
      | inl e ↦
          let same : i ≡ m + 1 = eqb-true i (m + 1) e in
          let k : IsTrue (is_input_pin pins (m + 1) || is_variable (has_second group.kind ∷ group_flags groups) m (m + 1)) =
          subst (λ x. IsTrue (is_input_pin pins x || is_variable (has_second group.kind ∷ group_flags groups) m x)) same h in
          rw e (second_passes pins q m (group_flags groups) group.kind far inputs first parts.0 k)
      | inr e ↦
          rw e
          (elim (or_cases (is_input_pin pins i) (is_variable (has_second group.kind ∷ group_flags groups) m i) h) [
            | inl k ↦ later (or_left (is_input_pin pins i) (is_variable (group_flags groups) (m + 2) i) k)
            | inr k ↦
                elim (or_cases (nat_eq i m) (has_second group.kind && nat_eq i (m + 1)
                || is_variable (group_flags groups) (m + 2) i) k) [
                  | inl l ↦
                      let same : i ≡ m = eqb-true i m l in
                      let below : i < m + 2 = omega arith in
                      rw (stands_below (m + 2) groups i below) (one_passes q i (subst (λ x. IsTrue (q x)) (sym same) first))
                  | inr l ↦
                      elim (or_cases (has_second group.kind && nat_eq i (m + 1)) (is_variable (group_flags groups) (m + 2) i) l) [
                        | inl o ↦
                            let one : nat_eq i (m + 1) ≡ true = (and_parts (has_second group.kind) (nat_eq i (m + 1)) o).1 in
                            absurd (let u : true ≡ false = sym one ∙ e in cc)
                        | inr o ↦ later (or_right (is_input_pin pins i) (is_variable (group_flags groups) (m + 2) i) o)
                      ]
                ]
          ])
    ]

-- Sources.

-- which group a state's number is of
state_of : (groups : List StateGroup) (m n : ℕ) → IsTrue (is_state_number groups m n) → (g : ℕ)
    × ((g < length groups) × (n ≡ m + 2 * g))
state_of [] m n h = absurd cc
state_of (group ∷ groups) m n h =
    elim (or_cases (nat_eq n m) (is_state_number groups (m + 2) n) h) [
      | inl e ↦ let same : n ≡ m = eqb-true n m e in (0, (omega arith, omega arith))
      | inr e ↦
          let (g, (within, place)) = state_of groups (m + 2) n e in
          (suc g, (omega arith, omega arith))
    ]

abbrev is_source_number : List Pin → List StateGroup → ℕ → Bool
is_source_number pins groups n = is_input_pin pins n || is_state_number groups (length pins) n

-- a source has the number that it was made from
record SourceIs (pins : List Pin) (groups : List StateGroup) (n : ℕ) : Type 0 where
  pub same : source_name (length pins) (source_of (length pins) n) ≡ n
  pub fits : IsTrue (is_source pins groups (source_of (length pins) n))

source_is : (pins : List Pin) (groups : List StateGroup) (n : ℕ) → IsTrue (is_source_number pins groups n)
    → SourceIs pins groups n
source_is pins groups n h =
    elim (or_cases (is_input_pin pins n) (is_state_number groups (length pins) n) h) [
      | inl e ↦
          let below : n < length pins = input-below pins n e in
          let t : nat_lt n (length pins) ≡ true = lt-ltb n (length pins) below in
          record { same = rw t refl; fits = rw t e }
      | inr e ↦
          let (g, (within, place)) = state_of groups (length pins) n e in
          let past : nat_lt n (length pins) ≡ false = le-ltb n (length pins) (omega arith) in
          let half : (n - length pins) / 2 ≡ g = omega arith in
          let back : length pins + 2 * ((n - length pins) / 2) ≡ n = omega arith in
          record {
            same = rw past back;
            fits = rw past (subst (λ x. IsTrue (nat_lt x (length groups))) (sym half) (lt-ltb g (length groups) within));
          }
    ]

same_sources :
    (pins : List Pin) (groups : List StateGroup) (xs : List ℕ) → IsTrue (list_all (is_source_number pins groups) xs)
    → map (source_name (length pins)) (map (source_of (length pins)) xs) ≡ xs
same_sources pins groups [] h = refl
same_sources pins groups (x ∷ xs) h =
    let parts = and_parts (is_source_number pins groups x) (list_all (is_source_number pins groups) xs) h in
    ap (λ y. y ∷ map (source_name (length pins)) (map (source_of (length pins)) xs)) (source_is pins groups x parts.0).same
    ∙ ap (λ ys. x ∷ ys) (same_sources pins groups xs parts.1)

sources_fit :
    (pins : List Pin) (groups : List StateGroup) (xs : List ℕ) → IsTrue (list_all (is_source_number pins groups) xs)
    → IsTrue (list_all (is_source pins groups) (map (source_of (length pins)) xs))
sources_fit pins groups [] h = refl
sources_fit pins groups (x ∷ xs) h =
    let parts = and_parts (is_source_number pins groups x) (list_all (is_source_number pins groups) xs) h in
    and_from (is_source pins groups (source_of (length pins) x)) _ (source_is pins groups x parts.0).fits
    (sources_fit pins groups xs parts.1)

-- The support of a function keeps the rules, where its names are values of the cell and it is not too wide.
module _ (pins : List Pin) (groups : List StateGroup) (f : Tree) where
  abbrev stood : List ℕ
  stood = flat_map (stands_for (length pins) groups) (support_of f)

  abbrev held : List ℕ
  held = insert_all [] (flat_map (stands_for (length pins) groups) (support_of f))

  abbrev meant : List ℕ
  meant = flat_map (names_behind (length pins) groups) (names_of f)

  meant_held : IsTrue (stand_in held meant)
  meant_held =
      all_flat_map (has held) (names_behind (length pins) groups) (names_of f)
      (list_all-implied (has (support_of f)) (λ i. list_all (has held) (names_behind (length pins) groups i)) (names_of f)
      (λ i h. (number_pass (has held) (length pins) groups i).0
      (in_passes (has held) (stands_for (length pins) groups i) stood
      (in_flat_map (stands_for (length pins) groups) (support_of f) i h)
      (in_placed stood)))
      (in_placed (names_of f)))

  held_meant : IsTrue (stand_in meant held)
  held_meant =
      all_insert_all (has meant) [] stood refl
      (all_flat_map (has meant) (stands_for (length pins) groups) (support_of f)
      (list_all-implied (has (names_of f)) (λ i. list_all (has meant) (stands_for (length pins) groups i)) (support_of f)
      (λ i h. (number_pass (has meant) (length pins) groups i).1
      (in_flat_map (names_behind (length pins) groups) (names_of f) i h))
      (placed_in (names_of f))))

  held_are_sources :
      IsTrue (are_plain pins groups) → IsTrue (list_all (is_value_number (group_flags groups) pins) (names_of f))
      → IsTrue (list_all (is_source_number pins groups) held)
  held_are_sources plain values =
      all_insert_all (is_source_number pins groups) [] stood refl
      (all_flat_map (is_source_number pins groups) (stands_for (length pins) groups) (support_of f)
      (list_all-implied (is_value_number (group_flags groups) pins)
      (λ i. list_all (is_source_number pins groups) (stands_for (length pins) groups i)) (support_of f)
      (λ i h. value_stands pins (is_source_number pins groups) (length pins) groups i (omega arith) plain
      (λ x k. or_left (is_input_pin pins x) (is_state_number groups (length pins) x) k)
      (λ x k. or_right (is_input_pin pins x) (is_state_number groups (length pins) x) k) h)
      (in_passes (is_value_number (group_flags groups) pins) (support_of f) (names_of f) (placed_in (names_of f)) values)))

  pub output_keeps_rules :
      (p : ℕ) → IsTrue (are_groups_from pins (length pins) groups)
      → IsTrue (list_all (is_value_number (group_flags groups) pins) (names_of f))
      → length (sources_of (length pins) groups f) ≤ 10
      → IsTrue (is_output_of pins groups (record { pin = p; function = f; support = sources_of (length pins) groups f }))
  output_keeps_rules p kept values few =
      let sources = held_are_sources (groups_are_plain pins (length pins) groups kept) values in
      let same : map (source_name (length pins)) (sources_of (length pins) groups f) ≡ held =
      same_sources pins groups held sources in
      let count : length (map (source_name (length pins)) (sources_of (length pins) groups f)) ≡ length
      (sources_of (length pins) groups f) =
      length-map (sources_of (length pins) groups f) (source_name (length pins)) in
      let short : length (map (source_name (length pins)) (sources_of (length pins) groups f)) ≤ 10 = omega arith in
      let names : List ℕ = map (source_name (length pins)) (sources_of (length pins) groups f) in
      and_from (nat_le (length names) 10) _ (le-leb (length names) 10 short)
      (and_from (list_all (is_source pins groups) (sources_of (length pins) groups f)) _ (sources_fit pins groups held sources)
      (subst (λ xs. IsTrue (is_ascending xs && (list_all (has xs) meant && list_all (has meant) xs))) (sym same)
      (and_from (is_ascending held) _ (placed_ascend stood)
      (and_from (list_all (has held) meant) (list_all (has meant) held) meant_held held_meant))))
