-- The inputs of a state are the pins that stand in its functions, ascending.
use Rattle.std.proofs.Common.{◌≡◌, ℕ, ◌+◌, ◌<◌, ◌≤◌, Bool, ◌&&◌, ◌||◌, ◌==◌, nat_eq, nat_lt, List, [], ◌∷◌, ◌++◌, length, filter}
use Rattle.std.proofs.Common.{IsTrue, refl, sym, ap, ◌∙◌, arith, inl, inr, eqb-true}
use Rattle.std.specs.List.{list_all}
use Rattle.std.proofs.lemmas.Bool.{and_parts, and_from, or_cases, or_left, lt-ltb, ltb-true}
use Rattle.bool_functions.specs.Support.{insert_all}
use Rattle.cell_machine.specs.declared.pins.Pin.{Pin}
use Rattle.cell_machine.specs.declared.groups.StateGroup.{StateGroup}
use Rattle.cell_machine.specs.Names.{has}
use Rattle.cell_machine.specs.CellRules.{is_ascending, is_input_pin, is_support, control_names, data_names, names_support}
use Rattle.cell_machine.specs.CellRules.{is_kind, is_group}
use Rattle.cell_machine.proofs.CellFacts.{list_all-implied, has-all, input-below}
use Rattle.cell_attributes.specs.StateReadings.{pins_among}
use Rattle.cell_attributes.proofs.Members.{all_from, in_passes, stand_in, placed_in, in_placed, placed_ascend, in_filter}
use Rattle.cell_attributes.proofs.Members.{filter_in, filter_all, all_both}
use Rattle.bank_machines.specs.BankStates.{state_of_kind}

-- ascending lists of the same numbers are equal
all_above : (x : ℕ) (xs : List ℕ) → IsTrue (is_ascending (x ∷ xs)) → IsTrue (list_all (nat_lt x) xs)
all_above x [] h = refl
all_above x (y ∷ ys) h =
    let parts = and_parts (nat_lt x y) (is_ascending (y ∷ ys)) h in
    let first : x < y = ltb-true x y parts.0 in
    and_from (nat_lt x y) (list_all (nat_lt x) ys) parts.0
    (list_all-implied (nat_lt y) (nat_lt x) ys (λ z t. let later : y < z = ltb-true y z t
    in lt-ltb x z (omega (arith, first, later))) (all_above y ys parts.1))

rest_ascends : (x : ℕ) (xs : List ℕ) → IsTrue (is_ascending (x ∷ xs)) → IsTrue (is_ascending xs)
rest_ascends x [] h = refl
rest_ascends x (y ∷ ys) h = (and_parts (nat_lt x y) (is_ascending (y ∷ ys)) h).1

not_below : (x : ℕ) (xs : List ℕ) (y : ℕ) → IsTrue (is_ascending (x ∷ xs)) → IsTrue (has (x ∷ xs) y) → x ≤ y
not_below x xs y h k =
    elim (or_cases (x == y) (has xs y) k) [
      | inl e ↦ let same : x ≡ y = eqb-true x y e in omega (arith, same)
      | inr e ↦ let above : x < y = ltb-true x y (has-all (nat_lt x) xs y (all_above x xs h) e) in omega (arith, above)
    ]

later_has : (x y z : ℕ) (ys : List ℕ) → x ≡ y → IsTrue (nat_lt x z) → IsTrue (has (y ∷ ys) z) → IsTrue (has ys z)
later_has x y z ys e l h =
    elim (or_cases (y == z) (has ys z) h) [
      | inl same ↦
          let equal : y ≡ z = eqb-true y z same in let above : x < z = ltb-true x z l in absurd (omega (arith, equal, above, e))
      | inr later ↦ later
    ]

rest_stands : (x y : ℕ) (xs ys : List ℕ) → x ≡ y → IsTrue (list_all (nat_lt x) xs) → IsTrue (list_all (has (y ∷ ys)) xs)
    → IsTrue (stand_in ys xs)
rest_stands x y xs ys e l h = all_both (nat_lt x) (has (y ∷ ys)) (has ys) xs (λ z a b. later_has x y z ys e a b) l h

ascending_same :
    (xs ys : List ℕ) → IsTrue (is_ascending xs) → IsTrue (is_ascending ys) → IsTrue (stand_in ys xs) → IsTrue (stand_in xs ys)
    → xs ≡ ys
ascending_same [] [] a b h k = refl
ascending_same [] (y ∷ ys) a b h k = absurd cc
ascending_same (x ∷ xs) [] a b h k = absurd cc
ascending_same (x ∷ xs) (y ∷ ys) a b h k =
    let hs = and_parts (has (y ∷ ys) x) (list_all (has (y ∷ ys)) xs) h in
    let ks = and_parts (has (x ∷ xs) y) (list_all (has (x ∷ xs)) ys) k in
    let low : x ≤ y = not_below x xs y a ks.0 in
    let high : y ≤ x = not_below y ys x b hs.0 in
    let same : x ≡ y = omega (arith, low, high) in
    let others : xs ≡ ys =
    ascending_same xs ys (rest_ascends x xs a) (rest_ascends y ys b) (rest_stands x y xs ys same (all_above x xs a) hs.1)
    (rest_stands y x ys xs (sym same) (all_above y ys b) ks.1) in
    ap (λ z. z ∷ xs) same ∙ ap (λ zs. y ∷ zs) others

-- a state group that keeps the rules of cells with these pins, where its state has some number behind them
pub record Fits (pins : List Pin) (group : StateGroup) : Type 0 where
  pub number : ℕ
  pub behind : length pins ≤ number
  pub rules : IsTrue (is_group pins number group)

module _ (pins : List Pin) (group : StateGroup) (fits : Fits pins group) where
  abbrev written : List ℕ
  written = control_names group.kind ++ data_names group.kind

  abbrev placed : List ℕ
  placed = filter (λ i. nat_lt i (length pins)) written

  support_rules : IsTrue (is_support pins group.support)
  support_rules = (and_parts (is_support pins group.support) (names_support fits.number group && is_kind group.kind) fits.rules).0

  name_rules : IsTrue (names_support fits.number group)
  name_rules =
      (and_parts (names_support fits.number group) (is_kind group.kind)
      (and_parts (is_support pins group.support) (names_support fits.number group && is_kind group.kind) fits.rules).1).0

  order_rules : IsTrue (is_ascending group.support && list_all (is_input_pin pins) group.support)
  order_rules = (and_parts _ _ (and_parts _ _ support_rules).1).1

  abbrev is_own_or_held : ℕ → Bool
  is_own_or_held i = has group.support i || (nat_eq i fits.number || nat_eq i (fits.number + 1))

  controls : IsTrue (list_all (has group.support) (control_names group.kind))
  controls = (and_parts (list_all (has group.support) (control_names group.kind)) _ name_rules).0

  others : IsTrue (list_all is_own_or_held (data_names group.kind) && list_all (has written) group.support)
  others = (and_parts (list_all (has group.support) (control_names group.kind)) _ name_rules).1

  held_input : (i : ℕ) → IsTrue (is_own_or_held i) → IsTrue (nat_lt i (length pins)) → IsTrue (has group.support i)
  held_input i h l =
      let below : i < length pins = ltb-true i (length pins) l in
      let behind : length pins ≤ fits.number = fits.behind in
      elim (or_cases (has group.support i) (nat_eq i fits.number || nat_eq i (fits.number + 1)) h) [
        | inl held ↦ held
        | inr own ↦
            elim (or_cases (nat_eq i fits.number) (nat_eq i (fits.number + 1)) own) [
              | inl e ↦ let same : i ≡ fits.number = eqb-true i fits.number e in absurd (omega (arith, same, below, behind))
              | inr e ↦ let same : i ≡ fits.number + 1 = eqb-true i (fits.number + 1) e
                  in absurd (omega (arith, same, below, behind))
            ]
      ]

  all_own_or_held : IsTrue (list_all is_own_or_held written)
  all_own_or_held =
      all_from is_own_or_held (control_names group.kind) (data_names group.kind)
      (list_all-implied (has group.support) is_own_or_held (control_names group.kind) (λ i t. or_left (has group.support i) _ t)
      controls)
      (and_parts (list_all is_own_or_held (data_names group.kind)) (list_all (has written) group.support) others).0

  placed_held : IsTrue (stand_in group.support placed)
  placed_held =
      all_both is_own_or_held (λ i. nat_lt i (length pins)) (has group.support) placed held_input
      (in_passes is_own_or_held placed written (filter_in (λ i. nat_lt i (length pins)) written) all_own_or_held)
      (filter_all (λ i. nat_lt i (length pins)) written)

  held_placed : IsTrue (stand_in placed group.support)
  held_placed =
      all_both (is_input_pin pins) (has written) (has placed) group.support
      (λ i a b. in_filter (λ j. nat_lt j (length pins)) written i (lt-ltb i (length pins) (input-below pins i a)) b)
      (and_parts (is_ascending group.support) (list_all (is_input_pin pins) group.support) order_rules).1
      (and_parts (list_all is_own_or_held (data_names group.kind)) (list_all (has written) group.support) others).1

  support_is : group.support ≡ pins_among (length pins) written
  support_is =
      ascending_same group.support (insert_all [] placed)
      (and_parts (is_ascending group.support) (list_all (is_input_pin pins) group.support) order_rules).0 (placed_ascend placed)
      (list_all-implied (has placed) (has (insert_all [] placed)) group.support
      (λ i t. has-all (has (insert_all [] placed)) placed i (in_placed placed) t) held_placed)
      (in_passes (has group.support) (insert_all [] placed) placed (placed_in placed) placed_held)

  -- the group is that of its functions
  pub group_is : group ≡ state_of_kind (length pins) group.kind
  group_is = λ i. record { kind = group.kind; support = support_is i }
