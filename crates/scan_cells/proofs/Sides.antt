-- A first difference is one, and where there is none all is equal.
use Rattle.std.proofs.Common.{◌≡◌, ◌≢◌, ℕ, zero, suc, ◌+◌, ◌^◌, ◌%◌, ◌<◌, ◌≤◌, Bool, true, false, not, cond, List, [], ◌∷◌}
use Rattle.std.proofs.Common.{length, nat_eq, Option, Some, None, refl, sym, ◌∙◌, ap, subst, inl, inr, arith}
use Rattle.std.specs.Prelude.{⊤}
use Rattle.std.specs.List.{range_with_len}
use Rattle.std.specs.Option.{option_map_or}
use Rattle.std.specs.Int.{bit_at}
use Rattle.std.proofs.lemmas.Bool.{true≢false, cases_eq, eq-eqb, ne_eqb}
use Rattle.std.proofs.lemmas.Nat.Bits.{bit_at_xor, bit_at-pow_same, bit_at-pow_other, bit_at-lt}
use Rattle.trit_cubes.specs.declared.trits.Trit.{Trit}
use Rattle.trit_cubes.specs.Filling.{same}
use Rattle.cell_machine.specs.CellData.{CellData}
use Rattle.cell_machine.proofs.StillLemmas.{same-is, same-self}
use Rattle.scan_cells.specs.declared.answers.Agreement.TheVariants.{Same}
use Rattle.scan_cells.specs.declared.answers.Difference.{Difference}
use Rattle.scan_cells.specs.Views.{ViewData}
use Rattle.scan_cells.specs.Places.{is_set, changed_at, is_inactive}
use Rattle.scan_cells.specs.Comparison.{or_else, first_some, difference, step_places, cell_step, view_step, step_difference}
use Rattle.scan_cells.specs.Comparison.{state_difference, change_difference, after_difference, group_difference, output_in_view}
use Rattle.scan_cells.specs.Comparison.{output_pin, output_places, cell_output, view_output, point_difference, pair_difference}
use Rattle.scan_cells.specs.Comparison.{output_difference, first_difference, answered}
use Rattle.scan_cells.specs.Laws.{AllAgree, SameIsAgreement, DifferencesDiffer, ChangesOnePlace}

-- no answer among two, and among a list
pub or_none : {A : Type 0} (a b : Option A) → or_else a b ≡ None → (a ≡ None) × (b ≡ None)
or_none None b h = (refl, h)
or_none (Some x) b h = absurd (cc)

pub none_or : {A : Type 0} (a b : Option A) → a ≡ None → b ≡ None → or_else a b ≡ None
none_or a b h k = ap (λ o. or_else o b) h ∙ k

pub first_none : {B : Type 0} (f : ℕ → Option B) (k n : ℕ) → first_some f (range_with_len k n) ≡ None → (i : ℕ) → k ≤ i
    → i < k + n → f i ≡ None
first_none f k zero h i l m = absurd (omega (arith, l, m))
first_none f k (suc n) h i l m =
    let parts = or_none (f k) (first_some f (range_with_len (k + 1) n)) h in
    elim (cases_eq k i) [
      | inl e ↦ subst (λ j. f j ≡ None) e parts.0
      | inr ne ↦ first_none f (k + 1) n parts.1 i (omega (arith, l, ne)) (omega (arith, m))
    ]

pub none_first : {B : Type 0} (f : ℕ → Option B) (k n : ℕ) → ((i : ℕ) → k ≤ i → i < k + n → f i ≡ None)
    → first_some f (range_with_len k n) ≡ None
none_first f k zero h = refl
none_first f k (suc n) h =
    none_or (f k) (first_some f (range_with_len (k + 1) n)) (h k (omega arith) (omega arith))
    (none_first f (k + 1) n (λ i l m. h i (omega (arith, l)) (omega (arith, m))))

-- what is told only where a test passes
pub guarded : {A : Type 0} (b : Bool) (o : Option A) → cond b o None ≡ None → b ≡ true → o ≡ None
guarded b o h e = subst (λ c. cond c o None ≡ None) e h

pub guard : {A : Type 0} (b : Bool) (o : Option A) → (b ≡ true → o ≡ None) → cond b o None ≡ None
guard true o h = h refl
guard false o h = refl

-- the values of a difference
by_same : (c : Bool) (d : Difference) → cond c None (Some d) ≡ None → c ≡ true
by_same true d h = refl
by_same false d h = absurd cc

pub no_difference : (p b a : ℕ) (s : Bool) (x y : Trit) → difference p b a s x y ≡ None → x ≡ y
no_difference p b a s x y h =
    same-is x y
    (by_same (same x y) (record { part = p; before = b; after = a; state = s; of_cell = x; of_view = y }) h)

pub difference_none : (p b a : ℕ) (s : Bool) (x y : Trit) → x ≡ y → difference p b a s x y ≡ None
difference_none p b a s x y e = subst (λ z. difference p b a s x z ≡ None) e
    (ap (λ c. cond c None (Some (record { part = p; before = b; after = a; state = s; of_cell = x; of_view = x }))) (same-self x))

answered_same : (o : Option Difference) → answered o ≡ Same → o ≡ None
answered_same None h = refl
answered_same (Some d) h = absurd cc

same_answered : (o : Option Difference) → o ≡ None → answered o ≡ Same
same_answered o e = ap answered e

pub states_none :
    (cell : CellData) (view : ViewData) (g before after : ℕ) → state_difference cell view g before after ≡ None
    → (s : Bool) → cell_step cell view g before after s ≡ view_step cell view g before after s
states_none cell view g before after h false =
    no_difference (g + 1) before after false (cell_step cell view g before after false) (view_step cell view g before after false)
    (or_none (step_difference cell view g before after false) (step_difference cell view g before after true) h).0
states_none cell view g before after h true =
    no_difference (g + 1) before after true (cell_step cell view g before after true) (view_step cell view g before after true)
    (or_none (step_difference cell view g before after false) (step_difference cell view g before after true) h).1

pub none_states :
    (cell : CellData) (view : ViewData) (g before after : ℕ)
    → ((s : Bool) → cell_step cell view g before after s ≡ view_step cell view g before after s)
    → state_difference cell view g before after ≡ None
none_states cell view g before after h =
    none_or (step_difference cell view g before after false) (step_difference cell view g before after true)
    (difference_none (g + 1) before after false (cell_step cell view g before after false)
    (view_step cell view g before after false) (h false))
    (difference_none (g + 1) before after true (cell_step cell view g before after true) (view_step cell view g before after true)
    (h true))

-- what no difference after a point says
after_none :
    (cell : CellData) (view : ViewData) → first_some (group_difference cell view) (range_with_len 0 (length cell.groups)) ≡ None
    → (g after : ℕ) → g < length cell.groups → after < 2 ^ length (step_places cell view g)
    → is_inactive view (step_places cell view g) after ≡ true
    → (change_difference cell view g after after ≡ None)
    × (first_some (λ k. change_difference cell view g after (changed_at after k))
    (range_with_len 0 (length (step_places cell view g))) ≡ None)
after_none cell view h g after inside below idle =
    let of_group : group_difference cell view g ≡ None =
    first_none (group_difference cell view) 0 (length cell.groups) h g (omega arith) (omega (arith, inside)) in
    let at_after : after_difference cell view g after ≡ None =
    first_none (after_difference cell view g) 0 (2 ^ length (step_places cell view g)) of_group after (omega arith)
    (omega (arith, below)) in
    or_none (change_difference cell view g after after)
    (first_some (λ k. change_difference cell view g after (changed_at after k))
    (range_with_len 0 (length (step_places cell view g))))
    (guarded (is_inactive view (step_places cell view g) after) _ at_after idle)

agree_from : (cell : CellData) (view : ViewData) → first_difference cell view ≡ None → AllAgree cell view
agree_from cell view h =
    let parts =
    or_none (first_some (group_difference cell view) (range_with_len 0 (length cell.groups)))
    (first_some (output_difference cell view) (range_with_len 0 (length cell.outputs))) h in
    record {
      unchanged = λ g after s inside below idle.
          states_none cell view g after after
          (guarded (is_inactive view (step_places cell view g) after) (state_difference cell view g after after)
          (after_none cell view parts.0 g after inside below idle).0 idle)
          s;
      changed = λ g after k s inside below place idle idle'.
          states_none cell view g (changed_at after k) after
          (guarded (is_inactive view (step_places cell view g) (changed_at after k))
          (state_difference cell view g (changed_at after k) after)
          (first_none (λ k. change_difference cell view g after (changed_at after k)) 0 (length (step_places cell view g))
          (after_none cell view parts.0 g after inside below idle).1 k (omega arith) (omega (arith, place)))
          idle')
          s;
      outputs = λ i j point inside e below idle.
          let of_output : output_difference cell view i ≡ None =
          first_none (output_difference cell view) 0 (length cell.outputs) parts.1 i (omega arith) (omega (arith, inside)) in
          let of_pair : pair_difference cell view i j ≡ None =
          subst (λ o. option_map_or (pair_difference cell view i) o None ≡ None) e of_output in
          let at_point : point_difference cell view i j point ≡ None =
          first_none (point_difference cell view i j) 0 (2 ^ length (output_places cell view i j)) of_pair point (omega arith)
          (omega (arith, below)) in
          no_difference (length cell.groups + i + 1) point point false (cell_output cell view i j point)
          (view_output cell view i j point)
          (guarded (is_inactive view (output_places cell view i j) point) _ at_point idle);
    }

pair_none :
    (cell : CellData) (view : ViewData) → AllAgree cell view → (i : ℕ) → i < length cell.outputs
    → (o : Option ℕ) → output_in_view view (output_pin cell i) ≡ o → option_map_or (pair_difference cell view i) o None ≡ None
pair_none cell view h i inside None e = refl
pair_none cell view h i inside (Some j) e =
    none_first (point_difference cell view i j) 0 (2 ^ length (output_places cell view i j)) (λ point _ below.
    guard (is_inactive view (output_places cell view i j) point) _ (λ idle.
    difference_none (length cell.groups + i + 1) point point false (cell_output cell view i j point)
    (view_output cell view i j point)
    (h.outputs i j point inside e (omega (arith, below)) idle)))

group_none : (cell : CellData) (view : ViewData) → AllAgree cell view → (g : ℕ) → g < length cell.groups
    → group_difference cell view g ≡ None
group_none cell view h g inside =
    none_first (after_difference cell view g) 0 (2 ^ length (step_places cell view g)) (λ after _ below.
    guard (is_inactive view (step_places cell view g) after) _ (λ idle.
    none_or (change_difference cell view g after after)
    (first_some (λ k. change_difference cell view g after (changed_at after k))
    (range_with_len 0 (length (step_places cell view g))))
    (guard (is_inactive view (step_places cell view g) after) (state_difference cell view g after after) (λ _.
    none_states cell view g after after (λ s. h.unchanged g after s inside (omega (arith, below)) idle)))
    (none_first (λ k. change_difference cell view g after (changed_at after k)) 0 (length (step_places cell view g)) (λ k _ place.
    guard (is_inactive view (step_places cell view g) (changed_at after k))
    (state_difference cell view g (changed_at after k) after) (λ idle'.
    none_states cell view g (changed_at after k) after
    (λ s. h.changed g after k s inside (omega (arith, below)) (omega (arith, place)) idle idle'))))))

from_agree : (cell : CellData) (view : ViewData) → AllAgree cell view → first_difference cell view ≡ None
from_agree cell view h =
    none_or (first_some (group_difference cell view) (range_with_len 0 (length cell.groups)))
    (first_some (output_difference cell view) (range_with_len 0 (length cell.outputs)))
    (none_first (group_difference cell view) 0 (length cell.groups)
    (λ g _ inside. group_none cell view h g (omega (arith, inside))))
    (none_first (output_difference cell view) 0 (length cell.outputs) (λ i _ inside.
    pair_none cell view h i (omega (arith, inside)) (output_in_view view (output_pin cell i)) refl))

pub same_is_agreement-lem : SameIsAgreement
same_is_agreement-lem cell view = (
  λ h. agree_from cell view (answered_same (first_difference cell view) h),
  λ h. same_answered (first_difference cell view) (from_agree cell view h),
)

-- a difference, where there is one, is of two values that differ
abbrev IsReal : Option Difference → Type 0
IsReal None = ⊤
IsReal (Some d) = same d.of_cell d.of_view ≡ false

real_or : (a b : Option Difference) → IsReal a → IsReal b → IsReal (or_else a b)
real_or None b h k = k
real_or (Some x) b h k = h

real_first : {A : Type 0} (f : A → Option Difference) (xs : List A) → ((x : A) → IsReal (f x)) → IsReal (first_some f xs)
real_first f [] h = tt
real_first f (x ∷ xs) h = real_or (f x) (first_some f xs) (h x) (real_first f xs h)

real_guard : (b : Bool) (o : Option Difference) → IsReal o → IsReal (cond b o None)
real_guard true o h = h
real_guard false o h = tt

real_by : (c : Bool) (d : Difference) → same d.of_cell d.of_view ≡ c → IsReal (cond c None (Some d))
real_by true d e = tt
real_by false d e = e

real_difference : (p b a : ℕ) (s : Bool) (x y : Trit) → IsReal (difference p b a s x y)
real_difference p b a s x y = real_by (same x y) (record { part = p; before = b; after = a; state = s; of_cell = x; of_view = y })
    refl

real_states : (cell : CellData) (view : ViewData) (g before after : ℕ) → IsReal (state_difference cell view g before after)
real_states cell view g before after =
    real_or (step_difference cell view g before after false) (step_difference cell view g before after true)
    (real_difference (g + 1) before after false (cell_step cell view g before after false)
    (view_step cell view g before after false))
    (real_difference (g + 1) before after true (cell_step cell view g before after true)
    (view_step cell view g before after true))

real_change : (cell : CellData) (view : ViewData) (g after before : ℕ) → IsReal (change_difference cell view g after before)
real_change cell view g after before =
    real_guard (is_inactive view (step_places cell view g) before) (state_difference cell view g before after)
    (real_states cell view g before after)

real_group : (cell : CellData) (view : ViewData) (g : ℕ) → IsReal (group_difference cell view g)
real_group cell view g =
    real_first (after_difference cell view g) (range_with_len 0 (2 ^ length (step_places cell view g))) (λ after.
    real_guard (is_inactive view (step_places cell view g) after) _
    (real_or (change_difference cell view g after after) _ (real_change cell view g after after)
    (real_first (λ k. change_difference cell view g after (changed_at after k)) _
    (λ k. real_change cell view g after (changed_at after k)))))

real_pair : (cell : CellData) (view : ViewData) (i : ℕ) (o : Option ℕ)
    → IsReal (option_map_or (pair_difference cell view i) o None)
real_pair cell view i None = tt
real_pair cell view i (Some j) =
    real_first (point_difference cell view i j) (range_with_len 0 (2 ^ length (output_places cell view i j))) (λ point.
    real_guard (is_inactive view (output_places cell view i j) point) _
    (real_difference (length cell.groups + i + 1) point point false (cell_output cell view i j point)
    (view_output cell view i j point)))

real_all : (cell : CellData) (view : ViewData) → IsReal (first_difference cell view)
real_all cell view =
    real_or (first_some (group_difference cell view) (range_with_len 0 (length cell.groups))) _
    (real_first (group_difference cell view) _ (real_group cell view))
    (real_first (output_difference cell view) _ (λ i. real_pair cell view i (output_in_view view (output_pin cell i))))

unequal : (a b : Trit) → same a b ≡ false → a ≢ b
unequal a b h e = true≢false (sym (same-self b) ∙ ap (λ t. same t b) (sym e) ∙ h)

pub differences_differ-lem : DifferencesDiffer
differences_differ-lem cell view d e = unequal d.of_cell d.of_view (subst IsReal e (real_all cell view))

-- a bit that is turned, and one that is left
turned : (x : ℕ) → x < 2 → nat_eq ((x + 1) % 2) 1 ≡ not (nat_eq x 1)
turned zero h = refl
turned (suc zero) h = refl
turned (suc (suc x)) h = absurd (omega (arith, h))

left : (x : ℕ) → x < 2 → nat_eq ((x + 0) % 2) 1 ≡ nat_eq x 1
left zero h = refl
left (suc zero) h = refl
left (suc (suc x)) h = absurd (omega (arith, h))

pub changes_one_place-lem : ChangesOnePlace
unfolding is_set changed_at
changes_one_place-lem point k j =
    elim (cases_eq j k) [
      | inl e ↦
          ap (λ x. nat_eq x 1)
          (bit_at_xor point (2 ^ k) j ∙ ap (λ y. (bit_at point j + y) % 2) (ap (bit_at (2 ^ k)) e ∙ bit_at-pow_same k))
          ∙ (turned (bit_at point j) (bit_at-lt point j)
          ∙ ap (λ c. cond c (not (nat_eq (bit_at point j) 1)) (nat_eq (bit_at point j) 1)) (sym (eq-eqb j k e)))
      | inr ne ↦
          ap (λ x. nat_eq x 1)
          (bit_at_xor point (2 ^ k) j ∙ ap (λ y. (bit_at point j + y) % 2) (bit_at-pow_other k j ne))
          ∙ (left (bit_at point j) (bit_at-lt point j)
          ∙ ap (λ c. cond c (not (nat_eq (bit_at point j) 1)) (nat_eq (bit_at point j) 1)) (sym (ne_eqb j k ne)))
    ]
