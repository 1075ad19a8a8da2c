-- Where a cell and its view do not differ at points with 0 at the places of the one or of the other, they do not differ at a
-- point.
use Rattle.std.proofs.Common.{◌≡◌, ◌≢◌, ◌⊎◌, ℕ, ◌+◌, ◌<◌, Bool, true, false, bit_and, List, length, None, refl, sym, ap, subst}
use Rattle.std.proofs.Common.{◌∙◌, inl, inr, arith}
use Rattle.std.specs.List.{range_with_len}
use Rattle.std.proofs.lemmas.Bool.{cases_eq}
use Rattle.std.proofs.lemmas.Nat.{and_assoc, and_le_l}
use Rattle.cell_machine.specs.declared.outputs.Source.{Source}
use Rattle.cell_machine.specs.CellData.{CellData}
use Rattle.cell_machine.specs.CellTrace.{step_at, sources_at, output_value_at}
use Rattle.scan_cells.specs.Views.{ViewData}
use Rattle.scan_cells.specs.Places.{is_set, values_at, changed_at, is_inactive}
use Rattle.scan_cells.specs.Masks.{IsMask}
use Rattle.scan_cells.specs.Comparison.{first_some, cell_support, view_support, step_places, cell_step, view_step}
use Rattle.scan_cells.specs.Comparison.{state_difference, change_difference, after_difference, output_support, output_places}
use Rattle.scan_cells.specs.Comparison.{cell_output, view_output, point_difference}
use Rattle.scan_cells.proofs.Sides.{or_none, none_or, first_none, none_first, guarded, guard, no_difference, difference_none}
use Rattle.scan_cells.proofs.Sides.{states_none, none_states}
use Rattle.scan_cells.proofs.MaskLemmas.{values_kept, inactive_kept, changed_in, changed_out, Near, near_changed, near_kept}
use Rattle.scan_cells.proofs.MaskLemmas.{masks_swap, less_masked, less_twice}

-- what no difference at a point says of the steps that lead to it
after_agrees :
    (cell : CellData) (view : ViewData) (g after : ℕ) → after_difference cell view g after ≡ None
    → is_inactive view (step_places cell view g) after ≡ true
    → (before : ℕ) → Near (length (step_places cell view g)) after before
    → is_inactive view (step_places cell view g) before ≡ true
    → (s : Bool) → cell_step cell view g before after s ≡ view_step cell view g before after s
after_agrees cell view g after h idle before near idle' =
    let parts =
    or_none (change_difference cell view g after after)
    (first_some (λ k. change_difference cell view g after (changed_at after k))
    (range_with_len 0 (length (step_places cell view g))))
    (guarded (is_inactive view (step_places cell view g) after) _ h idle) in
    let none : change_difference cell view g after before ≡ None =
    elim near [
      | inl e ↦ subst (λ p. change_difference cell view g after p ≡ None) (sym e) parts.0
      | inr found ↦
          subst (λ p. change_difference cell view g after p ≡ None) (sym found.2)
          (first_none (λ k. change_difference cell view g after (changed_at after k)) 0 (length (step_places cell view g)) parts.1
          found.0 (omega arith) (omega (arith, found.1)))
    ] in
    states_none cell view g before after
    (guarded (is_inactive view (step_places cell view g) before) (state_difference cell view g before after) none idle')

agrees_after :
    (cell : CellData) (view : ViewData) (g after : ℕ)
    → (is_inactive view (step_places cell view g) after ≡ true
    → (before : ℕ) → Near (length (step_places cell view g)) after before
    → is_inactive view (step_places cell view g) before ≡ true
    → (s : Bool) → cell_step cell view g before after s ≡ view_step cell view g before after s)
    → after_difference cell view g after ≡ None
agrees_after cell view g after h =
    guard (is_inactive view (step_places cell view g) after) _ (λ idle.
    none_or (change_difference cell view g after after)
    (first_some (λ k. change_difference cell view g after (changed_at after k))
    (range_with_len 0 (length (step_places cell view g))))
    (guard (is_inactive view (step_places cell view g) after) (state_difference cell view g after after) (λ idle'.
    none_states cell view g after after (h idle after (inl refl) idle')))
    (none_first (λ k. change_difference cell view g after (changed_at after k)) 0 (length (step_places cell view g)) (λ k _ place.
    guard (is_inactive view (step_places cell view g) (changed_at after k))
    (state_difference cell view g (changed_at after k) after) (λ idle'.
    none_states cell view g (changed_at after k) after
    (h idle (changed_at after k) (inr (k, omega (arith, place), refl)) idle')))))

-- the steps of a group over a support whose places the mask has
steps_kept :
    (of : CellData) (view : ViewData) (places support : List Source) (g before after mask : ℕ) (s : Bool)
    → IsMask view places support mask
    → step_at of g (values_at places support (bit_and before mask)) (values_at places support (bit_and after mask)) s
    ≡ step_at of g (values_at places support before) (values_at places support after) s
steps_kept of view places support g before after mask s h =
    λ i. step_at of g (values_kept places support before mask h.of_support i)
    (values_kept places support after mask h.of_support i) s

-- a mask over the places by another name
mask_over : (view : ViewData) (from places support : List Source) (mask : ℕ) → from ≡ places → IsMask view from support mask
    → IsMask view places support mask
mask_over view from places support mask e h = subst (λ xs. IsMask view xs support mask) e h

-- a mask by another name of the view and of the support
pub mask_of :
    (given view : ViewData) (places from support : List Source) (mask : ℕ) → given ≡ view → from ≡ support
    → IsMask given places from mask → IsMask view places support mask
mask_of given view places from support mask e f h =
    subst (λ v. IsMask v places support mask) e (subst (λ xs. IsMask given places xs mask) f h)

-- the steps of groups
pub mixed_steps :
    (cell : CellData) (view : ViewData) (g point a b : ℕ) (from : List Source) → from ≡ step_places cell view g
    → IsMask view from (cell_support cell g) a → IsMask view from (view_support view g) b
    → bit_and point a ≢ point → bit_and point b ≢ point
    → ((p : ℕ) → p < point → after_difference cell view g p ≡ None) → after_difference cell view g point ≡ None
unfolding cell_step view_step
mixed_steps cell view g point a b from are a_mask b_mask first second none =
    let places = step_places cell view g in
    let of_cell = mask_over view from places (cell_support cell g) a are a_mask in
    let of_view = mask_over view from places (view_support view g) b are b_mask in
    let cell_kept = steps_kept cell view places (cell_support cell g) g in
    let view_kept = steps_kept view.cell view places (view_support view g) g in
    let n = length places in
    let idle : (p mask : ℕ) → is_inactive view places p ≡ true → IsMask view places (cell_support cell g) mask
    ⊎ IsMask view places (view_support view g) mask → is_inactive view places (bit_and p mask) ≡ true
    = λ p mask e either. elim either [
      | inl m ↦ inactive_kept view places p mask m.of_enable ∙ e
      | inr m ↦ inactive_kept view places p mask m.of_enable ∙ e
    ] in
    agrees_after cell view g point (λ here before near there s.
    let to_cell = near_kept n point before a near in
    let to_view = near_kept n point before b near in
    sym (cell_kept before point a s of_cell)
    ∙ after_agrees cell view g (bit_and point a) (none (bit_and point a) (less_masked point a first))
    (idle point a here (inl of_cell))
    (bit_and before a) to_cell (idle before a there (inl of_cell)) s
    ∙ sym (view_kept (bit_and before a) (bit_and point a) b s of_view)
    ∙ (λ i. view_step cell view g (masks_swap before a b i) (masks_swap point a b i) s)
    ∙ sym (after_agrees cell view g (bit_and (bit_and point b) a)
    (none (bit_and (bit_and point b) a) (less_twice point b a second))
    (idle (bit_and point b) a (idle point b here (inr of_view)) (inl of_cell))
    (bit_and (bit_and before b) a) (near_kept n (bit_and point b) (bit_and before b) a to_view)
    (idle (bit_and before b) a (idle before b there (inr of_view)) (inl of_cell)) s)
    ∙ cell_kept (bit_and before b) (bit_and point b) a s of_cell
    ∙ after_agrees cell view g (bit_and point b) (none (bit_and point b) (less_masked point b second))
    (idle point b here (inr of_view))
    (bit_and before b) to_view (idle before b there (inr of_view)) s
    ∙ view_kept before point b s of_view)

-- the steps of groups at a change of a place, restricted to some places, where nothing differs before the point nor at it
-- unchanged
module _ (cell : CellData) (view : ViewData) (g after k : ℕ)
    (none : (p : ℕ) → p < after → after_difference cell view g p ≡ None)
    (same : change_difference cell view g after after ≡ None)
    (place : k < length (step_places cell view g)) where
  masked_at_point :
      (mask : ℕ) (b : Bool) → is_set k mask ≡ b → bit_and after mask ≡ after
      → bit_and (changed_at after k) mask ≢ changed_at after k
      → is_inactive view (step_places cell view g) (bit_and after mask) ≡ true
      → (s : Bool) → cell_step cell view g (bit_and (changed_at after k) mask) (bit_and after mask) s ≡ view_step cell view g
      (bit_and (changed_at after k) mask) (bit_and after mask) s
  masked_at_point mask true in_mask within other idle s =
      absurd (other (changed_in after k mask in_mask ∙ ap (λ p. changed_at p k) within))
  masked_at_point mask false in_mask within other idle s =
      let back : bit_and (changed_at after k) mask ≡ after = changed_out after k mask in_mask ∙ within in
      let here : is_inactive view (step_places cell view g) after ≡ true =
      ap (is_inactive view (step_places cell view g)) (sym within) ∙ idle in
      (λ i. cell_step cell view g (back i) (within i) s)
      ∙ states_none cell view g after after
      (guarded (is_inactive view (step_places cell view g) after) (state_difference cell view g after after) same here) s
      ∙ sym (λ i. view_step cell view g (back i) (within i) s)

  masked_agrees :
      (mask : ℕ) → bit_and (changed_at after k) mask ≢ changed_at after k
      → is_inactive view (step_places cell view g) (bit_and after mask) ≡ true
      → is_inactive view (step_places cell view g) (bit_and (changed_at after k) mask) ≡ true
      → (s : Bool) → cell_step cell view g (bit_and (changed_at after k) mask) (bit_and after mask) s ≡ view_step cell view g
      (bit_and (changed_at after k) mask) (bit_and after mask) s
  masked_agrees mask other idle idle' s =
      elim (cases_eq (bit_and after mask) after) [
        | inl within ↦ masked_at_point mask (is_set k mask) refl within other idle s
        | inr less ↦
            after_agrees cell view g (bit_and after mask) (none (bit_and after mask) (less_masked after mask less)) idle
            (bit_and (changed_at after k) mask)
            (near_changed (length (step_places cell view g)) after k mask place (is_set k mask) refl) idle' s
      ]

-- the steps of groups at a change from a mixed point
pub mixed_change :
    (cell : CellData) (view : ViewData) (g after k a b : ℕ) (from : List Source) → from ≡ step_places cell view g
    → IsMask view from (cell_support cell g) a → IsMask view from (view_support view g) b
    → bit_and (changed_at after k) a ≢ changed_at after k → bit_and (changed_at after k) b ≢ changed_at after k
    → k < length from
    → ((p : ℕ) → p < after → after_difference cell view g p ≡ None) → change_difference cell view g after after ≡ None
    → is_inactive view from after ≡ true
    → change_difference cell view g after (changed_at after k) ≡ None
unfolding cell_step view_step
mixed_change cell view g after k a b from are a_mask b_mask first second inside none same idle =
    let places = step_places cell view g in
    let of_cell = mask_over view from places (cell_support cell g) a are a_mask in
    let of_view = mask_over view from places (view_support view g) b are b_mask in
    let cell_kept = steps_kept cell view places (cell_support cell g) g in
    let view_kept = steps_kept view.cell view places (view_support view g) g in
    let place : k < length places = subst (λ xs. k < length xs) are inside in
    let here : is_inactive view places after ≡ true = ap (λ xs. is_inactive view xs after) (sym are) ∙ idle in
    let before = changed_at after k in
    let idle_cell : (p : ℕ) → is_inactive view places p ≡ true → is_inactive view places (bit_and p a) ≡ true
    = λ p e. inactive_kept view places p a of_cell.of_enable ∙ e in
    let idle_view : (p : ℕ) → is_inactive view places p ≡ true → is_inactive view places (bit_and p b) ≡ true
    = λ p e. inactive_kept view places p b of_view.of_enable ∙ e in
    guard (is_inactive view places before) (state_difference cell view g before after) (λ there.
    none_states cell view g before after (λ s.
    let both : bit_and before (bit_and a b) ≢ before = λ e.
    let most = and_le_l (bit_and before a) b in
    let least = and_le_l before a in
    let whole = and_assoc b before a ∙ e in
    first (omega (arith, most, least, whole)) in
    let idle_both : (p : ℕ) → is_inactive view places p ≡ true → is_inactive view places (bit_and p (bit_and a b)) ≡ true
    = λ p e. ap (is_inactive view places) (sym (and_assoc b p a)) ∙ idle_view (bit_and p a) (idle_cell p e) in
    sym (cell_kept before after a s of_cell)
    ∙ masked_agrees cell view g after k none same place a first (idle_cell after here) (idle_cell before there) s
    ∙ sym (view_kept (bit_and before a) (bit_and after a) b s of_view)
    ∙ (λ i. view_step cell view g (and_assoc b before a i) (and_assoc b after a i) s)
    ∙ sym (masked_agrees cell view g after k none same place (bit_and a b) both (idle_both after here) (idle_both before there) s)
    ∙ sym (λ i. cell_step cell view g (and_assoc b before a i) (and_assoc b after a i) s)
    ∙ (λ i. cell_step cell view g (masks_swap before a b i) (masks_swap after a b i) s)
    ∙ cell_kept (bit_and before b) (bit_and after b) a s of_cell
    ∙ masked_agrees cell view g after k none same place b second (idle_view after here) (idle_view before there) s
    ∙ view_kept before after b s of_view))

-- the values of outputs
point_agrees :
    (cell : CellData) (view : ViewData) (i j point : ℕ) → point_difference cell view i j point ≡ None
    → is_inactive view (output_places cell view i j) point ≡ true
    → cell_output cell view i j point ≡ view_output cell view i j point
point_agrees cell view i j point h idle =
    no_difference (length cell.groups + i + 1) point point false (cell_output cell view i j point)
    (view_output cell view i j point)
    (guarded (is_inactive view (output_places cell view i j) point) _ h idle)

-- the value of an output over a support whose places the mask has
value_kept :
    (of : CellData) (view : ViewData) (places support : List Source) (output point mask : ℕ) → IsMask view places support mask
    → output_value_at of output (values_at places support (bit_and point mask))
    ≡ output_value_at of output (values_at places support point)
value_kept of view places support output point mask h =
    ap (output_value_at of output) (values_kept places support point mask h.of_support)

pub mixed_outputs :
    (cell : CellData) (view : ViewData) (i j point a b : ℕ) (from : List Source) → from ≡ output_places cell view i j
    → IsMask view from (sources_at cell i) a → IsMask view from (output_support view j) b
    → bit_and point a ≢ point → bit_and point b ≢ point
    → ((p : ℕ) → p < point → point_difference cell view i j p ≡ None) → point_difference cell view i j point ≡ None
unfolding cell_output view_output
mixed_outputs cell view i j point a b from are a_mask b_mask first second none =
    let places = output_places cell view i j in
    let of_cell = mask_over view from places (sources_at cell i) a are a_mask in
    let of_view = mask_over view from places (output_support view j) b are b_mask in
    let cell_kept = value_kept cell view places (sources_at cell i) i in
    let view_kept = value_kept view.cell view places (output_support view j) j in
    guard (is_inactive view places point) _ (λ here.
    let at_cell = inactive_kept view places point a of_cell.of_enable ∙ here in
    let at_view = inactive_kept view places point b of_view.of_enable ∙ here in
    let at_both = inactive_kept view places (bit_and point b) a of_cell.of_enable ∙ at_view in
    difference_none (length cell.groups + i + 1) point point false (cell_output cell view i j point)
    (view_output cell view i j point)
    (sym (cell_kept point a of_cell)
    ∙ point_agrees cell view i j (bit_and point a) (none (bit_and point a) (less_masked point a first)) at_cell
    ∙ sym (view_kept (bit_and point a) b of_view)
    ∙ ap (view_output cell view i j) (masks_swap point a b)
    ∙ sym (point_agrees cell view i j (bit_and (bit_and point b) a)
    (none (bit_and (bit_and point b) a) (less_twice point b a second)) at_both)
    ∙ cell_kept (bit_and point b) a of_cell
    ∙ point_agrees cell view i j (bit_and point b) (none (bit_and point b) (less_masked point b second)) at_view
    ∙ view_kept point b of_view))
