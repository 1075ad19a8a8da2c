-- Points restricted to places.
use Rattle.std.proofs.Common.{◌≡◌, ◌≢◌, ◌⊎◌, ℕ, ◌^◌, ◌*◌, ◌<◌, min, max, Bool, true, false, not, cond, nat_eq, bit_and, List, []}
use Rattle.std.proofs.Common.{◌∷◌, Option, Some, None, refl, sym, ap, subst, ◌∙◌, inl, inr, eqb-true, arith}
use Rattle.std.specs.Prelude.{bit_or, bit_xor, unwrap_or, position}
use Rattle.std.specs.List.{list_all}
use Rattle.std.specs.Option.{option_map_or}
use Rattle.std.specs.Int.{bit_at}
use Rattle.std.proofs.lemmas.Bool.{cases_eq, true≢false, and_parts, and_from}
use Rattle.std.proofs.lemmas.Nat.{and_comm, and_assoc, and_le_l, or_comm}
use Rattle.std.proofs.lemmas.Nat.Bits.{and_pow, bit_at_and, bit_at_or, bit_at_xor, bit_at-pow_same, bit_at-lt, same_from_bits}
use lib.Bits.{xor_zero_r}
use Rattle.cell_machine.specs.declared.outputs.Source.{Source}
use Rattle.cell_machine.specs.declared.outputs.Source.TheVariants as source
use Rattle.scan_cells.specs.Views.{ViewData}
use Rattle.scan_cells.specs.Places.{same_source, is_set, value_at, values_at, changed_at, is_idle, is_inactive}
use Rattle.scan_cells.specs.Masks.{is_in, has_enable}

kept_bit : (x y : ℕ) → y ≡ 1 → x < 2 → nat_eq (min x y) 1 ≡ nat_eq x 1
kept_bit x y e l = ap (λ n. nat_eq n 1) (omega (arith, e, l))

is_one : (k point : ℕ) → is_set k point ≡ true → bit_at point k ≡ 1
unfolding is_set
is_one k point e = eqb-true (bit_at point k) 1 e

is_none : (k point : ℕ) → is_set k point ≡ false → bit_at point k ≡ 0
unfolding is_set
is_none k point e =
    let below = bit_at-lt point k in
    elim (cases_eq (bit_at point k) 1) [
      | inl one ↦ absurd (true≢false (ap (λ n. nat_eq n 1) (sym one) ∙ e))
      | inr other ↦ omega (arith, below, other)
    ]

-- a place that the mask has is kept
set_kept : (k point mask : ℕ) → is_set k mask ≡ true → is_set k (bit_and point mask) ≡ is_set k point
unfolding is_set
set_kept k point mask e =
    ap (λ n. nat_eq n 1) (bit_at_and point mask k)
    ∙ kept_bit (bit_at point k) (bit_at mask k) (eqb-true (bit_at mask k) 1 e) (bit_at-lt point k)

value_kept : (places : List Source) (s : Source) (point mask : ℕ) → is_in places mask s ≡ true
    → value_at places (bit_and point mask) s ≡ value_at places point s
unfolding value_at
value_kept places s point mask e = set_kept (unwrap_or (position (same_source s) places) 0) point mask e

pub values_kept :
    (places support : List Source) (point mask : ℕ) → list_all (is_in places mask) support ≡ true
    → values_at places support (bit_and point mask) ≡ values_at places support point
values_kept places [] point mask h = refl
values_kept places (s ∷ support) point mask h =
    let parts = and_parts (is_in places mask s) (list_all (is_in places mask) support) h in
    λ i. value_kept places s point mask parts.0 i ∷ values_kept places support point mask parts.1 i

idle_kept : (view : ViewData) (point mask : ℕ) (o : Option ℕ) → option_map_or (λ k. is_set k mask) o true ≡ true
    → option_map_or (is_idle view (bit_and point mask)) o true ≡ option_map_or (is_idle view point) o true
idle_kept view point mask None h = refl
idle_kept view point mask (Some k) h = ap (λ b. cond view.active (not b) b) (set_kept k point mask h)

pub inactive_kept :
    (view : ViewData) (places : List Source) (point mask : ℕ) → has_enable view places mask ≡ true
    → is_inactive view places (bit_and point mask) ≡ is_inactive view places point
unfolding is_inactive
inactive_kept view places point mask h = idle_kept view point mask (position (same_source (source.Pin view.enable)) places) h

-- a mask of a point that is changed in some places
and_over_xor : (point more mask : ℕ) → bit_and (bit_xor point more) mask ≡ bit_xor (bit_and point mask) (bit_and more mask)
and_over_xor point more mask =
    same_from_bits (bit_and (bit_xor point more) mask) (bit_xor (bit_and point mask) (bit_and more mask)) (λ i.
    let left = bit_at_and (bit_xor point more) mask i in
    let turned = bit_at_xor point more i in
    let right = bit_at_xor (bit_and point mask) (bit_and more mask) i in
    let kept = bit_at_and point mask i in
    let also = bit_at_and more mask i in
    let small = bit_at-lt point i in
    let little = bit_at-lt more i in
    let few = bit_at-lt mask i in
    elim (cases_eq (bit_at mask i) 1) [
      | inl one ↦ omega (arith, left, turned, right, kept, also, small, little, one)
      | inr other ↦
          let none : bit_at mask i ≡ 0 = omega (arith, few, other) in
          omega (arith, left, turned, right, kept, also, small, little, none)
    ])

-- what the mask has of a place
place_masked : (k mask b : ℕ) → bit_at mask k ≡ b → bit_and (2 ^ k) mask ≡ b * 2 ^ k
place_masked k mask b e = and_comm (2 ^ k) mask ∙ and_pow mask k ∙ ap (λ n. n * 2 ^ k) e

one_of : (m : ℕ) → 1 * m ≡ m
one_of m = omega arith

none_of : (m : ℕ) → 0 * m ≡ 0
none_of m = omega arith

-- a changed place that the mask has, and one that it has not
pub changed_in : (point k mask : ℕ) → is_set k mask ≡ true → bit_and (changed_at point k) mask ≡ changed_at (bit_and point mask) k
unfolding changed_at
changed_in point k mask e =
    and_over_xor point (2 ^ k) mask
    ∙ ap (bit_xor (bit_and point mask)) (place_masked k mask 1 (is_one k mask e) ∙ one_of (2 ^ k))

pub changed_out : (point k mask : ℕ) → is_set k mask ≡ false → bit_and (changed_at point k) mask ≡ bit_and point mask
unfolding changed_at
changed_out point k mask e =
    and_over_xor point (2 ^ k) mask
    ∙ ap (bit_xor (bit_and point mask)) (place_masked k mask 0 (is_none k mask e) ∙ none_of (2 ^ k))
    ∙ xor_zero_r (bit_and point mask)

-- a point that equals another one or differs from it in one of n places
abbrev pub Near : ℕ → ℕ → ℕ → Type 0
Near n after before = (before ≡ after) ⊎ ((k : ℕ) × (k < n) × (before ≡ changed_at after k))

pub near_changed : (n after k mask : ℕ) → k < n → (b : Bool) → is_set k mask ≡ b
    → Near n (bit_and after mask) (bit_and (changed_at after k) mask)
near_changed n after k mask l true e = inr (k, l, changed_in after k mask e)
near_changed n after k mask l false e = inl (changed_out after k mask e)

pub near_kept : (n after before mask : ℕ) → Near n after before → Near n (bit_and after mask) (bit_and before mask)
near_kept n after before mask near =
    elim near [
      | inl e ↦ inl (ap (λ p. bit_and p mask) e)
      | inr found ↦
          subst (λ p. Near n (bit_and after mask) (bit_and p mask)) (sym found.2)
          (near_changed n after found.0 mask found.1 (is_set found.0 mask) refl)
    ]

pub masks_swap : (point a b : ℕ) → bit_and (bit_and point a) b ≡ bit_and (bit_and point b) a
masks_swap point a b = and_assoc b point a ∙ ap (bit_and point) (and_comm a b) ∙ sym (and_assoc a point b)

pub less_masked : (point mask : ℕ) → bit_and point mask ≢ point → bit_and point mask < point
less_masked point mask other = let most = and_le_l point mask in omega (arith, most, other)

pub less_twice : (point a b : ℕ) → bit_and point a ≢ point → bit_and (bit_and point a) b < point
less_twice point a b other =
    let first = less_masked point a other in
    let most = and_le_l (bit_and point a) b in
    omega (arith, first, most)

set_more : (k mask more : ℕ) → is_set k mask ≡ true → is_set k (bit_or mask more) ≡ true
unfolding is_set
set_more k mask more e =
    let one = eqb-true (bit_at mask k) 1 e in
    let small = bit_at-lt more k in
    let most : max (bit_at mask k) (bit_at more k) ≡ 1 = omega (arith, one, small) in
    ap (λ n. nat_eq n 1) (bit_at_or mask more k ∙ most)

set_also : (k more mask : ℕ) → is_set k mask ≡ true → is_set k (bit_or more mask) ≡ true
set_also k more mask e = ap (is_set k) (or_comm more mask) ∙ set_more k mask more e

place_more : (o : Option ℕ) (mask more : ℕ) → option_map_or (λ k. is_set k mask) o true ≡ true
    → option_map_or (λ k. is_set k (bit_or mask more)) o true ≡ true
place_more None mask more h = refl
place_more (Some k) mask more h = set_more k mask more h

pub enable_more : (view : ViewData) (places : List Source) (mask more : ℕ) → has_enable view places mask ≡ true
    → has_enable view places (bit_or mask more) ≡ true
enable_more view places mask more h = place_more (position (same_source (source.Pin view.enable)) places) mask more h

pub in_more : (places : List Source) (mask more : ℕ) (s : Source) → is_in places mask s ≡ true
    → is_in places (bit_or mask more) s ≡ true
in_more places mask more s h = set_more (unwrap_or (position (same_source s) places) 0) mask more h

pub are_also :
    (places support : List Source) (more mask : ℕ)
    → list_all (is_in places mask) support ≡ true → list_all (is_in places (bit_or more mask)) support ≡ true
are_also places [] more mask h = refl
are_also places (s ∷ support) more mask h =
    let parts = and_parts (is_in places mask s) (list_all (is_in places mask) support) h in
    and_from (is_in places (bit_or more mask) s) (list_all (is_in places (bit_or more mask)) support)
    (set_also (unwrap_or (position (same_source s) places) 0) more mask parts.0) (are_also places support more mask parts.1)

pub weight_in : (k : ℕ) → is_set k (2 ^ k) ≡ true
unfolding is_set
weight_in k = ap (λ n. nat_eq n 1) (bit_at-pow_same k)
