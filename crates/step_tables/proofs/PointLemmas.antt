-- Points, and the words of their places.
use Rattle.std.proofs.Common.{◌≡◌, ℕ, zero, suc, ◌+◌, ◌-◌, ◌/◌, ◌%◌, ◌^◌, ◌<◌, ◌≤◌, Bool, nat_eq, List, []}
use Rattle.std.proofs.Common.{◌∷◌, ◌++◌, length, take, drop, slice_get, Some, refl, sym, ap, subst, ◌∙◌}
use Rattle.std.proofs.Common.{arith, append_assoc}
use Rattle.std.proofs.lemmas.Option.{none-some, same_Some}
use Rattle.trit_cubes.specs.declared.trits.Trit.{Trit}
use Rattle.trit_cubes.specs.Filling.{bit, number}
use Rattle.trit_cubes.specs.Sets.{point_of}
use Rattle.trit_cubes.specs.Resolution.{agreed}
use Rattle.cell_machine.specs.Machine.{around}
use Rattle.step_tables.specs.Turned.{turned}

-- one more place of a point
pub point_turn :
    (places i rest : ℕ) (point whole : List Bool) → i < places → point ++ point_of (places - i) rest ≡ whole
    → (point ++ (nat_eq (rest % 2) 1) ∷ []) ++ point_of (places - (i + 1)) (rest / 2) ≡ whole
point_turn places i rest point whole h e =
    let one : places - i ≡ suc (places - (i + 1)) = omega arith in
    append_assoc point ((nat_eq (rest % 2) 1) ∷ []) (point_of (places - (i + 1)) (rest / 2))
    ∙ ap (λ n. point ++ point_of n rest) (sym one) ∙ e

-- behind its end nothing is turned
pub turned_past : (p : ℕ) (point : List Bool) → length point ≤ p → turned p point ≡ point
turned_past p [] h = refl
turned_past zero (b ∷ point) h = absurd (omega (arith, h))
turned_past (suc p) (b ∷ point) h = ap (λ q. b ∷ q) (turned_past p point (omega (arith, h)))

-- the common value of a function at a point and at each that differs from it in one of the places from this one on
abbrev pub from_place : (List Bool → Trit) → List Bool → ℕ → Trit
from_place g point p = around (λ q. g (take p point ++ q)) (drop p point)

around_turn : (g : List Bool → Trit) (point : List Bool) (p : ℕ) → p < length point
    → agreed (from_place g point (suc p)) (g (turned p point)) ≡ from_place g point p
around_turn g [] p h = absurd (omega (arith, h))
around_turn g (b ∷ point) zero h = refl
around_turn g (b ∷ point) (suc p) h = around_turn (λ q. g (b ∷ q)) point p (omega (arith, h))

around_end : (g : List Bool → Trit) (point : List Bool) → g (turned (length point) point) ≡ from_place g point (length point)
around_end g [] = refl
around_end g (b ∷ point) = around_end (λ q. g (b ∷ q)) point

-- the value behind the last place, and that from the place before one
pub from_end : (g : List Bool → Trit) (point : List Bool) (n m : ℕ) → length point ≡ n → m ≡ n
    → g (turned n point) ≡ from_place g point m
from_end g point n m long all =
    ap (λ k. g (turned k point)) (sym long) ∙ around_end g point ∙ ap (from_place g point) (long ∙ sym all)

pub from_before : (g : List Bool → Trit) (point : List Bool) (p m : ℕ) → p < length point → m ≡ suc p
    → agreed (from_place g point m) (g (turned p point)) ≡ from_place g point p
from_before g point p m inside next =
    ap (λ k. agreed (from_place g point k) (g (turned p point))) next ∙ around_turn g point p inside

-- what holds of each entry, and of one more
pub push_each :
    {A : Type 0} (P : ℕ → A → Type 0) (xs : List A) (x : A)
    → ((p : ℕ) (v : A) → slice_get xs p ≡ Some v → P p v) → P (length xs) x
    → (p : ℕ) (v : A) → slice_get (xs ++ x ∷ []) p ≡ Some v → P p v
push_each P [] x h new zero v e = subst (P 0) (same_Some x v e) new
push_each P [] x h new (suc p) v e = absurd (none-some v e)
push_each P (y ∷ xs) x h new zero v e = h zero v e
push_each P (y ∷ xs) x h new (suc p) v e = push_each (λ q. P (suc q)) xs x (λ q w. h (suc q) w) new p v e

bit_of : (b : ℕ) → b < 2 → bit (nat_eq b 1) ≡ b
bit_of zero h = refl
bit_of (suc zero) h = refl
bit_of (suc (suc b)) h = absurd (omega (arith, h))

-- the number of the point that has a number
pub number_back : (n k : ℕ) → k < 2 ^ n → number (point_of n k) ≡ k
number_back zero k h = omega (arith, h)
number_back (suc n) k h =
    let one : 2 ^ suc n ≡ 2 ^ n + 2 ^ n = omega arith in
    let rest = number_back n (k / 2) (omega (arith, h, one)) in
    let first = bit_of (k % 2) (omega arith) in
    omega (arith, rest, first)
