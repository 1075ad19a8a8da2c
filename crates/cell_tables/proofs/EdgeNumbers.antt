-- The numbers of the points at which a change of one input is looked at.
use Rattle.std.proofs.Common.{◌≡◌, ◌==◌, ℕ, zero, suc, ◌+◌, ◌*◌, ◌/◌, ◌%◌, ◌^◌, ◌<◌, ◌≤◌, Bool, false, true, not, List, [], ◌∷◌}
use Rattle.std.proofs.Common.{length, cond, refl, sym, ◌∙◌, ap, arith, pow-suc}
use Rattle.std.proofs.Math.Nat.{div-div-eq-div-mul}
use Rattle.std.proofs.lemmas.Nat.{mod-pow-add}
use Rattle.trit_cubes.specs.Sets.{point_of}
use Rattle.trit_cubes.proofs.PointLemmas.{length-point_of}
use Rattle.cell_machine.specs.Machine.{Step, insert, init, last, edge_value}
use Rattle.step_tables.specs.Turned.{turned}
use Rattle.step_tables.proofs.PointLemmas.{turned_past}
use Rattle.udp_tables.proofs.ColumnLemmas.{length-insert}
use Rattle.cell_tables.proofs.GroupLemmas.{turned-insert}

-- the places of a number behind its first
low-part : (n k : ℕ) → k % 2 ^ suc n ≡ k % 2 + 2 * (k / 2 % 2 ^ n)
low-part n k =
    let wide : 2 ^ (n + 1) ≡ 2 ^ suc n = ap (λ m. 2 ^ m) (omega arith) in
    let parts : k % 2 ^ (n + 1) ≡ k / 2 % 2 ^ n * 2 + k % 2 = mod-pow-add k n 1 in
    sym (ap (λ w. k % w) wide) ∙ omega (arith, parts)

high-part : (n k : ℕ) → k / 2 / 2 ^ n ≡ k / 2 ^ suc n
high-part n k =
    let wide : 2 * 2 ^ n ≡ 2 ^ suc n = rw pow-suc (omega arith) in
    div-div-eq-div-mul k 2 (2 ^ n) ∙ ap (λ w. k / w) wide

-- a point has the places of its number alone
pub point_of-mod : (n k : ℕ) → point_of n (k % 2 ^ n) ≡ point_of n k
point_of-mod zero k = refl
point_of-mod (suc n) k =
    let part = low-part n k in
    let first : k % 2 ^ suc n % 2 ≡ k % 2 = omega (arith, part) in
    let rest : k % 2 ^ suc n / 2 ≡ k / 2 % 2 ^ n = omega (arith, part) in
    (λ i. (first i == 1) ∷ point_of n (rest i)) ∙ ap (λ p. (k % 2 == 1) ∷ p) (point_of-mod n (k / 2))

init-point_of : (n k : ℕ) → init (point_of (suc n) k) ≡ point_of n k
init-point_of zero k = refl
init-point_of (suc n) k = ap (λ p. (k % 2 == 1) ∷ p) (init-point_of n (k / 2))

last-point_of : (n k : ℕ) → last false (point_of (suc n) k) ≡ (k / 2 ^ n % 2 == 1)
last-point_of zero k = let whole : k % 2 ≡ k / 1 % 2 = omega arith in ap (λ b. b == 1) whole
last-point_of (suc n) k = last-point_of n (k / 2) ∙ ap (λ q. q % 2 == 1) (high-part n k)

-- a value inserted before the last place
init-insert : (p : ℕ) (b x : Bool) (xs : List Bool) → p ≤ length xs → init (insert p b (x ∷ xs)) ≡ insert p b (init (x ∷ xs))
init-insert zero b x xs l = refl
init-insert (suc p) b x [] l = absurd (omega arith)
init-insert (suc zero) b x (y ∷ ys) l = refl
init-insert (suc (suc p)) b x (y ∷ ys) l = ap (λ q. x ∷ q) (init-insert (suc p) b y ys (omega arith))

last-insert : (p : ℕ) (b x : Bool) (xs : List Bool) → p ≤ length xs → last false (insert p b (x ∷ xs)) ≡ last false (x ∷ xs)
last-insert zero b x xs l = refl
last-insert (suc p) b x [] l = absurd (omega arith)
last-insert (suc zero) b x (y ∷ ys) l = refl
last-insert (suc (suc p)) b x (y ∷ ys) l = last-insert (suc p) b y ys (omega arith)

-- what the value at a place weighs
abbrev weighs : ℕ → Bool → ℕ
weighs p b = cond b (2 ^ p) 0

weighs-more : (p : ℕ) (b : Bool) → weighs (suc p) b ≡ 2 * weighs p b
weighs-more p true = rw pow-suc (omega arith)
weighs-more p false = refl

first-place : (b : Bool) (x others : ℕ) → x + 0 ≡ 2 * others + weighs 0 b → ((x % 2 == 1) ≡ b) × (x / 2 ≡ others)
first-place true x others e =
    let odd : x % 2 ≡ 1 = omega (arith, e) in (ap (λ k. k == 1) odd, omega (arith, e))
first-place false x others e =
    let even : x % 2 ≡ 0 = omega (arith, e) in (ap (λ k. k == 1) even, omega (arith, e))

-- the number of a point with a value inserted
pub point_of-inserted : (n p others x : ℕ) (b : Bool) → p ≤ n → x + others % 2 ^ p ≡ 2 * others + cond b (2 ^ p) 0
    → point_of (suc n) x ≡ insert p b (point_of n others)
point_of-inserted n zero others x b l e =
    let none : others % 2 ^ 0 ≡ 0 = omega arith in
    let parts = first-place b x others (omega (arith, e, none)) in
    λ i. parts.0 i ∷ point_of n (parts.1 i)
point_of-inserted zero (suc p) others x b l e = absurd (omega arith)
point_of-inserted (suc n) (suc p) others x b l e =
    let low = low-part p others in
    let more = weighs-more p b in
    let first : x % 2 ≡ others % 2 = omega (arith, e, low, more) in
    let rest : x / 2 + others / 2 % 2 ^ p ≡ 2 * (others / 2) + weighs p b = omega (arith, e, low, more) in
    (λ i. (first i == 1) ∷ point_of (suc n) (x / 2))
    ∙ ap (λ q. (others % 2 == 1) ∷ q) (point_of-inserted n p (others / 2) (x / 2) b (omega arith) rest)

-- What a step gives at a change of an input, by the number of the point behind the change and the state.
record Around (n p number joint : ℕ) : Type 0 where
  after : point_of n (joint % 2 ^ n) ≡ insert p (number / 2 % 2 == 1) (init (point_of n (number / 4)))
  state : (joint / 2 ^ n % 2 == 1) ≡ last false (point_of n (number / 4))

around : (n p number joint : ℕ) → p < n → point_of (suc n) joint ≡ insert p (number / 2 % 2 == 1) (point_of n (number / 4))
    → Around n p number joint
around zero p number joint l e = absurd (omega arith)
around (suc n) p number joint l e =
    let new : Bool = number / 2 % 2 == 1 in
    let first : Bool = number / 4 % 2 == 1 in
    let more = point_of n (number / 4 / 2) in
    let few : p ≤ length more = let long = length-point_of n (number / 4 / 2) in omega (arith, l, long) in
    record {
      after = point_of-mod (suc n) joint ∙ sym (init-point_of (suc n) joint) ∙ ap init e ∙ init-insert p new first more few;
      state = sym (last-point_of (suc n) joint) ∙ ap (last false) e ∙ last-insert p new first more few;
    }

-- the parts of the point
number-parts : (step : Step) (n p number : ℕ)
    → edge_value step p (point_of (suc (suc n)) number)
    ≡ step (insert p (number % 2 == 1) (init (point_of n (number / 4)))) (insert p (number / 2 % 2 == 1) (init (point_of n (number / 4))))
    (last false (point_of n (number / 4)))
number-parts step n p number =
    let quarter : number / 2 / 2 ≡ number / 4 = omega arith in
    ap (λ k. edge_value step p ((number % 2 == 1) ∷ (number / 2 % 2 == 1) ∷ point_of n k)) quarter

init-long : (n k : ℕ) → 0 < n → suc (length (init (point_of n k))) ≡ n
init-long zero k l = absurd (omega arith)
init-long (suc n) k l = let long = ap length (init-point_of n k) in let all = length-point_of n k in omega (arith, long, all)

-- a step at the numbers of a point before and behind a change is that of the change, where input q turns, or none
abbrev IsStepOf : Step → ℕ → ℕ → ℕ → ℕ → ℕ → Type 0
IsStepOf step n p q number joint =
    step (turned q (point_of n (joint % 2 ^ n))) (point_of n (joint % 2 ^ n)) (joint / 2 ^ n % 2 == 1)
    ≡ edge_value step p (point_of (suc (suc n)) number)

edge-by : (step : Step) (n p q number joint : ℕ) → p < n
    → point_of (suc n) joint ≡ insert p (number / 2 % 2 == 1) (point_of n (number / 4))
    → turned q (insert p (number / 2 % 2 == 1) (init (point_of n (number / 4))))
    ≡ insert p (number % 2 == 1) (init (point_of n (number / 4)))
    → IsStepOf step n p q number joint
edge-by step n p q number joint l e before =
    let parts = around n p number joint l e in
    (λ i. step (turned q (parts.after i)) (parts.after i) (parts.state i))
    ∙ ap (λ (old : List Bool). step old (insert p (number / 2 % 2 == 1) (init (point_of n (number / 4))))
    (last false (point_of n (number / 4)))) before
    ∙ sym (number-parts step n p number)

-- where the value before is that behind the change nothing changes
pub edge-kept : (step : Step) (n p number joint : ℕ) → p < n → number % 2 ≡ number / 2 % 2
    → point_of (suc n) joint ≡ insert p (number / 2 % 2 == 1) (point_of n (number / 4)) → IsStepOf step n p n number joint
edge-kept step n p number joint l same e =
    let others = init (point_of n (number / 4)) in
    let new : Bool = number / 2 % 2 == 1 in
    let long = init-long n (number / 4) (omega (arith, l)) in
    let full : length (insert p new others) ≤ n = let all = length-insert p new others in omega (arith, long, all) in
    edge-by step n p n number joint l e
    (turned_past n (insert p new others) full ∙ ap (λ b. insert p (b == 1) others) (sym same))

other-bit : (a b : ℕ) → a < 2 → b < 2 → (a ≡ b → ⊥) → not (b == 1) ≡ (a == 1)
other-bit zero zero p q h = absurd (h refl)
other-bit zero (suc zero) p q h = refl
other-bit (suc zero) zero p q h = refl
other-bit (suc zero) (suc zero) p q h = absurd (h refl)
other-bit (suc (suc a)) b p q h = absurd (omega (arith, p))
other-bit zero (suc (suc b)) p q h = absurd (omega (arith, q))
other-bit (suc zero) (suc (suc b)) p q h = absurd (omega (arith, q))

-- and else the input changes
pub edge-turned : (step : Step) (n p number joint : ℕ) → p < n → (number % 2 ≡ number / 2 % 2 → ⊥)
    → point_of (suc n) joint ≡ insert p (number / 2 % 2 == 1) (point_of n (number / 4)) → IsStepOf step n p p number joint
edge-turned step n p number joint l other e =
    let others = init (point_of n (number / 4)) in
    let long = init-long n (number / 4) (omega (arith, l)) in
    edge-by step n p p number joint l e
    (turned-insert p (number / 2 % 2 == 1) others (omega (arith, l, long))
    ∙ ap (λ b. insert p b others) (other-bit (number % 2) (number / 2 % 2) (omega arith) (omega arith) other))
