-- A closure that computes a function at a list of trits computes the halves of the function at the rest of the list.
use Rattle.std.proofs.Common.{◌≡◌, ℕ, ◌+◌, ◌*◌, Bool, true, false, List, [], ◌∷◌, length, refl, sym, ◌∙◌, ap, subst, arith}
use Rattle.std.proofs.lemmas.List.{nil_from_length}
use Rattle.trit_cubes.specs.declared.trits.Trit.{Trit}
use Rattle.trit_cubes.specs.declared.trits.Trit.TheVariants.{Zero, One, Unknown}
use Rattle.trit_cubes.specs.Filling.{Fits, bit, number}
use Rattle.trit_cubes.specs.Resolution.{agreed, res, Computes}

-- the results of a closure at the points whose last places have the weight w and whose first ones give the number `at`
abbrev pub From : (ℕ → Trit → Type 0) → ℕ → ℕ → ℕ → Trit → Type 0
From post at w n v = post (at + w * n) v

-- where the first place has this value, the other places start at the number that its point has with it
pub halved : (post : ℕ → Trit → Type 0) (g : List Bool → Trit) (at start w : ℕ) (t : Trit) (b : Bool) (ts : List Trit)
    → Fits t b → ((n : ℕ) → start + 2 * w * n ≡ at + w * (bit b + 2 * n))
    → Computes (From post at w) g (t ∷ ts) → Computes (From post start (2 * w)) (λ p. g (b ∷ p)) ts
halved post g at start w t b ts fits number-is h =
    record { at_filling = λ p fill v q. h.at_filling (b ∷ p) (fits, fill) v (subst (λ k. post k v) (number-is (number p)) q) }

pub none_left : (post : ℕ → Trit → Type 0) (g : List Bool → Trit) (at w : ℕ) (r : Trit)
    → post at r → Computes (From post at w) g [] → r ≡ g []
none_left post g at w r q h = h.at_filling [] tt r (subst (λ k. post k r) (omega arith) q)

-- one step of the recursion, by the first place
pub step-none : (post : ℕ → Trit → Type 0) (at w : ℕ) (places : List Trit) (r : Trit)
    → length places ≡ 0 → post at r → (g : List Bool → Trit) → Computes (From post at w) g places → r ≡ res g places
step-none post at w places r e q g h =
    let is : places ≡ [] = nil_from_length places e in
    none_left post g at w r q (subst (λ ts. Computes (From post at w) g ts) is h) ∙ ap (res g) (sym is)

pub step-zero : (post : ℕ → Trit → Type 0) (at w : ℕ) (places rest : List Trit) (first r : Trit)
    → places ≡ first ∷ rest → first ≡ Zero
    → ((g : List Bool → Trit) → Computes (From post at (2 * w)) g rest → r ≡ res g rest)
    → (g : List Bool → Trit) → Computes (From post at w) g places → r ≡ res g places
step-zero post at w places rest first r e f below g h =
    let is : places ≡ Zero ∷ rest = e ∙ ap (λ t. t ∷ rest) f in
    below (λ p. g (false ∷ p)) (halved post g at at w Zero false rest refl (λ n. omega arith)
    (subst (λ ts. Computes (From post at w) g ts) is h)) ∙ ap (res g) (sym is)

pub step-one : (post : ℕ → Trit → Type 0) (at w : ℕ) (places rest : List Trit) (first r : Trit)
    → places ≡ first ∷ rest → first ≡ One
    → ((g : List Bool → Trit) → Computes (From post (at + w) (2 * w)) g rest → r ≡ res g rest)
    → (g : List Bool → Trit) → Computes (From post at w) g places → r ≡ res g places
step-one post at w places rest first r e f below g h =
    let is : places ≡ One ∷ rest = e ∙ ap (λ t. t ∷ rest) f in
    below (λ p. g (true ∷ p)) (halved post g at (at + w) w One true rest refl (λ n. omega arith)
    (subst (λ ts. Computes (From post at w) g ts) is h)) ∙ ap (res g) (sym is)

pub step-unknown : (post : ℕ → Trit → Type 0) (at w : ℕ) (places rest : List Trit) (first zero_r one_r : Trit)
    → places ≡ first ∷ rest → first ≡ Unknown
    → ((g : List Bool → Trit) → Computes (From post at (2 * w)) g rest → zero_r ≡ res g rest)
    → ((g : List Bool → Trit) → Computes (From post (at + w) (2 * w)) g rest → one_r ≡ res g rest)
    → (g : List Bool → Trit) → Computes (From post at w) g places → agreed zero_r one_r ≡ res g places
step-unknown post at w places rest first zero_r one_r e f zero one g h =
    let is : places ≡ Unknown ∷ rest = e ∙ ap (λ t. t ∷ rest) f in
    let k : Computes (From post at w) g (Unknown ∷ rest) = subst (λ ts. Computes (From post at w) g ts) is h in
    let first_is : zero_r ≡ res (λ p. g (false ∷ p)) rest =
    zero (λ p. g (false ∷ p)) (halved post g at at w Unknown false rest tt (λ n. omega arith) k) in
    let second_is : one_r ≡ res (λ p. g (true ∷ p)) rest =
    one (λ p. g (true ∷ p)) (halved post g at (at + w) w Unknown true rest tt (λ n. omega arith) k) in
    rw (first_is, second_is) (ap (res g) (sym is))

-- at the start
pub step-start : (post : ℕ → Trit → Type 0) (places : List Trit) (r : Trit)
    → ((g : List Bool → Trit) → Computes (From post 0 1) g places → r ≡ res g places)
    → (g : List Bool → Trit) → Computes post g places → r ≡ res g places
step-start post places r below g h =
    below g (record { at_filling = λ p fill v q. h.at_filling p fill v (subst (λ k. post k v) (omega arith) q) })
