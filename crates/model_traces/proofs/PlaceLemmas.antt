-- Places of lists: the first entry that passes a test, and the only one.
use Rattle.std.proofs.Common.{◌≡◌, ◌≢◌, ℕ, zero, suc, ◌+◌, ◌<◌, Bool, true, false, not, cond, List, [], ◌∷◌, ◌++◌, length, map}
use Rattle.std.proofs.Common.{get_or, set, inl, inr, refl, ap, ◌∙◌, arith, Some, None, slice_get, nat_eq, eqb-true}
use Rattle.std.specs.Prelude.{count_by, filter, position}
use Rattle.std.specs.List.{position_from}
use Rattle.std.proofs.lemmas.Iterator.Adapters.{position_from-zero}
use Rattle.std.proofs.lemmas.List.Sums.{sum_by-cons}
use Rattle.trit_cubes.specs.declared.trits.Trit.{Trit}
use Rattle.trit_cubes.specs.declared.trits.Trit.TheVariants.{Zero, One, Unknown}
use Rattle.trit_cubes.specs.Filling.{same}
use Rattle.trit_cubes.proofs.ListLemmas.{Among}

pub position-from : {X : Type 0} (p : X → Bool) (xs : List X) → position p xs ≡ position_from p 0 xs
position-from p xs = position_from-zero p xs

count-some :
    {X : Type 0} (p : X → Bool) (xs : List X) (i : ℕ) (x : X)
    → slice_get xs i ≡ Some x → p x ≡ true → 0 < count_by p xs
count-some p [] i x e h = absurd cc
count-some p (y ∷ ys) zero x e h =
    let same_one : y ≡ x = cc in
    let one : ◌≡◌ {A = ℕ} (cond (p y) 1 0) 1 = ap (λ z. cond (p z) 1 0) same_one ∙ ap (λ b. cond b 1 0) h in
    omega (arith, sum_by-cons (λ z. cond (p z) 1 0) y ys, one)
count-some p (y ∷ ys) (suc i) x e h =
    let more = count-some p ys i x e h in
    omega (arith, sum_by-cons (λ z. cond (p z) 1 0) y ys, more)

-- the only entry that passes a test is the first one
pub only-place :
    {X : Type 0} (p : X → Bool) (k : ℕ) (xs : List X) (i : ℕ) (x : X)
    → count_by p xs ≡ 1 → slice_get xs i ≡ Some x → p x ≡ true → position_from p k xs ≡ Some (k + i)
only-place p k [] i x once e h = absurd cc
only-place p k (y ∷ ys) zero x once e h =
    let same_one : y ≡ x = cc in
    let at : k ≡ k + 0 = omega arith in
    ap (λ b. cond b (Some k) (position_from p (k + 1) ys)) (ap p same_one ∙ h) ∙ ap Some at
only-place p k (y ∷ ys) (suc i) x once e h = by (p y) refl (λ rest. only-place p (k + 1) ys i x rest e h)
  where
    by :
        (b : Bool) → p y ≡ b → (count_by p ys ≡ 1 → position_from p (k + 1) ys ≡ Some ((k + 1) + i))
        → cond b (Some k) (position_from p (k + 1) ys) ≡ Some (k + suc i)
    by true t again =
        let one : ◌≡◌ {A = ℕ} (cond (p y) 1 0) 1 = ap (λ c. cond c 1 0) t in
        let more = count-some p ys i x e h in
        absurd (omega (arith, sum_by-cons (λ z. cond (p z) 1 0) y ys, one, more, once))
    by false f again =
        let none : ◌≡◌ {A = ℕ} (cond (p y) 1 0) 0 = ap (λ c. cond c 1 0) f in
        let rest : count_by p ys ≡ 1 = omega (arith, sum_by-cons (λ z. cond (p z) 1 0) y ys, none, once) in
        let at : (k + 1) + i ≡ k + suc i = omega arith in
        again rest ∙ ap Some at

-- the first place, where what is made of each entry passes another test as the entry does, and what comes behind passes at k
pub place-of-made :
    {X Y : Type 0} (p : Y → Bool) (q : X → Bool) (f : X → Y) (ys : List Y) (k : ℕ) (xs : List X)
    → ((x : X) → Among x xs → p (f x) ≡ q x) → ((j : ℕ) → position_from p j ys ≡ None)
    → position_from p k (map f xs ++ ys) ≡ position_from q k xs
place-of-made p q f ys k [] same_test none = none k
place-of-made p q f ys k (x ∷ xs) same_test none =
    λ i.
    cond (same_test x (inl refl) i) (Some k)
    (place-of-made p q f ys (k + 1) xs (λ y m. same_test y (inr m)) none i)

-- where nothing made of the entries passes, the first place is behind them
pub place-behind :
    {X Y : Type 0} (p : Y → Bool) (f : X → Y) (y : Y) (k : ℕ) (xs : List X)
    → ((x : X) → p (f x) ≡ false) → p y ≡ true → position_from p k (map f xs ++ y ∷ []) ≡ Some (k + length xs)
place-behind p f y k [] none h =
    let at : k ≡ k + 0 = omega arith in
    ap (λ b. cond b (Some k) None) h ∙ ap Some at
place-behind p f y k (x ∷ xs) none h =
    let at : (k + 1) + length xs ≡ k + suc (length xs) = omega arith in
    ap (λ b. cond b (Some k) (position_from p (k + 1) (map f xs ++ y ∷ []))) (none x)
    ∙ place-behind p f y (k + 1) xs none h
    ∙ ap Some at

-- the entry at the first place
pub placed :
    {X : Type 0} (p : X → Bool) (k : ℕ) (xs : List X) (i : ℕ)
    → position_from p k xs ≡ Some i → (j : ℕ) × (x : X) × (i ≡ k + j) × (slice_get xs j ≡ Some x) × (p x ≡ true)
placed p k [] i e = absurd cc
placed {X} p k (x ∷ xs) i e = by (p x) refl e (λ found. placed p (k + 1) xs i found)
  where
    by :
        (b : Bool) → p x ≡ b → cond b (Some k) (position_from p (k + 1) xs) ≡ Some i
        → (position_from p (k + 1) xs ≡ Some i → (j : ℕ) × (y : X) × (i ≡ (k + 1) + j) × (slice_get xs j ≡ Some y) × (p y ≡ true))
        → (j : ℕ) × (y : X) × (i ≡ k + j) × (slice_get (x ∷ xs) j ≡ Some y) × (p y ≡ true)
    by true t found again =
        let same_place : k ≡ i = cc in
        let at : i ≡ k + 0 = omega (arith, same_place) in
        (0, x, at, refl, t)
    by false f found again =
        let rest = again found in
        let at : i ≡ k + suc rest.0 = omega (arith, rest.2) in
        (suc rest.0, rest.1, at, rest.3, rest.4)

-- entries of made lists
pub get-map : {X Y : Type 0} (f : X → Y) (xs : List X) (i : ℕ) (x : X) (d : Y) → slice_get xs i ≡ Some x
    → get_or (map f xs) i d ≡ f x
get-map f [] i x d e = absurd cc
get-map f (y ∷ ys) zero x d e = let same_one : y ≡ x = cc in ap f same_one
get-map f (y ∷ ys) (suc i) x d e = get-map f ys i x d e

pub get-within : {X : Type 0} (xs : List X) (i : ℕ) (x : X) → slice_get xs i ≡ Some x → i < length xs
get-within [] i x e = absurd cc
get-within (y ∷ ys) zero x e = omega arith
get-within (y ∷ ys) (suc i) x e = let rest = get-within ys i x e in omega (arith, rest)

pub set-last : {X : Type 0} (xs : List X) (y z : X) → set (xs ++ y ∷ []) (length xs) z ≡ xs ++ z ∷ []
set-last [] y z = refl
set-last (x ∷ xs) y z = ap (λ r. x ∷ r) (set-last xs y z)

-- values that differ are no same value
pub apart : (a b : Trit) → not (same a b) ≡ true → a ≢ b
apart Zero Zero h = absurd cc
apart One One h = absurd cc
apart Unknown Unknown h = absurd cc
apart Zero One h = λ e. absurd cc
apart Zero Unknown h = λ e. absurd cc
apart One Zero h = λ e. absurd cc
apart One Unknown h = λ e. absurd cc
apart Unknown Zero h = λ e. absurd cc
apart Unknown One h = λ e. absurd cc

-- lists of which all, or none, of the entries pass
pub filter-all :
    {X : Type 0} (test : X → Bool) (xs : List X)
    → ((i : ℕ) (x : X) → slice_get xs i ≡ Some x → test x ≡ true) → filter test xs ≡ xs
filter-all test [] h = refl
filter-all test (x ∷ xs) h =
    ap (λ b. cond b (x ∷ filter test xs) (filter test xs)) (h 0 x refl)
    ∙ ap (λ r. x ∷ r) (filter-all test xs (λ i y e. h (suc i) y e))

pub filter-none :
    {X : Type 0} (test : X → Bool) (xs : List X)
    → ((i : ℕ) (x : X) → slice_get xs i ≡ Some x → test x ≡ false) → filter test xs ≡ []
filter-none test [] h = refl
filter-none test (x ∷ xs) h =
    ap (λ b. cond b (x ∷ filter test xs) (filter test xs)) (h 0 x refl)
    ∙ filter-none test xs (λ i y e. h (suc i) y e)

pub equal-numbers : (a b : ℕ) → a < b → nat_eq a b ≡ false
equal-numbers a b h = by (nat_eq a b) refl
  where
    by : (c : Bool) → nat_eq a b ≡ c → c ≡ false
    by true e = let same_one : a ≡ b = eqb-true a b e in absurd (omega (arith, same_one, h))
    by false e = refl
