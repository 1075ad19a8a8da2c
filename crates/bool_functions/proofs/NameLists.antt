-- How the keys of an index set are seen as a list of names.
use Rattle.std.proofs.Common.{◌≡◌, ℕ, suc, ◌+◌, ◌<◌, Bool, true, false, not, cond, ◌||◌, nat_lt, List, [], ◌∷◌, ◌++◌, map, length}
use Rattle.std.proofs.Common.{position, None, Some, refl, sym, ap, ◌∙◌, arith, bytes_eq, if◌then◌else◌}
use Rattle.std.proofs.lemmas.List.{length-map}
use Rattle.std.proofs.lemmas.Bool.Decides.{nat_tests}
use Rattle.bool_functions.specs.NameList.{Adds}
use Rattle.std.specs.List.{IsDistinct, AllByRecursion, position_or_len, prefix_len, list_any}

pub prefix_len-map : {X Y : Type 0} (f : X → Y) (p : Y → Bool) (xs : List X)
    → prefix_len p (map f xs) ≡ prefix_len (λ x. p (f x)) xs
prefix_len-map f p [] = refl
prefix_len-map f p (x ∷ xs) = ap (λ n. cond (p (f x)) (1 + n) 0) (prefix_len-map f p xs)

pub position-map : {X Y : Type 0} (f : X → Y) (p : Y → Bool) (xs : List X) → position p (map f xs) ≡ position (λ x. p (f x)) xs
position-map f p xs =
    ap (λ n. cond (nat_lt n (length (map f xs))) (Some n) None) (prefix_len-map f (λ y. not (p y)) xs)
    ∙ ap (λ m. cond (nat_lt (position_or_len (λ x. p (f x)) xs) m) (Some (position_or_len (λ x. p (f x)) xs)) None)
    (length-map xs f)

pub list_any-map : {X Y : Type 0} (f : X → Y) (p : Y → Bool) (xs : List X) → list_any p (map f xs) ≡ list_any (λ x. p (f x)) xs
list_any-map f p [] = refl
list_any-map f p (x ∷ xs) = ap (λ b. p (f x) || b) (list_any-map f p xs)

none_step : (b rest : Bool) (n m : ℕ) → (rest ≡ false → n ≡ m) → (b || rest) ≡ false → cond (not b) (1 + n) 0 ≡ suc m
none_step true rest n m f g = absurd cc
none_step false rest n m f g = omega (arith, f g)

some_step : (b rest : Bool) (n m : ℕ) → (rest ≡ true → n < m) → (b || rest) ≡ true → cond (not b) (1 + n) 0 < suc m
some_step true rest n m f g = omega arith
some_step false rest n m f g = omega (arith, f g)

position_or_len-none : {X : Type 0} (p : X → Bool) (xs : List X) → list_any p xs ≡ false → position_or_len p xs ≡ length xs
position_or_len-none p [] h = refl
position_or_len-none p (x ∷ xs) h = none_step (p x) _ _ _ (position_or_len-none p xs) h

position_or_len-some : {X : Type 0} (p : X → Bool) (xs : List X) → list_any p xs ≡ true → position_or_len p xs < length xs
position_or_len-some p [] h = absurd cc
position_or_len-some p (x ∷ xs) h = some_step (p x) _ _ _ (position_or_len-some p xs) h

chosen_none : (n m : ℕ) → n ≡ m → cond (nat_lt n m) (Some n) None ≡ None
chosen_none n m h = grind (arith, nat_tests)

chosen_some : (n m : ℕ) → n < m → cond (nat_lt n m) (Some n) None ≡ Some n
chosen_some n m h = grind (arith, nat_tests)

-- where no element passes, there is no position
pub position-none : {X : Type 0} (p : X → Bool) (xs : List X) → list_any p xs ≡ false → position p xs ≡ None
position-none p xs h = chosen_none _ _ (position_or_len-none p xs h)

-- where an element passes, there is one
pub position-some : {X : Type 0} (p : X → Bool) (xs : List X) → list_any p xs ≡ true → position p xs ≡ None → ⊥
position-some p xs h g = let e : position p xs ≡ Some (position_or_len p xs) = chosen_some _ _ (position_or_len-some p xs h) in cc

pub AllByRecursion-map : {X Y : Type 0} (f : X → Y) (P : Y → Type 0) (xs : List X) → AllByRecursion (λ x. P (f x)) xs
    → AllByRecursion P (map f xs)
AllByRecursion-map f P [] h = h
AllByRecursion-map f P (x ∷ xs) h = (h.0, AllByRecursion-map f P xs h.1)

pub IsDistinct-map : {X Y : Type 0} (f : X → Y) (e : Y → Y → Bool) (xs : List X) → IsDistinct (λ x y. e (f x) (f y)) xs
    → IsDistinct e (map f xs)
unfolding IsDistinct
IsDistinct-map f e [] h = h
IsDistinct-map f e (x ∷ xs) h = (AllByRecursion-map f (λ y. e (f x) y ≡ false) xs h.0, IsDistinct-map f e xs h.1)

-- keys with one more at the end
pub map-push : {X Y : Type 0} (f : X → Y) (xs : List X) (x : X) → map f (xs ++ x ∷ []) ≡ map f xs ++ f x ∷ []
map-push f [] x = refl
map-push f (y ∷ xs) x = ap (λ ys. f y ∷ ys) (map-push f xs x)

told_absent : (b is_new : Bool) → is_new ≡ not b → is_new ≡ true → b ≡ false
told_absent true is_new e t = absurd cc
told_absent false is_new e t = refl

told_present : (b is_new : Bool) → is_new ≡ not b → is_new ≡ false → b ≡ true
told_present true is_new e t = refl
told_present false is_new e t = absurd cc

-- whether a name is among the names is whether its key is among the keys
among : {X : Type 0} (f : X → List ℕ) (keys : List X) (x : X) (names : List (List ℕ)) (name : List ℕ) → map f keys ≡ names
    → f x ≡ name
    → list_any (bytes_eq name) names ≡ list_any (λ k. bytes_eq (f x) (f k)) keys
among f keys x names name p q =
    sym (ap (list_any (bytes_eq name)) p)
    ∙ list_any-map f (bytes_eq name) keys
    ∙ ap (λ bytes. list_any (λ k. bytes_eq bytes (f k)) keys) (sym q)

-- a key that is new is the last one
pub adds_new : {X : Type 0} (f : X → List ℕ) (keys new : List X) (x : X) (names : List (List ℕ)) (name : List ℕ) (number : ℕ)
    (is_new : Bool) → map f keys ≡ names
    → f x ≡ name → number ≡ length keys → new ≡ (if list_any (λ k. bytes_eq (f x) (f k)) keys then keys else keys ++ x ∷ [])
    → is_new ≡ not (list_any (λ k. bytes_eq (f x) (f k)) keys) → is_new ≡ true → Adds names name (Some number) (map f new)
adds_new f keys new x names name number is_new p q n e is t =
    let absent = told_absent (list_any (λ k. bytes_eq (f x) (f k)) keys) is_new is t in (
      position-none (bytes_eq name) names (among f keys x names name p q ∙ absent),
      n ∙ sym (length-map keys f) ∙ ap length p,
      ap (map f) (e ∙ ap (λ b. if b then keys else (keys ++ x ∷ [])) absent)
          ∙ map-push f keys x
          ∙ ap (λ bytes. map f keys ++ bytes ∷ []) q
          ∙ ap (λ ns. ns ++ name ∷ []) p,
    )

-- one that is there stays where it is
pub adds_none : {X : Type 0} (f : X → List ℕ) (keys new : List X) (x : X) (names : List (List ℕ)) (name : List ℕ) (is_new : Bool)
    → map f keys ≡ names
    → f x ≡ name → new ≡ (if list_any (λ k. bytes_eq (f x) (f k)) keys then keys else keys ++ x ∷ [])
    → is_new ≡ not (list_any (λ k. bytes_eq (f x) (f k)) keys) → is_new ≡ false → Adds names name None (map f new)
adds_none f keys new x names name is_new p q e is t =
    let present = told_present (list_any (λ k. bytes_eq (f x) (f k)) keys) is_new is t in (
      position-some (bytes_eq name) names (among f keys x names name p q ∙ present),
      ap (map f) (e ∙ ap (λ b. if b then keys else (keys ++ x ∷ [])) present) ∙ p,
    )
