-- Lists: filters, tests of all or some elements, and elements found by recursion.
use Rattle.std.proofs.Common.{◌≡◌, ℕ, zero, suc, ◌<◌, Bool, true, false, cond, ◌&&◌, ◌||◌, ◌⊎◌, List, [], ◌∷◌, ◌++◌, map, length}
use Rattle.std.proofs.Common.{get_or, refl, sym, ◌∙◌, ap, inl, inr, arith}
use Rattle.std.specs.List.{filter, list_any, list_all, Contains}
use Rattle.std.proofs.lemmas.Bool.{true≢false}

-- x is an element of the list
abbrev pub Among : {X : Type 0} → X → List X → Type 0
Among x [] = ⊥
Among x (y ∷ ys) = (y ≡ x) ⊎ Among x ys

pub among-contains : {X : Type 0} (x : X) (xs : List X) → Among x xs → Contains xs x
among-contains x [] h = absurd h
among-contains x (y ∷ ys) h = elim h [
  | inl e ↦ (zero, omega arith, e)
  | inr k ↦ let r = among-contains x ys k
      in (suc r.0, omega (arith, r.1), r.2)
]

contains-among_at : {X : Type 0} (x : X) (xs : List X) (k : ℕ) → k < length xs → get_or xs k x ≡ x → Among x xs
contains-among_at x [] k l e = absurd (omega arith)
contains-among_at x (y ∷ ys) zero l e = inl e
contains-among_at x (y ∷ ys) (suc k) l e = inr (contains-among_at x ys k (omega arith) e)

pub contains-among : {X : Type 0} (x : X) (xs : List X) → Contains xs x → Among x xs
contains-among x xs h = contains-among_at x xs h.0 h.1 h.2

pub among-map : {X Y : Type 0} (f : X → Y) (y : Y) (xs : List X) → Among y (map f xs) → (x : X) × (f x ≡ y) × Among x xs
among-map f y [] h = absurd h
among-map f y (x ∷ xs) h = elim h [ inl e ↦ (x, e, inl refl) | inr k ↦ let r = among-map f y xs k in (r.0, r.1, inr r.2) ]

pub map-among : {X Y : Type 0} (f : X → Y) (x : X) (xs : List X) → Among x xs → Among (f x) (map f xs)
map-among f x [] h = absurd h
map-among f x (y ∷ ys) h = elim h [ inl e ↦ inl (ap f e) | inr k ↦ inr (map-among f x ys k) ]

pub among-append : {X : Type 0} (x : X) (xs ys : List X) → Among x (xs ++ ys) → Among x xs ⊎ Among x ys
among-append x [] ys h = inr h
among-append x (z ∷ xs) ys h = elim h
    [ inl e ↦ inl (inl e) | inr k ↦ elim (among-append x xs ys k) [ inl a ↦ inl (inr a) | inr b ↦ inr b ] ]

pub append-among_left : {X : Type 0} (x : X) (xs ys : List X) → Among x xs → Among x (xs ++ ys)
append-among_left x [] ys h = absurd h
append-among_left x (z ∷ xs) ys h = elim h [ inl e ↦ inl e | inr k ↦ inr (append-among_left x xs ys k) ]

pub append-among_right : {X : Type 0} (x : X) (xs ys : List X) → Among x ys → Among x (xs ++ ys)
append-among_right x [] ys h = h
append-among_right x (z ∷ xs) ys h = inr (append-among_right x xs ys h)

among-cond : {X : Type 0} (b : Bool) (x y : X) (ys : List X) → Among x (cond b (y ∷ ys) ys) → ((b ≡ true) × (y ≡ x)) ⊎ Among x ys
among-cond true x y ys h = elim h [ inl e ↦ inl (refl, e) | inr k ↦ inr k ]
among-cond false x y ys h = inr h

pub among-filter : {X : Type 0} (p : X → Bool) (x : X) (xs : List X) → Among x (filter p xs) → Among x xs × (p x ≡ true)
among-filter p x [] h = absurd h
among-filter p x (y ∷ ys) h =
    elim (among-cond (p y) x y (filter p ys) h)
    [ inl e ↦ (inl e.1, sym (ap p e.1) ∙ e.0) | inr k ↦ let r = among-filter p x ys k in (inr r.0, r.1) ]

cond-among_here : {X : Type 0} (b : Bool) (x y : X) (ys : List X) → b ≡ true → y ≡ x → Among x (cond b (y ∷ ys) ys)
cond-among_here true x y ys h e = inl e
cond-among_here false x y ys h e = absurd (true≢false (sym h))

cond-among_later : {X : Type 0} (b : Bool) (x y : X) (ys : List X) → Among x ys → Among x (cond b (y ∷ ys) ys)
cond-among_later true x y ys h = inr h
cond-among_later false x y ys h = h

pub filter-among : {X : Type 0} (p : X → Bool) (x : X) (xs : List X) → Among x xs → p x ≡ true → Among x (filter p xs)
filter-among p x [] h e = absurd h
filter-among p x (y ∷ ys) h e =
    elim h [
      | inl k ↦ cond-among_here (p y) x y (filter p ys) (ap p k ∙ e) k
      | inr k ↦ cond-among_later (p y) x y (filter p ys) (filter-among p x ys k e)
    ]

cond-map : {X Y : Type 0} (f : X → Y) (b : Bool) (x : X) (xs : List X)
    → cond b (f x ∷ map f xs) (map f xs) ≡ map f (cond b (x ∷ xs) xs)
cond-map f true x xs = refl
cond-map f false x xs = refl

pub filter-map : {X Y : Type 0} (p : Y → Bool) (f : X → Y) (xs : List X) → filter p (map f xs) ≡ map f (filter (λ x. p (f x)) xs)
filter-map p f [] = refl
filter-map p f (x ∷ xs) = ap (λ ys. cond (p (f x)) (f x ∷ ys) ys) (filter-map p f xs)
    ∙ cond-map f (p (f x)) x (filter (λ y. p (f y)) xs)

cond-and : {X : Type 0} (q : X → Bool) (b : Bool) (x : X) (xs : List X)
    → cond (b && q x) (x ∷ filter q xs) (filter q xs) ≡ filter q (cond b (x ∷ xs) xs)
cond-and q true x xs = refl
cond-and q false x xs = refl

pub filter-and : {X : Type 0} (p q : X → Bool) (xs : List X) → filter (λ x. p x && q x) xs ≡ filter q (filter p xs)
filter-and p q [] = refl
filter-and p q (x ∷ xs) = ap (λ ys. cond (p x && q x) (x ∷ ys) ys) (filter-and p q xs) ∙ cond-and q (p x) x (filter p xs)

pub filter_same : {X : Type 0} (p q : X → Bool) (xs : List X) → ((x : X) → Among x xs → p x ≡ q x) → filter p xs ≡ filter q xs
filter_same p q [] h = refl
filter_same p q (x ∷ xs) h = rw (h x (inl refl), filter_same p q xs (λ y k. h y (inr k))) refl

pub any_same : {X : Type 0} (p q : X → Bool) (xs : List X) → ((x : X) → p x ≡ q x) → list_any p xs ≡ list_any q xs
any_same p q [] h = refl
any_same p q (x ∷ xs) h = rw (h x, any_same p q xs h) refl

pub any-map : {X Y : Type 0} (p : Y → Bool) (f : X → Y) (xs : List X) → list_any p (map f xs) ≡ list_any (λ x. p (f x)) xs
any-map p f [] = refl
any-map p f (x ∷ xs) = ap (λ b. p (f x) || b) (any-map p f xs)

pub any_never : {X : Type 0} (xs : List X) → list_any (λ _. false) xs ≡ false
any_never [] = refl
any_never (x ∷ xs) = any_never xs

cond-any : {X : Type 0} (p : X → Bool) (b : Bool) (x : X) (xs : List X) → (b ≡ false → p x ≡ false)
    → list_any p (cond b (x ∷ xs) xs) ≡ (p x || list_any p xs)
cond-any p true x xs h = refl
cond-any p false x xs h = rw (h refl) refl

-- a filter that leaves out only elements that fail the test
pub any-filter : {X : Type 0} (p q : X → Bool) (xs : List X) → ((x : X) → q x ≡ false → p x ≡ false)
    → list_any p (filter q xs) ≡ list_any p xs
any-filter p q [] h = refl
any-filter p q (x ∷ xs) h = cond-any p (q x) x (filter q xs) (h x) ∙ ap (λ b. p x || b) (any-filter p q xs h)

pub all_same : {X : Type 0} (p q : X → Bool) (xs : List X) → ((x : X) → p x ≡ q x) → list_all p xs ≡ list_all q xs
all_same p q [] h = refl
all_same p q (x ∷ xs) h = rw (h x, all_same p q xs h) refl

pub filter-never : {X : Type 0} (xs : List X) → filter (λ _. false) xs ≡ []
filter-never [] = refl
filter-never (x ∷ xs) = filter-never xs
