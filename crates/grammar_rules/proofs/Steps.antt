-- The parts of a reading, taken apart and put together.
use Rattle.std.proofs.Common.{◌≡◌, List, [], ◌∷◌, Option, Some, None, Ok, Err, ◌⊎◌, inl, inr, refl, ap, ◌∙◌}
use Rattle.grammar_rules.specs.Rule.{Verdict, Fits, Foul, Misfit, Stops, Condemns, CondemnsFirst}
use Rattle.grammar_rules.specs.Reading.{Outcome, and_then, marked, judge, judge_first, choose}

abbrev pub value_or : {T K A : Type 0} → A → Outcome T K A → A
value_or d (Ok p) = p.0
value_or d (Err e) = d

abbrev pub rest_of : {T K A : Type 0} → Outcome T K A → List T
rest_of (Ok p) = p.1
rest_of (Err e) = e.1

abbrev pub kind_or : {T K A : Type 0} → K → Outcome T K A → K
kind_or d (Ok p) = d
kind_or d (Err e) = e.0

pub value_is : {T K A : Type 0} {a b : A} {s r : List T} → ◌≡◌ {A = Outcome T K A} (Ok (a, s)) (Ok (b, r)) → a ≡ b
value_is {a = a} e = ap (value_or a) e

pub rest_is : {T K A : Type 0} {a b : A} {s r : List T} → ◌≡◌ {A = Outcome T K A} (Ok (a, s)) (Ok (b, r)) → s ≡ r
rest_is e = ap rest_of e

pub ok_pair : {T K A : Type 0} {a b : A} {s r : List T} → a ≡ b → s ≡ r → ◌≡◌ {A = Outcome T K A} (Ok (a, s)) (Ok (b, r))
ok_pair {T} {K} {A} {a} {b} {s} {r} e f = ap (λ (x : A). Ok (x, s)) e ∙ ap (λ (y : List T). Ok (b, y)) f

pub err_pair : {T K A : Type 0} {a b : K} {s r : List T} → a ≡ b → s ≡ r → ◌≡◌ {A = Outcome T K A} (Err (a, s)) (Err (b, r))
err_pair {T} {K} {A} {a} {b} {s} {r} e f = ap (λ (x : K). Err (x, s)) e ∙ ap (λ (y : List T). Err (b, y)) f

pub kind_is : {T K A : Type 0} {a b : K} {s r : List T} → ◌≡◌ {A = Outcome T K A} (Err (a, s)) (Err (b, r)) → a ≡ b
kind_is {a = a} e = ap (kind_or a) e

pub place_is : {T K A : Type 0} {a b : K} {s r : List T} → ◌≡◌ {A = Outcome T K A} (Err (a, s)) (Err (b, r)) → s ≡ r
place_is e = ap rest_of e

pub judge_ok : {T J K A B : Type 0} (v : Verdict A J) (good : A → Outcome T K B) (bad : J → K × List T) (y : B × List T) →
    judge v good (λ j. Err (bad j)) ≡ Ok y → (a : A) × (v ≡ Fits a) × (good a ≡ Ok y)
judge_ok (Fits a) good bad y e = (a, refl, e)
judge_ok (Foul k a) good bad y e = absurd cc
judge_ok (Misfit k) good bad y e = absurd cc

pub judge_err : {T J K A B : Type 0} (v : Verdict A J) (good : A → Outcome T K B) (bad : J → K × List T) (z : K × List T) →
    judge v good (λ j. Err (bad j)) ≡ Err z → ((a : A) × (v ≡ Fits a) × (good a ≡ Err z)) ⊎ ((j : J) × Condemns v j × (bad j ≡ z))
judge_err (Fits a) good bad z e = inl (a, refl, e)
judge_err (Foul k a) good bad z e = inr (k, refl, cc)
judge_err (Misfit k) good bad z e = inr (k, refl, cc)

pub condemned : {T J K A B : Type 0} (v : Verdict A J) (good : A → Outcome T K B) (bad : J → K × List T) (j : J) →
    Condemns v j → judge v good (λ j. Err (bad j)) ≡ Err (bad j)
condemned (Fits a) good bad j c = absurd c
condemned (Foul k a) good bad j c = ap (λ x. Err (bad x)) c
condemned (Misfit k) good bad j c = ap (λ x. Err (bad x)) c

pub first_ok : {T J K A B : Type 0} (v : Option (Verdict A J)) (good : A → Outcome T K B) (bad : J → K
    × List T) (other : Outcome T K B) (y : B × List T) →
    judge_first v good (λ j. Err (bad j)) other ≡ Ok y → ((a : A) × (v ≡ Some (Fits a)) × (good a ≡ Ok y))
    ⊎ ((v ≡ None) × (other ≡ Ok y))
first_ok None good bad other y e = inr (refl, e)
first_ok (Some (Fits a)) good bad other y e = inl (a, refl, e)
first_ok (Some (Foul k a)) good bad other y e = absurd cc
first_ok (Some (Misfit k)) good bad other y e = absurd cc

pub choose_ok : {T K A B : Type 0} (f : T → Option (Verdict A K)) (s : List T) (go : A → List T
    → Outcome T K B) (other : Outcome T K B) (y : B × List T) →
    choose f s go other ≡ Ok y
    → ((x : T) × (a : A) × (m : List T) × (s ≡ x ∷ m) × (f x ≡ Some (Fits a)) × (go a m ≡ Ok y)) ⊎ (Stops f s × (other ≡ Ok y))
choose_ok f [] go other y e = inr (tt, e)
choose_ok f (x ∷ s) go other y e =
    elim (first_ok (f x) (λ a. go a s) (λ k. (k, x ∷ s)) other y e)
    [ inl h ↦ inl (x, h.0, s, refl, h.1, h.2) | inr h ↦ inr (h.0, h.1) ]

abbrev pub FirstErr : {T K A B : Type 0} → (v : Option (Verdict A K)) → (A → Outcome T K B) → List T → Outcome T K B → K × List T
    → Type 0
FirstErr {T} {K} {A} v good s other z =
    ((w : Verdict A K) × (v ≡ Some w) × Condemns w z.0 × (s ≡ z.1))
    ⊎ (((a : A) × (v ≡ Some (Fits a)) × (good a ≡ Err z)) ⊎ ((v ≡ None) × (other ≡ Err z)))

pub first_err : {T K A B : Type 0} (v : Option (Verdict A K)) (good : A → Outcome T K B) (s : List T) (other : Outcome T K B)
    (z : K × List T) →
    judge_first v good (λ k. Err (k, s)) other ≡ Err z → FirstErr v good s other z
first_err None good s other z e = inr (inr (refl, e))
first_err (Some (Fits a)) good s other z e = inr (inl (a, refl, e))
first_err {T} {K} {A} {B} (Some (Foul k a)) good s other z e =
    inl (Foul k a, refl, kind_is {T = T} {K = K} {A = B} e, place_is {T = T} {K = K} {A = B} e)
first_err {T} {K} {A} {B} (Some (Misfit k)) good s other z e =
    inl (Misfit k, refl, kind_is {T = T} {K = K} {A = B} e, place_is {T = T} {K = K} {A = B} e)

pub choose_err : {T K A B : Type 0} (f : T → Option (Verdict A K)) (s : List T) (go : A → List T
    → Outcome T K B) (other : Outcome T K B) (z : K × List T) →
    choose f s go other ≡ Err z
    → ((s ≡ z.1) × CondemnsFirst f s z.0)
    ⊎ (((x : T) × (a : A) × (m : List T) × (s ≡ x ∷ m) × (f x ≡ Some (Fits a)) × (go a m ≡ Err z))
    ⊎ (Stops f s × (other ≡ Err z)))
choose_err f [] go other z e = inr (inr (tt, e))
choose_err f (x ∷ s) go other z e =
    elim (first_err (f x) (λ a. go a s) (x ∷ s) other z e) [
      | inl h ↦ inl (h.3, (h.0, h.1, h.2))
      | inr (inl h) ↦ inr (inl (x, h.0, s, refl, h.1, h.2))
      | inr (inr h) ↦ inr
          (inr (h.0, h.1))
    ]

pub choose_fits : {T K A B : Type 0} (f : T → Option (Verdict A K)) (x : T) (m : List T) (a : A) (go : A → List T
    → Outcome T K B) (other : Outcome T K B) →
    f x ≡ Some (Fits a) → choose f (x ∷ m) go other ≡ go a m
choose_fits f x m a go other e = rw e refl

pub choose_stops : {T K A B : Type 0} (f : T → Option (Verdict A K)) (s : List T) (go : A → List T
    → Outcome T K B) (other : Outcome T K B) →
    Stops f s → choose f s go other ≡ other
choose_stops f [] go other h = refl
choose_stops f (x ∷ s) go other h = rw h refl

pub choose_condemns : {T K A B : Type 0} (f : T → Option (Verdict A K)) (s : List T) (go : A → List T
    → Outcome T K B) (other : Outcome T K B) (k : K) →
    CondemnsFirst f s k → choose f s go other ≡ Err (k, s)
choose_condemns f [] go other k c = absurd c
choose_condemns f (x ∷ s) go other k (v, e, c) = rw e (condemned v (λ a. go a s) (λ j. (j, x ∷ s)) k c)

pub and_then_ok : {T K A B : Type 0} (o : Outcome T K A) (g : A → List T → Outcome T K B) (y : B × List T) →
    and_then o g ≡ Ok y → (a : A) × (r : List T) × (o ≡ Ok (a, r)) × (g a r ≡ Ok y)
and_then_ok (Ok p) g y e = (p.0, p.1, refl, e)
and_then_ok (Err z) g y e = absurd cc

pub and_then_err : {T K A B : Type 0} (o : Outcome T K A) (g : A → List T → Outcome T K B) (z : K × List T) →
    and_then o g ≡ Err z → (o ≡ Err z) ⊎ ((a : A) × (r : List T) × (o ≡ Ok (a, r)) × (g a r ≡ Err z))
and_then_err (Ok p) g z e = inr (p.0, p.1, refl, e)
and_then_err (Err y) g z e = inl cc

pub and_then_at : {T K A B : Type 0} (o : Outcome T K A) (g : A → List T → Outcome T K B) (a : A) (r : List T) →
    o ≡ Ok (a, r) → and_then o g ≡ g a r
and_then_at o g a r e = rw e refl

pub and_then_fails : {T K A B : Type 0} (o : Outcome T K A) (g : A → List T → Outcome T K B) (z : K × List T) →
    o ≡ Err z → and_then o g ≡ Err z
and_then_fails o g z e = rw e refl

pub and_then_same : {T K A B : Type 0} (o : Outcome T K A) (g h : A → List T → Outcome T K B) →
    ((a : A) (r : List T) → o ≡ Ok (a, r) → g a r ≡ h a r) → and_then o g ≡ and_then o h
and_then_same (Ok p) g h e = e p.0 p.1 refl
and_then_same (Err z) g h e = refl

pub first_same : {A K R : Type 0} (v : Option (Verdict A K)) (g h : A → R) (bad : K → R) (other : R) →
    ((a : A) → v ≡ Some (Fits a) → g a ≡ h a) → judge_first v g bad other ≡ judge_first v h bad other
first_same None g h bad other e = refl
first_same (Some (Fits a)) g h bad other e = e a refl
first_same (Some (Foul k a)) g h bad other e = refl
first_same (Some (Misfit k)) g h bad other e = refl

pub choose_same : {T K A B : Type 0} (f : T → Option (Verdict A K)) (s : List T) (g h : A → List T
    → Outcome T K B) (other : Outcome T K B) →
    ((x : T) (a : A) (m : List T) → s ≡ x ∷ m → g a m ≡ h a m) → choose f s g other ≡ choose f s h other
choose_same f [] g h other e = refl
choose_same f (x ∷ s) g h other e =
    first_same (f x) (λ a. g a s) (λ a. h a s) (λ k. Err (k, x ∷ s)) other (λ a fits. e x a s refl)

pub marked_ok : {T J K A : Type 0} (h : J → K) (o : Outcome T J A) (y : A × List T) → marked h o ≡ Ok y → o ≡ Ok y
marked_ok h (Ok p) y e = cc
marked_ok h (Err z) y e = absurd cc

pub marked_err : {T J K A : Type 0} (h : J → K) (o : Outcome T J A) (k : K) (m : List T) → marked h o ≡ Err (k, m) → (j : J)
    × (o ≡ Err (j, m)) × (h j ≡ k)
marked_err h (Ok p) k m e = absurd cc
marked_err {T} {J} {K} {A} h (Err z) k m e =
    (z.0, err_pair {T = T} {K = J} {A = A} refl (place_is {T = T} {K = K} {A = A} e), kind_is {T = T} {K = K} {A = A} e)
