-- A repeated part: enough turns are as good as any larger number, and one turn after another.
use Rattle.std.proofs.Common.{◌≡◌, ℕ, zero, suc, ◌≤◌, List, [], ◌∷◌, length, Option, Some, Ok, inl, inr, refl, ap, subst, ◌∙◌}
use Rattle.std.proofs.Common.{arith}
use Rattle.grammar_rules.specs.Rule.{Verdict, Fits, Stops, Times}
use Rattle.grammar_rules.specs.Reading.{Outcome, and_then, choose, repeat}
use Rattle.grammar_rules.proofs.Steps.{value_is, rest_is, choose_ok, choose_fits, choose_stops, choose_same, and_then_ok}
use Rattle.grammar_rules.proofs.Steps.{and_then_at, and_then_same}

-- what a part leaves is no longer than what it began with
abbrev pub Shrinks : {T K A S : Type 0} → (S → A → List T → Outcome T K S) → Type 0
Shrinks {T} {K} {A} {S} go = (w : S) (a : A) (m : List T) (v : S) (q : List T) → go w a m ≡ Ok (v, q) → length q ≤ length m

shorter : {T : Type 0} (x : T) (s m : List T) (n : ℕ) → s ≡ x ∷ m → length s ≤ suc n → length m ≤ n
shorter x s m n e h = let k = ap length e in omega arith

less : {T : Type 0} (x : T) (s m : List T) → s ≡ x ∷ m → length m ≤ length s
less x s m e = let k = ap length e in omega arith

pub repeat_shrinks : {T K A S : Type 0} (f : S → T → Option (Verdict A K)) (go : S → A → List T → Outcome T K S) → Shrinks go →
    (n : ℕ) (u : S) (s : List T) (v : S) (r : List T) → repeat f go n u s ≡ Ok (v, r) → length r ≤ length s
repeat_shrinks f go sh zero u s v r e = let k = ap length (rest_is e) in omega arith
repeat_shrinks {T} {K} {A} {S} f go sh (suc n) u s v r e =
    elim (choose_ok (f u) s (λ a m. and_then (go u a m) (λ w q. repeat f go n w q)) (Ok (u, s)) (v, r) e) [
      | inl (x, a, m, is, fits, h) ↦
          (let t = and_then_ok (go u a m) (λ w q. repeat f go n w q) (v, r) h in
          let k = repeat_shrinks f go sh n t.0 t.1 v r t.3 in
          let j = sh u a m t.0 t.1 t.2 in
          let i = less x s m is in
          omega arith)
      | inr h ↦ (let k = ap length (rest_is h.1) in omega arith)
    ]

pub fuel : {T K A S : Type 0} (f : S → T → Option (Verdict A K)) (go : S → A → List T → Outcome T K S) → Shrinks go →
    (n k : ℕ) (u : S) (s : List T) → length s ≤ n → length s ≤ k → repeat f go n u s ≡ repeat f go k u s
fuel f go sh zero zero u s h i = refl
fuel f go sh zero (suc k) u [] h i = refl
fuel f go sh zero (suc k) u (x ∷ s) h i = absurd (omega arith)
fuel f go sh (suc n) zero u [] h i = refl
fuel f go sh (suc n) zero u (x ∷ s) h i = absurd (omega arith)
fuel {T} {K} {A} {S} f go sh (suc n) (suc k) u s h i =
    choose_same (f u) s (λ a m. and_then (go u a m) (λ w q. repeat f go n w q))
    (λ a m. and_then (go u a m) (λ w q. repeat f go k w q)) (Ok (u, s))
    (λ x a m is. and_then_same (go u a m) (λ w q. repeat f go n w q) (λ w q. repeat f go k w q)
    (λ w q e. let j = sh u a m w q e in let l = shorter x s m n is h in let l' = shorter x s m k is i
    in fuel f go sh n k w q (omega arith) (omega arith)))

-- a repeated part, with as many turns as there are tokens
abbrev pub turns : {T K A S : Type 0} → (S → T → Option (Verdict A K)) → (S → A → List T → Outcome T K S) → S → List T
    → Outcome T K S
turns f go u s = repeat f go (length s) u s

pub unroll : {T K A S : Type 0} (f : S → T → Option (Verdict A K)) (go : S → A → List T → Outcome T K S) → Shrinks go →
    (u : S) (s : List T) → turns f go u s ≡ choose (f u) s (λ a m. and_then (go u a m) (λ w q. turns f go w q)) (Ok (u, s))
unroll f go sh u [] = refl
unroll {T} {K} {A} {S} f go sh u (y ∷ s) =
    choose_same (f u) (y ∷ s) (λ a m. and_then (go u a m) (λ w q. repeat f go (length s) w q))
    (λ a m. and_then (go u a m) (λ w q. turns f go w q)) (Ok (u, y ∷ s))
    (λ x a m is. and_then_same (go u a m) (λ w q. repeat f go (length s) w q) (λ w q. turns f go w q)
    (λ w q e. let j = sh u a m w q e in let l = shorter x (y ∷ s) m (length s) is (omega arith)
    in fuel f go sh (length s) (length q) w q (omega arith) (omega arith)))

pub turn : {T K A S : Type 0} (f : S → T → Option (Verdict A K)) (go : S → A → List T → Outcome T K S) → Shrinks go →
    (u : S) (x : T) (a : A) (m : List T) (w : S) (q : List T) → f u x ≡ Some (Fits a) → go u a m ≡ Ok (w, q)
    → turns f go u (x ∷ m) ≡ turns f go w q
turn f go sh u x a m w q fits e =
    unroll f go sh u (x ∷ m)
    ∙ choose_fits (f u) x m a (λ a m. and_then (go u a m) (λ w q. turns f go w q)) (Ok (u, x ∷ m)) fits
    ∙ and_then_at (go u a m) (λ w q. turns f go w q) w q e

pub ends : {T K A S : Type 0} (f : S → T → Option (Verdict A K)) (go : S → A → List T → Outcome T K S) → Shrinks go →
    (u : S) (s : List T) → Stops (f u) s → turns f go u s ≡ Ok (u, s)
ends f go sh u s h = unroll f go sh u s ∙ choose_stops (f u) s (λ a m. and_then (go u a m) (λ w q. turns f go w q)) (Ok (u, s)) h

-- after some whole parts the reading stands where they end
pub reaches : {T K A S : Type 0} (f : S → T → Option (Verdict A K)) (go : S → A → List T → Outcome T K S) → Shrinks go →
    (G : S → A → List T → S → List T → Type 0)
    → ((w : S) (a : A) (m : List T) (v : S) (q : List T) → G w a m v q → go w a m ≡ Ok (v, q)) →
    (n : ℕ) (u : S) (s : List T) (v : S) (r : List T) → Times f G n u s v r → turns f go u s ≡ turns f go v r
reaches {T} {K} {A} {S} f go sh G all zero u s v r (e, i) = ap (λ (w : S). turns f go w s) e
    ∙ ap (λ (m : List T). turns f go v m) i
reaches {T} {K} {A} {S} f go sh G all (suc n) u s v r (x, a, m, w, q, is, fits, one, more) =
    ap (λ (m : List T). turns f go u m) is ∙ turn f go sh u x a m w q fits (all u a m w q one)
    ∙ reaches f go sh G all n w q v r more

pub repeat_sound : {T K A S : Type 0} (f : S → T → Option (Verdict A K)) (go : S → A → List T → Outcome T K S) → Shrinks go →
    (G : S → A → List T → S → List T → Type 0)
    → ((w : S) (a : A) (m : List T) (v : S) (q : List T) → go w a m ≡ Ok (v, q) → G w a m v q) →
    (n : ℕ) (u : S) (s : List T) (v : S) (r : List T) → length s ≤ n → repeat f go n u s ≡ Ok (v, r) → (k : ℕ)
    × Times f G k u s v r × Stops (f v) r
repeat_sound {T} {K} {A} {S} f go sh G all zero u [] v r h e =
    (0, (value_is e, rest_is e), subst (λ (m : List T). Stops (f v) m) (rest_is e) tt)
repeat_sound f go sh G all zero u (x ∷ s) v r h e = absurd (omega arith)
repeat_sound {T} {K} {A} {S} f go sh G all (suc n) u s v r h e =
    elim (choose_ok (f u) s (λ a m. and_then (go u a m) (λ w q. repeat f go n w q)) (Ok (u, s)) (v, r) e) [
      | inl (x, a, m, is, fits, i) ↦
          (let t = and_then_ok (go u a m) (λ w q. repeat f go n w q) (v, r) i in
          let j = sh u a m t.0 t.1 t.2 in
          let l = shorter x s m n is h in
          let z = repeat_sound f go sh G all n t.0 t.1 v r (omega arith) t.3 in
          (suc z.0, (x, a, m, t.0, t.1, is, fits, all u a m t.0 t.1 t.2, z.1), z.2))
      | inr i ↦ (
        0,
        (value_is i.1, rest_is i.1),
        subst (λ (w : S). Stops (f w) r) (value_is i.1) (subst (λ (m : List T). Stops (f u) m) (rest_is i.1) i.0),
      )
    ]
