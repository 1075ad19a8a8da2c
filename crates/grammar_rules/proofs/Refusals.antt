-- Reading refuses exactly what the rule refuses, with the kind and the place that it says.
use Rattle.std.proofs.Common.{◌≡◌, ℕ, zero, suc, ◌≤◌, List, [], ◌∷◌, length, Option, Some, Ok, Err, ◌⊎◌, inl, inr, refl, ap}
use Rattle.std.proofs.Common.{subst, ◌∙◌, arith}
use Rattle.grammar_rules.specs.Rule.{Rule, Gives, Token, Peek, Then, Many, Choice, Last, Marked, Verdict, Fits, Times, Takes}
use Rattle.grammar_rules.specs.Rule.{Refuses, Condemns, CondemnsNext, CondemnsFirst}
use Rattle.grammar_rules.specs.Reading.{Outcome, and_then, marked, at_next, judge, repeat, read}
use Rattle.grammar_rules.proofs.Steps.{err_pair, kind_is, place_is, judge_err, condemned, choose_err, choose_fits, choose_stops}
use Rattle.grammar_rules.proofs.Steps.{choose_condemns, and_then_err, and_then_at, and_then_fails, marked_err}
use Rattle.grammar_rules.proofs.Turns.{Shrinks, turns, unroll, reaches}
use Rattle.grammar_rules.proofs.Exact.{parts_shrink, complete, sound}

next_refused : {T K A B : Type 0} (f : T → Verdict A K) (j : K) (s : List T) (keep : T → A → List T → Outcome T K B) (k : K)
    → CondemnsNext f j s k →
    at_next s (λ x r. judge (f x) (λ a. keep x a r) (λ j. Err (j, x ∷ r))) (Err (j, [])) ≡ Err (k, s)
next_refused {T} {K} {A} {B} f j [] keep k c = err_pair c refl
next_refused f j (x ∷ s) keep k c = condemned (f x) (λ a. keep x a s) (λ j. (j, x ∷ s)) k c

-- the place of a fault, along an equation of the rests
at_place : {T K A : Type 0} (o : Outcome T K A) (k : K) (s m : List T) → s ≡ m → o ≡ Err (k, s) → o ≡ Err (k, m)
at_place o k s m e h = h ∙ err_pair refl e

pub refuses : {T K A : Type 0} (p : Rule T K A) (s : List T) (k : K) (m : List T) → Refuses p s k m → read p s ≡ Err (k, m)
refuses (Gives a) s k m c = absurd c
refuses (Token f j) s k m (e, c) = at_place (read (Token f j) s) k s m e (next_refused f j s (λ x a r. Ok (a, r)) k c)
refuses (Peek f j) s k m (e, c) = at_place (read (Peek f j) s) k s m e (next_refused f j s (λ x a r. Ok (a, x ∷ r)) k c)
refuses (Then p g) s k m (inl c) = and_then_fails (read p s) (λ a m. read (g a) m) (k, m) (refuses p s k m c)
refuses (Then p g) s k m (inr (a, r, t, c)) = and_then_at (read p s) (λ a m. read (g a) m) a r (complete p s a r t)
    ∙ refuses (g a) r k m c
refuses {T} {K} (Many {A = A} {S = S} f g u) s k m (n, v, r, t, inl (e, c)) =
    let go : S → A → List T → Outcome T K S = λ w a q. read (g w a) q in
    reaches f go (parts_shrink g) (λ w a q. Takes (g w a) q) (λ w a q v r i. complete (g w a) q v r i) n u s v r t
    ∙ at_place (turns f go v r) k r m e
    (unroll f go (parts_shrink g) v r ∙ choose_condemns (f v) r (λ a q. and_then (go v a q) (λ w q. turns f go w q))
    (Ok (v, r)) k c)
refuses {T} {K} (Many {A = A} {S = S} f g u) s k m (n, v, r, t, inr (x, a, q, e, fits, c)) =
    let go : S → A → List T → Outcome T K S = λ w a q. read (g w a) q in
    let next : A → List T → Outcome T K S = λ a q. and_then (go v a q) (λ w q. turns f go w q) in
    reaches f go (parts_shrink g) (λ w a q. Takes (g w a) q) (λ w a q v r i. complete (g w a) q v r i) n u s v r t
    ∙ ap (λ (r : List T). turns f go v r) e
    ∙ unroll f go (parts_shrink g) v (x ∷ q)
    ∙ choose_fits (f v) x q a next (Ok (v, x ∷ q)) fits
    ∙ and_then_fails (go v a q) (λ w q. turns f go w q) (k, m) (refuses (g v a) q k m c)
refuses (Choice f g p) s k m (inl (e, c)) =
    at_place (read (Choice f g p) s) k s m e (choose_condemns f s (λ a m. read (g a) m) (read p s) k c)
refuses (Choice f g p) s k m (inr (inl (x, a, q, e, fits, c))) =
    rw e (choose_fits f x q a (λ a m. read (g a) m) (read p (x ∷ q)) fits ∙ refuses (g a) q k m c)
refuses (Choice f g p) s k m (inr (inr (h, c))) = choose_stops f s (λ a m. read (g a) m) (read p s) h ∙ refuses p s k m c
refuses (Last f a) [] k m (e, c) = absurd c
refuses (Last f a) (x ∷ s) k m (e, c) = err_pair c e
refuses (Marked h p) s k m (j, c, e) = ap (marked h) (refuses p s j m c) ∙ err_pair e refl

next_condemned : {T K A B : Type 0} (f : T → Verdict A K) (j : K) (s : List T) (keep : T → A → List T → B
    × List T) (k : K) (m : List T) →
    ◌≡◌ {A = Outcome T K B} (at_next s (λ x r. judge (f x) (λ a. Ok (keep x a r)) (λ j. Err (j, x ∷ r))) (Err (j, [])))
    (Err (k, m)) → (s ≡ m) × CondemnsNext f j s k
next_condemned {T} {K} {A} {B} f j [] keep k m e = (place_is {T = T} {K = K} {A = B} e, kind_is {T = T} {K = K} {A = B} e)
next_condemned {T} {K} {A} {B} f j (x ∷ s) keep k m e =
    elim (judge_err (f x) (λ a. Ok (keep x a s)) (λ j. (j, x ∷ s)) (k, m) e) [
      | inl h ↦ absurd (let i = h.2 in cc)
      | inr h ↦ (ap (λ z. z.1) h.2, subst (Condemns (f x)) (ap (λ z. z.0) h.2) h.1)
    ]

abbrev pub TurnRefused : {T K A S : Type 0} → (S → T → Option (Verdict A K)) → (S → A → List T → S → List T → Type 0)
    → (S → A → List T → K → List T → Type 0) → S → List T → K → List T → Type 0
TurnRefused {T} {K} {A} {S} f G R u s k m =
    (n : ℕ) × (v : S) × (r : List T) × Times f G n u s v r
    × (((r ≡ m) × CondemnsFirst (f v) r k)
    ⊎ ((x : T) × (a : A) × (q : List T) × (r ≡ x ∷ q) × (f v x ≡ Some (Fits a)) × R v a q k m))

turn_refused : {T K A S : Type 0} (f : S → T → Option (Verdict A K)) (go : S → A → List T → Outcome T K S) → Shrinks go →
    (G : S → A → List T → S → List T → Type 0) (R : S → A → List T → K → List T → Type 0) →
    ((w : S) (a : A) (m : List T) (v : S) (q : List T) → go w a m ≡ Ok (v, q) → G w a m v q) →
    ((w : S) (a : A) (q : List T) (k : K) (m : List T) → go w a q ≡ Err (k, m) → R w a q k m) →
    (n : ℕ) (u : S) (s : List T) (k : K) (m : List T) → length s ≤ n → repeat f go n u s ≡ Err (k, m) → TurnRefused f G R u s k m
turn_refused f go sh G R all none zero u s k m h e = absurd cc
turn_refused {T} {K} {A} {S} f go sh G R all none (suc n) u s k m h e =
    elim (choose_err (f u) s (λ a m. and_then (go u a m) (λ w q. repeat f go n w q)) (Ok (u, s)) (k, m) e) [
      | inl i ↦ (0, u, s, (refl, refl), inl i)
      | inr (inl (x, a, q, is, fits, i)) ↦
          (elim (and_then_err (go u a q) (λ w q. repeat f go n w q) (k, m) i) [
            | inl j ↦ (0, u, s, (refl, refl), inr (x, a, q, is, fits, none u a q k m j))
            | inr (w, r, j, l) ↦
                (let b = sh u a q w r j in
                let c = ap length is in
                let z = turn_refused f go sh G R all none n w r k m (omega arith) l in
                (suc z.0, z.1, z.2, (x, a, q, w, r, is, fits, all u a q w r j, z.3), z.4))
          ])
      | inr (inr i) ↦ absurd (let j = i.1 in cc)
    ]

pub refused : {T K A : Type 0} (p : Rule T K A) (s : List T) (k : K) (m : List T) → read p s ≡ Err (k, m) → Refuses p s k m
refused (Gives a) s k m e = absurd cc
refused (Token f j) s k m e = next_condemned f j s (λ x a r. (a, r)) k m e
refused (Peek f j) s k m e = next_condemned f j s (λ x a r. (a, x ∷ r)) k m e
refused (Then p g) s k m e =
    elim (and_then_err (read p s) (λ a m. read (g a) m) (k, m) e) [
      | inl i ↦ inl (refused p s k m i)
      | inr (a, r, i, j) ↦ inr (a, r, sound p s a r i, refused (g a) r k m j)
    ]
refused (Many f g u) s k m e =
    turn_refused f (λ w a q. read (g w a) q) (parts_shrink g) (λ w a q. Takes (g w a) q) (λ w a q k m. Refuses (g w a) q k m)
    (λ w a q v r i. sound (g w a) q v r i) (λ w a q k m i. refused (g w a) q k m i) (length s) u s k m (omega arith) e
refused (Choice f g p) s k m e =
    elim (choose_err f s (λ a m. read (g a) m) (read p s) (k, m) e) [
      | inl i ↦ inl i
      | inr (inl (x, a, q, is, fits, i)) ↦ inr (inl (x, a, q, is, fits, refused (g a) q k m i))
      | inr (inr i) ↦ inr (inr (i.0, refused p s k m i.1))
    ]
refused (Last f a) [] k m e = absurd cc
refused {T} {K} {A} (Last f a) (x ∷ s) k m e = (place_is {T = T} {K = K} {A = A} e, kind_is {T = T} {K = K} {A = A} e)
refused (Marked h p) s k m e =
    let i = marked_err h (read p s) k m e in (i.0, refused p s i.0 m i.1, i.2)
