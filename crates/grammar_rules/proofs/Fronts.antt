-- Fronts are what a reading uses up; a reading looks one token ahead and no further.
use Rattle.std.proofs.Common.{◌≡◌, ℕ, zero, suc, ◌≤◌, List, [], ◌∷◌, length, Option, Some, None, Ok, Err, ◌⊎◌, inl, inr, refl}
use Rattle.std.proofs.Common.{sym, ap, subst, ◌∙◌, arith}
use Rattle.grammar_rules.specs.Rule.{Rule, Gives, Token, Peek, Then, Many, Choice, Last, Marked, Verdict, Fits, Foul, Misfit}
use Rattle.grammar_rules.specs.Rule.{Stops, Times, Takes, Front}
use Rattle.grammar_rules.specs.Reading.{Outcome, and_then, marked, judge, judge_first, choose, repeat, read}
use Rattle.grammar_rules.proofs.Steps.{rest_of, choose_fits, choose_stops, and_then_at}
use Rattle.grammar_rules.proofs.Turns.{Shrinks, turns, unroll, reaches}
use Rattle.grammar_rules.proofs.Exact.{parts_shrink, complete, sound}

-- all tokens are read
abbrev pub UsesUp : {T K A : Type 0} → Outcome T K A → Type 0
UsesUp o = rest_of o ≡ []

pub then_used : {T K A B : Type 0} (o : Outcome T K A) (g : A → List T → Outcome T K B) → UsesUp o → ((a : A) → UsesUp (g a []))
    → UsesUp (and_then o g)
then_used (Ok p) g h i = subst (λ r. UsesUp (g p.0 r)) (sym h) (i p.0)
then_used (Err z) g h i = h

pub marked_used : {T J K A : Type 0} (h : J → K) (o : Outcome T J A) → UsesUp o → UsesUp (marked h o)
marked_used h (Ok p) i = i
marked_used h (Err z) i = i

pub used_marked : {T J K A : Type 0} (h : J → K) (o : Outcome T J A) → UsesUp (marked h o) → UsesUp o
used_marked h (Ok p) i = i
used_marked h (Err z) i = i

-- without tokens there is nothing left
pub at_end : {T K A : Type 0} (p : Rule T K A) → UsesUp (read p [])
at_end (Gives a) = refl
at_end (Token f k) = refl
at_end (Peek f k) = refl
at_end (Then p g) = then_used (read p []) (λ a r. read (g a) r) (at_end p) (λ a. at_end (g a))
at_end (Many f g u) = refl
at_end (Choice f g p) = at_end p
at_end (Last f a) = refl
at_end (Marked h p) = marked_used h (read p []) (at_end p)

-- what is read in the same way is used up in the same way
used_like : {T K A : Type 0} (o q : Outcome T K A) → o ≡ q → UsesUp q → UsesUp o
used_like o q e h = ap rest_of e ∙ h

pub front_ends : {T K A : Type 0} (p : Rule T K A) (s : List T) → Front p s → UsesUp (read p s)
front_ends (Gives a) s e = e
front_ends (Token f k) s (inl e) = subst (λ s. UsesUp (read (Token f k) s)) (sym e) refl
front_ends (Token f k) s (inr (a, t)) = ap rest_of (complete (Token f k) s a [] t)
front_ends (Peek f k) s e = subst (λ s. UsesUp (read (Peek f k) s)) (sym e) refl
front_ends (Then p g) s (inl h) = then_used (read p s) (λ a r. read (g a) r) (front_ends p s h) (λ a. at_end (g a))
front_ends (Then p g) s (inr (a, m, t, h)) =
    used_like (read (Then p g) s) (read (g a) m) (and_then_at (read p s) (λ a r. read (g a) r) a m (complete p s a m t))
    (front_ends (g a) m h)
front_ends {T} {K} (Many {A = A} {S = S} f g u) s (n, v, r, t, inl e) =
    let go : S → A → List T → Outcome T K S = λ w a q. read (g w a) q in
    used_like (turns f go u s) (turns f go v r)
    (reaches f go (parts_shrink g) (λ w a q. Takes (g w a) q) (λ w a q v r i. complete (g w a) q v r i) n u s v r t)
    (subst (λ (r : List T). UsesUp (turns f go v r)) (sym e) refl)
front_ends {T} {K} (Many {A = A} {S = S} f g u) s (n, v, r, t, inr (x, a, m, e, fits, h)) =
    let go : S → A → List T → Outcome T K S = λ w a q. read (g w a) q in
    let next : A → List T → Outcome T K S = λ a q. and_then (go v a q) (λ w q. turns f go w q) in
    used_like (turns f go u s) (next a m)
    (reaches f go (parts_shrink g) (λ w a q. Takes (g w a) q) (λ w a q v r i. complete (g w a) q v r i) n u s v r t
    ∙ ap (λ (r : List T). turns f go v r) e
    ∙ unroll f go (parts_shrink g) v (x ∷ m)
    ∙ choose_fits (f v) x m a next (Ok (v, x ∷ m)) fits)
    (then_used (go v a m) (λ w q. turns f go w q) (front_ends (g v a) m h) (λ w. refl))
front_ends (Choice f g p) s (inl (x, a, m, e, fits, h)) =
    used_like (read (Choice f g p) s) (read (g a) m)
    (ap (λ s. read (Choice f g p) s) e ∙ choose_fits f x m a (λ a r. read (g a) r) (read p (x ∷ m)) fits) (front_ends (g a) m h)
front_ends (Choice f g p) s (inr (h, i)) =
    used_like (read (Choice f g p) s) (read p s) (choose_stops f s (λ a r. read (g a) r) (read p s) h) (front_ends p s i)
front_ends (Last f a) s e = subst (λ s. UsesUp (read (Last f a) s)) (sym e) refl
front_ends (Marked h p) s i = marked_used h (read p s) (front_ends p s i)

pub judged_used : {T K A : Type 0} (v : Verdict A K) (x : T) (s r : List T) →
    UsesUp {T = T} {K = K} {A = A} (judge v (λ a. Ok (a, r)) (λ j. Err (j, x ∷ s))) → (a : A) × (v ≡ Fits a) × (r ≡ [])
judged_used (Fits a) x s r h = (a, refl, h)
judged_used (Foul k a) x s r h = absurd cc
judged_used (Misfit k) x s r h = absurd cc

pub then_splits : {T K A B : Type 0} (o : Outcome T K A) (g : A → List T → Outcome T K B) → UsesUp (and_then o g) →
    ((a : A) × (m : List T) × (o ≡ Ok (a, m)) × UsesUp (g a m)) ⊎ UsesUp o
then_splits (Ok p) g h = inl (p.0, p.1, refl, h)
then_splits (Err z) g h = inr h

pub first_used : {T K A B : Type 0} (v : Option (Verdict A K)) (go : A → Outcome T K B) (x : T) (s : List T)
    (other : Outcome T K B) →
    UsesUp (judge_first v go (λ k. Err (k, x ∷ s)) other) → ((a : A) × (v ≡ Some (Fits a)) × UsesUp (go a))
    ⊎ ((v ≡ None) × UsesUp other)
first_used None go x s other h = inr (refl, h)
first_used (Some (Fits a)) go x s other h = inl (a, refl, h)
first_used (Some (Foul k a)) go x s other h = absurd cc
first_used (Some (Misfit k)) go x s other h = absurd cc

choose_used : {T K A B : Type 0} (f : T → Option (Verdict A K)) (s : List T) (go : A → List T
    → Outcome T K B) (other : Outcome T K B) →
    UsesUp (choose f s go other) → ((x : T) × (a : A) × (m : List T) × (s ≡ x ∷ m) × (f x ≡ Some (Fits a)) × UsesUp (go a m))
    ⊎ (Stops f s × UsesUp other)
choose_used f [] go other h = inr (tt, h)
choose_used f (x ∷ s) go other h =
    elim (first_used (f x) (λ a. go a s) x s other h)
    [ inl i ↦ inl (x, i.0, s, refl, i.1, i.2) | inr i ↦ inr (i.0, i.1) ]

-- the fronts of a repeated part, over any fronts F of a part
abbrev pub TurnFront : {T K A S : Type 0} → (S → T → Option (Verdict A K)) → (S → A → List T → S → List T → Type 0)
    → (S → A → List T → Type 0) → S → List T → Type 0
TurnFront {T} {K} {A} {S} f G F u s =
    (n : ℕ) × (v : S) × (r : List T) × Times f G n u s v r
    × ((r ≡ []) ⊎ ((x : T) × (a : A) × (m : List T) × (r ≡ x ∷ m) × (f v x ≡ Some (Fits a)) × F v a m))

turn_front : {T K A S : Type 0} (f : S → T → Option (Verdict A K)) (go : S → A → List T → Outcome T K S) → Shrinks go →
    (G : S → A → List T → S → List T → Type 0) (F : S → A → List T → Type 0) →
    ((w : S) (a : A) (m : List T) (v : S) (q : List T) → go w a m ≡ Ok (v, q) → G w a m v q) →
    ((w : S) (a : A) (m : List T) → UsesUp (go w a m) → F w a m) →
    (n : ℕ) (u : S) (s : List T) → length s ≤ n → UsesUp (repeat f go n u s) → TurnFront f G F u s
turn_front f go sh G F all front zero u s h e = (0, u, s, (refl, refl), inl e)
turn_front {T} {K} {A} {S} f go sh G F all front (suc n) u s h e =
    elim (choose_used (f u) s (λ a m. and_then (go u a m) (λ w q. repeat f go n w q)) (Ok (u, s)) e) [
      | inl (x, a, m, is, fits, i) ↦
          (elim (then_splits (go u a m) (λ w q. repeat f go n w q) i) [
            | inl (w, q, j, l) ↦
                (let b = sh u a m w q j in
                let c = ap length is in
                let z = turn_front f go sh G F all front n w q (omega arith) l in
                (suc z.0, z.1, z.2, (x, a, m, w, q, is, fits, all u a m w q j, z.3), z.4))
            | inr j ↦ (0, u, s, (refl, refl), inr (x, a, m, is, fits, front u a m j))
          ])
      | inr i ↦ (0, u, s, (refl, refl), inl i.1)
    ]

pub ends_front : {T K A : Type 0} (p : Rule T K A) (s : List T) → UsesUp (read p s) → Front p s
ends_front (Gives a) s e = e
ends_front (Token f k) [] e = inl refl
ends_front {T} {K} {A} (Token f k) (x ∷ s) e =
    let i = judged_used (f x) x s s e in inr (i.0, (x, ap (λ (m : List T). x ∷ m) i.2, i.1))
ends_front (Peek f k) [] e = refl
ends_front {T} {K} {A} (Peek f k) (x ∷ s) e = let i = judged_used (f x) x s (x ∷ s) e in i.2
ends_front (Then p g) s e =
    elim (then_splits (read p s) (λ a r. read (g a) r) e)
    [ inl (a, m, i, j) ↦ inr (a, m, sound p s a m i, ends_front (g a) m j) | inr i ↦ inl (ends_front p s i) ]
ends_front (Many f g u) s e =
    turn_front f (λ w a q. read (g w a) q) (parts_shrink g) (λ w a q. Takes (g w a) q) (λ w a q. Front (g w a) q)
    (λ w a q v r i. sound (g w a) q v r i) (λ w a q i. ends_front (g w a) q i) (length s) u s (omega arith) e
ends_front (Choice f g p) s e =
    elim (choose_used f s (λ a r. read (g a) r) (read p s) e)
    [ inl (x, a, m, is, fits, i) ↦ inl (x, a, m, is, fits, ends_front (g a) m i) | inr i ↦ inr (i.0, ends_front p s i.1) ]
ends_front (Last f a) [] e = refl
ends_front (Last f a) (x ∷ s) e = e
ends_front (Marked h p) s e = ends_front p s (used_marked h (read p s) e)
