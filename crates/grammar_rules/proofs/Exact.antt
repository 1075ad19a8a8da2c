-- Reading and taking agree, both ways.
use Rattle.std.proofs.Common.{◌≡◌, ◌≤◌, List, [], ◌∷◌, length, Ok, inl, inr, refl, sym, ap, ◌∙◌, arith}
use Rattle.grammar_rules.specs.Rule.{Rule, Gives, Token, Peek, Then, Many, Choice, Last, Marked, Fits, Takes}
use Rattle.grammar_rules.specs.Reading.{marked, read}
use Rattle.grammar_rules.proofs.Steps.{value_is, rest_is, ok_pair, judge_ok, choose_ok, choose_fits, choose_stops, and_then_ok}
use Rattle.grammar_rules.proofs.Steps.{and_then_at, marked_ok}
use Rattle.grammar_rules.proofs.Turns.{Shrinks, repeat_shrinks, ends, reaches, repeat_sound}

pub shrinks : {T K A : Type 0} (p : Rule T K A) (s : List T) (b : A) (r : List T) → read p s ≡ Ok (b, r) → length r ≤ length s
shrinks (Gives a) s b r e = let k = ap length (rest_is e) in omega arith
shrinks (Token f k) [] b r e = absurd cc
shrinks {T} {K} {A} (Token f k) (x ∷ s) b r e =
    let h = judge_ok (f x) (λ a. Ok (a, s)) (λ j. (j, x ∷ s)) (b, r) e in
    let l = ap length (rest_is {T = T} {K = K} {A = A} h.2) in omega arith
shrinks (Peek f k) [] b r e = absurd cc
shrinks {T} {K} {A} (Peek f k) (x ∷ s) b r e =
    let h = judge_ok (f x) (λ a. Ok (a, x ∷ s)) (λ j. (j, x ∷ s)) (b, r) e in
    let l = ap length (rest_is {T = T} {K = K} {A = A} h.2) in omega arith
shrinks (Then p g) s b r e =
    let t = and_then_ok (read p s) (λ a m. read (g a) m) (b, r) e in
    let i = shrinks p s t.0 t.1 t.2 in
    let j = shrinks (g t.0) t.1 b r t.3 in
    omega arith
shrinks (Many f g u) s b r e = repeat_shrinks f (λ w a m. read (g w a) m) (λ w a m v q h. shrinks (g w a) m v q h)
    (length s) u s b r e
shrinks (Choice f g p) s b r e =
    elim (choose_ok f s (λ a m. read (g a) m) (read p s) (b, r) e) [
      | inl (x, a, m, is, fits, h) ↦ (let i = shrinks (g a) m b r h in let k = ap length is in omega arith)
      | inr h ↦ shrinks p s b r h.1
    ]
shrinks {T} {K} {A} (Last f a) [] b r e = let l = ap length (rest_is {T = T} {K = K} {A = A} e) in omega arith
shrinks (Last f a) (x ∷ s) b r e = absurd cc
shrinks (Marked h p) s b r e = shrinks p s b r (marked_ok h (read p s) (b, r) e)

pub parts_shrink : {T K A S : Type 0} (g : S → A → Rule T K S) → Shrinks (λ w a m. read (g w a) m)
parts_shrink g = λ w a m v q h. shrinks (g w a) m v q h

pub complete : {T K A : Type 0} (p : Rule T K A) (s : List T) (b : A) (r : List T) → Takes p s b r → read p s ≡ Ok (b, r)
complete (Gives a) s b r (e, i) = ok_pair e i
complete (Token f k) s b r (x, e, fits) = rw e (rw fits refl)
complete {T} {K} {A} (Peek f k) s b r (x, m, e, fits, i) = rw (sym i) (rw e (rw fits refl))
complete (Then p g) s b r (a, m, t, i) = and_then_at (read p s) (λ a m. read (g a) m) a m (complete p s a m t)
    ∙ complete (g a) m b r i
complete (Many f g u) s b r (n, t, h) =
    reaches f (λ w a m. read (g w a) m) (parts_shrink g) (λ w a m. Takes (g w a) m) (λ w a m v q i. complete (g w a) m v q i) n u
    s b r t
    ∙ ends f (λ w a m. read (g w a) m) (parts_shrink g) b r h
complete (Choice f g p) s b r (inl (x, a, m, e, fits, t)) =
    rw e (choose_fits f x m a (λ a m. read (g a) m) (read p (x ∷ m)) fits ∙ complete (g a) m b r t)
complete (Choice f g p) s b r (inr (h, t)) = choose_stops f s (λ a m. read (g a) m) (read p s) h ∙ complete p s b r t
complete (Last f a) s b r (e, i, j) = rw i (ok_pair e (sym j))
complete (Marked h p) s b r t = ap (marked h) (complete p s b r t)

pub sound : {T K A : Type 0} (p : Rule T K A) (s : List T) (b : A) (r : List T) → read p s ≡ Ok (b, r) → Takes p s b r
sound (Gives a) s b r e = (value_is e, rest_is e)
sound (Token f k) [] b r e = absurd cc
sound {T} {K} {A} (Token f k) (x ∷ s) b r e =
    let h = judge_ok (f x) (λ a. Ok (a, s)) (λ j. (j, x ∷ s)) (b, r) e in
    (x, ap (λ (m : List T). x ∷ m) (rest_is {T = T} {K = K} {A = A} h.2), h.1 ∙ ap Fits (value_is {T = T} {K = K} {A = A} h.2))
sound (Peek f k) [] b r e = absurd cc
sound {T} {K} {A} (Peek f k) (x ∷ s) b r e =
    let h = judge_ok (f x) (λ a. Ok (a, x ∷ s)) (λ j. (j, x ∷ s)) (b, r) e in
    (x, s, refl, h.1 ∙ ap Fits (value_is {T = T} {K = K} {A = A} h.2), rest_is {T = T} {K = K} {A = A} h.2)
sound (Then p g) s b r e =
    let t = and_then_ok (read p s) (λ a m. read (g a) m) (b, r) e in
    (t.0, t.1, sound p s t.0 t.1 t.2, sound (g t.0) t.1 b r t.3)
sound (Many f g u) s b r e =
    repeat_sound f (λ w a m. read (g w a) m) (parts_shrink g) (λ w a m. Takes (g w a) m) (λ w a m v q i. sound (g w a) m v q i)
    (length s) u s b r (omega arith) e
sound (Choice f g p) s b r e =
    elim (choose_ok f s (λ a m. read (g a) m) (read p s) (b, r) e) [
      | inl (x, a, m, is, fits, h) ↦ inl (x, a, m, is, fits, sound (g a) m b r h)
      | inr h ↦ inr (h.0, sound p s b r h.1)
    ]
sound {T} {K} {A} (Last f a) [] b r e = (value_is {T = T} {K = K} {A = A} e, refl, sym (rest_is {T = T} {K = K} {A = A} e))
sound (Last f a) (x ∷ s) b r e = absurd cc
sound (Marked h p) s b r e = sound p s b r (marked_ok h (read p s) (b, r) e)
