-- The marks of a loose reading are the tokens that break strict rules, and what follows for the strict reading.
use Rattle.std.proofs.Common.{◌≡◌, ℕ, zero, suc, ◌≤◌, ◌<◌, List, [], ◌∷◌, ◌++◌, length, Option, Some, None, Ok, Err, ◌⊎◌, inl}
use Rattle.std.proofs.Common.{inr, refl, sym, ap, subst, ◌∙◌, arith, length-append, append_assoc}
use Rattle.grammar_rules.specs.Rule.{Rule, Gives, Token, Peek, Then, Many, Choice, Last, Marked, Verdict, Fits, Foul, Misfit}
use Rattle.grammar_rules.specs.Rule.{Times, Takes, Refuses, Front}
use Rattle.grammar_rules.specs.Reading.{Outcome, read}
use Rattle.grammar_rules.specs.Loose.{lenient_first, loose, IsFoulFirst, Fouls, IsClean, IsFirstFoul}
use Rattle.grammar_rules.specs.Laws.{IsStricterThanLoose, FoulsInFronts}
use Rattle.grammar_rules.proofs.Steps.{rest_of}
use Rattle.grammar_rules.proofs.Turns.{Shrinks}
use Rattle.grammar_rules.proofs.Exact.{parts_shrink, complete, sound}
use Rattle.grammar_rules.proofs.Refusals.{refuses, refused}
use Rattle.grammar_rules.proofs.Fronts.{UsesUp, ends_front}
use Rattle.grammar_rules.proofs.Local.{LeavesSome, cons_or_nil, local}
use Rattle.grammar_rules.proofs.Places.{Suffix, suffix_trans, suffix, rest-extended}
use Rattle.grammar_rules.proofs.Marks.{after, mark_of, first_marks, turn_marks, renamed, marks, first_or, splits, Falls, falls}

abbrev pub Among : {M : Type 0} → M → List M → Type 0
Among z [] = ⊥
Among z (y ∷ ys) = (y ≡ z) ⊎ Among z ys

among_left : {M : Type 0} (z : M) (xs ys : List M) → Among z xs → Among z (xs ++ ys)
among_left z [] ys h = absurd h
among_left z (x ∷ xs) ys (inl e) = inl e
among_left z (x ∷ xs) ys (inr h) = inr (among_left z xs ys h)

among_right : {M : Type 0} (z : M) (xs ys : List M) → Among z ys → Among z (xs ++ ys)
among_right z [] ys h = h
among_right z (x ∷ xs) ys h = inr (among_right z xs ys h)

among_either : {M : Type 0} (z : M) (xs ys : List M) → Among z (xs ++ ys) → Among z xs ⊎ Among z ys
among_either z [] ys h = inr h
among_either z (x ∷ xs) ys (inl e) = inl (inl e)
among_either z (x ∷ xs) ys (inr h) = elim (among_either z xs ys h) [ inl i ↦ inl (inr i) | inr i ↦ inr i ]

among_renamed : {T J K : Type 0} (h : J → K) (j : J) (m : List T) (ms : List (J × List T)) → Among (j, m) ms
    → Among (h j, m) (renamed h ms)
among_renamed h j m [] i = i
among_renamed {T} {J} {K} h j m (z ∷ zs) (inl e) = inl (ap (λ (y : J × List T). (h y.0, y.1)) e)
among_renamed h j m (z ∷ zs) (inr i) = inr (among_renamed h j m zs i)

renamed_among : {T J K : Type 0} (h : J → K) (k : K) (m : List T) (ms : List (J × List T)) → Among (k, m) (renamed h ms) → (j : J)
    × Among (j, m) ms × (h j ≡ k)
renamed_among h k m [] i = absurd i
renamed_among {T} {J} {K} h k m (z ∷ zs) (inl e) =
    (z.0, inl (ap (λ (n : List T). (z.0, n)) (ap (λ (y : K × List T). y.1) e)), ap (λ (y : K × List T). y.0) e)
renamed_among h k m (z ∷ zs) (inr i) = let r = renamed_among h k m zs i in (r.0, inr r.1, r.2)

-- a part that the loose rule takes has its marks
taken_marked : {T K A : Type 0} (v : Option (Verdict A K)) (z : K × List T) (m : List T) (next : A
    → List (K × List T)) (other : List (K × List T)) (a : A) →
    lenient_first v ≡ Some (Fits a) → Among z (next a) → Among z (first_marks v m next other)
taken_marked None z m next other a e h = absurd cc
taken_marked {T} {K} {A} (Some (Fits b)) z m next other a e h =
    subst (λ (c : A). Among z (next c)) (sym (let i : b ≡ a = cc in i)) h
taken_marked {T} {K} {A} (Some (Foul k b)) z m next other a e h =
    inr (subst (λ (c : A). Among z (next c)) (sym (let i : b ≡ a = cc in i)) h)
taken_marked (Some (Misfit k)) z m next other a e h = absurd cc

foul_marked : {T K A : Type 0} (f : T → Option (Verdict A K)) (x : T) (r m : List T) (k : K) (next : A
    → List (K × List T)) (other : List (K × List T)) →
    x ∷ r ≡ m → IsFoulFirst f (x ∷ r) k → Among (k, m) (first_marks (f x) (x ∷ r) next other)
foul_marked {T} {K} {A} f x r m k next other e (a, i) = rw i (inl (ap (λ (n : List T). (k, n)) e))

none_in : {T : Type 0} (x : T) (s m : List T) → length s ≤ 0 → s ≡ x ∷ m → ⊥
none_in x s m h e = let k = ap length e in absurd (omega arith)

-- the next turn takes its token, or has a mark behind it
abbrev pub FoulTurn : {T K A S : Type 0} → (S → T → Option (Verdict A K)) → (S → A → List T → K → List T → Type 0) → S → List T
    → K → List T → Type 0
FoulTurn {T} {K} {A} f F v r k m =
    ((r ≡ m) × IsFoulFirst (f v) r k)
    ⊎ ((x : T) × (a : A) × (q : List T) × (r ≡ x ∷ q) × (lenient_first (f v x) ≡ Some (Fits a)) × F v a q k m)

here_marked : {T K A S : Type 0} (f : S → T → Option (Verdict A K)) (go : S → A → List T → Outcome T K S) (mk : S → A → List T
    → List (K × List T)) (F : S → A → List T → K → List T → Type 0) →
    ((w : S) (a : A) (q : List T) (k : K) (m : List T) → F w a q k m → Among (k, m) (mk w a q)) →
    (n : ℕ) (v : S) (r : List T) (k : K) (m : List T) → length r ≤ n → FoulTurn f F v r k m
    → Among (k, m) (turn_marks f mk go n v r)
here_marked f go mk F all n v [] k m h (inl (e, c)) = absurd c
here_marked f go mk F all zero v (x ∷ r) k m h (inl (e, c)) = absurd (omega arith)
here_marked f go mk F all (suc n) v (x ∷ r) k m h (inl (e, c)) =
    foul_marked (f v) x r m k (λ a. mk v a r ++ after (go v a r) (λ v q. turn_marks f mk go n v q)) [] e c
here_marked f go mk F all zero v r k m h (inr (x, a, q, e, fits, c)) = absurd (none_in x r q h e)
here_marked f go mk F all (suc n) v r k m h (inr (x, a, q, e, fits, c)) =
    rw e
    (taken_marked (f v x) (k, m) (x ∷ q) (λ a. mk v a q ++ after (go v a q) (λ v q. turn_marks f mk go n v q)) [] a fits
    (among_left (k, m) (mk v a q) (after (go v a q) (λ v q. turn_marks f mk go n v q)) (all v a q k m c)))

turn_marked : {T K A S : Type 0} (f : S → T → Option (Verdict A K)) (go : S → A → List T → Outcome T K S) (mk : S → A → List T
    → List (K × List T)) (G : S → A → List T → S → List T → Type 0) (F : S → A → List T → K → List T → Type 0) →
    Shrinks go → ((w : S) (a : A) (m : List T) (v : S) (q : List T) → G w a m v q → go w a m ≡ Ok (v, q)) →
    ((w : S) (a : A) (q : List T) (k : K) (m : List T) → F w a q k m → Among (k, m) (mk w a q)) →
    (n t : ℕ) (u : S) (s : List T) (v : S) (r : List T) (k : K) (m : List T) → length s ≤ n
    → Times (λ w x. lenient_first (f w x)) G t u s v r → FoulTurn f F v r k m →
    Among (k, m) (turn_marks f mk go n u s)
turn_marked {T} {K} {A} {S} f go mk G F sh all marked n zero u s v r k m h (e, i) c =
    subst (λ (w : S). Among (k, m) (turn_marks f mk go n w s)) (sym e)
    (subst (λ (q : List T). Among (k, m) (turn_marks f mk go n v q)) (sym i)
    (here_marked f go mk F marked n v r k m (subst (λ (q : List T). length q ≤ n) i h) c))
turn_marked f go mk G F sh all marked zero (suc t) u s v r k m h (x, a, m', w, q, is, fits, one, more) c =
    absurd (none_in x s m' h is)
turn_marked f go mk G F sh all marked (suc n) (suc t) u s v r k m h (x, a, m', w, q, is, fits, one, more) c =
    let e = all u a m' w q one in
    let b = sh u a m' w q e in
    let l = ap length is in
    let i = turn_marked f go mk G F sh all marked n t w q v r k m (omega arith) more c in
    rw is
    (taken_marked (f u x) (k, m) (x ∷ m') (λ a. mk u a m' ++ after (go u a m') (λ v q. turn_marks f mk go n v q)) [] a fits
    (among_right (k, m) (mk u a m') (after (go u a m') (λ v q. turn_marks f mk go n v q)) (rw e i)))

pub marked_foul : {T K A : Type 0} (p : Rule T K A) (s : List T) (k : K) (m : List T) → Fouls p s k m → Among (k, m) (marks p s)
marked_foul (Gives a) s k m c = absurd c
marked_foul (Token f j) [] k m (e, c) = absurd c
marked_foul {T} (Token f j) (x ∷ s) k m (e, (a, i)) = rw i (inl (ap (λ (n : List T). (k, n)) e))
marked_foul (Peek f j) s k m c = absurd c
marked_foul (Then p g) s k m (inl c) =
    among_left (k, m) (marks p s) (after (read (loose p) s) (λ a r. marks (g a) r)) (marked_foul p s k m c)
marked_foul (Then p g) s k m (inr (a, r, t, c)) =
    among_right (k, m) (marks p s) (after (read (loose p) s) (λ a r. marks (g a) r))
    (rw (complete (loose p) s a r t) (marked_foul (g a) r k m c))
marked_foul (Many f g u) s k m (n, v, r, t, c) =
    turn_marked f (λ w a r. read (loose (g w a)) r) (λ w a r. marks (g w a) r) (λ w a q. Takes (loose (g w a)) q)
    (λ w a q k m. Fouls (g w a) q k m)
    (parts_shrink (λ w a. loose (g w a))) (λ w a m v q i. complete (loose (g w a)) m v q i)
    (λ w a q k m i. marked_foul (g w a) q k m i)
    (length s) n u s v r k m (omega arith) t c
marked_foul (Choice f g p) [] k m (inl (e, c)) = absurd c
marked_foul (Choice f g p) (x ∷ s) k m (inl (e, c)) = foul_marked f x s m k (λ a. marks (g a) s) (marks p (x ∷ s)) e c
marked_foul (Choice f g p) s k m (inr (inl (x, a, q, e, fits, c))) =
    rw e (taken_marked (f x) (k, m) (x ∷ q) (λ a. marks (g a) q) (marks p (x ∷ q)) a fits (marked_foul (g a) q k m c))
marked_foul (Choice f g p) [] k m (inr (inr (h, c))) = marked_foul p [] k m c
marked_foul (Choice f g p) (x ∷ s) k m (inr (inr (h, c))) = rw h (marked_foul p (x ∷ s) k m c)
marked_foul (Last f a) s k m c = absurd c
marked_foul (Marked h p) s k m (j, c, e) = rw (sym e) (among_renamed h j m (marks p s) (marked_foul p s j m c))

mark_fouls : {T K A : Type 0} (v : Verdict A K) (n m : List T) (k : K) → Among (k, m) (mark_of v n) → (n ≡ m) × (a : A)
    × (v ≡ Foul k a)
mark_fouls (Fits a) n m k h = absurd h
mark_fouls {T} {K} {A} (Foul j a) n m k (inl e) = (ap (λ (y : K × List T). y.1) e, a, ap (λ (y : K × List T). Foul y.0 a) e)
mark_fouls (Foul j a) n m k (inr h) = absurd h
mark_fouls (Misfit j) n m k h = absurd h

first_fouls : {T K A : Type 0} (v : Option (Verdict A K)) (n m : List T) (k : K) (next : A
    → List (K × List T)) (other : List (K × List T)) →
    Among (k, m) (first_marks v n next other)
    → ((n ≡ m) × (a : A) × (v ≡ Some (Foul k a)))
    ⊎ (((a : A) × (lenient_first v ≡ Some (Fits a)) × Among (k, m) (next a)) ⊎ ((v ≡ None) × Among (k, m) other))
first_fouls None n m k next other h = inr (inr (refl, h))
first_fouls (Some (Fits a)) n m k next other h = inr (inl (a, refl, h))
first_fouls {T} {K} {A} (Some (Foul j a)) n m k next other (inl e) =
    inl (ap (λ (y : K × List T). y.1) e, a, ap (λ (y : K × List T). Some (Foul y.0 a)) e)
first_fouls (Some (Foul j a)) n m k next other (inr h) = inr (inl (a, refl, h))
first_fouls (Some (Misfit j)) n m k next other h = absurd h

after_fouls : {T K A M : Type 0} (o : Outcome T K A) (g : A → List T → List M) (z : M) → Among z (after o g) → (a : A)
    × (r : List T) × (o ≡ Ok (a, r)) × Among z (g a r)
after_fouls (Ok p) g z h = (p.0, p.1, refl, h)
after_fouls (Err e) g z h = absurd h

abbrev pub TurnFouls : {T K A S : Type 0} → (S → T → Option (Verdict A K)) → (S → A → List T → S → List T → Type 0)
    → (S → A → List T → K → List T → Type 0) → S → List T → K → List T → Type 0
TurnFouls {T} {K} {A} {S} f G F u s k m = (n : ℕ) × (v : S) × (r : List T) × Times (λ w x. lenient_first (f w x)) G n u s v r
    × FoulTurn f F v r k m

turn_fouls : {T K A S : Type 0} (f : S → T → Option (Verdict A K)) (go : S → A → List T → Outcome T K S) (mk : S → A → List T
    → List (K × List T)) (G : S → A → List T → S → List T → Type 0) (F : S → A → List T → K → List T → Type 0) →
    ((w : S) (a : A) (m : List T) (v : S) (q : List T) → go w a m ≡ Ok (v, q) → G w a m v q) →
    ((w : S) (a : A) (q : List T) (k : K) (m : List T) → Among (k, m) (mk w a q) → F w a q k m) →
    (n : ℕ) (u : S) (s : List T) (k : K) (m : List T) → Among (k, m) (turn_marks f mk go n u s) → TurnFouls f G F u s k m
turn_fouls f go mk G F all marked zero u s k m h = absurd h
turn_fouls f go mk G F all marked (suc n) u [] k m h = absurd h
turn_fouls {T} {K} {A} {S} f go mk G F all marked (suc n) u (x ∷ r) k m h =
    elim (first_fouls (f u x) (x ∷ r) m k (λ a. mk u a r ++ after (go u a r) (λ v q. turn_marks f mk go n v q)) [] h) [
      | inl (e, a, i) ↦ (0, u, x ∷ r, (refl, refl), inl (e, (a, i)))
      | inr (inl (a, fits, i)) ↦
          (elim (among_either (k, m) (mk u a r) (after (go u a r) (λ v q. turn_marks f mk go n v q)) i) [
            | inl j ↦ (0, u, x ∷ r, (refl, refl), inr (x, a, r, refl, fits, marked u a r k m j))
            | inr j ↦
                (let l = after_fouls (go u a r) (λ v q. turn_marks f mk go n v q) (k, m) j in
                let z = turn_fouls f go mk G F all marked n l.0 l.1 k m l.3 in
                (suc z.0, z.1, z.2, (x, a, r, l.0, l.1, refl, fits, all u a r l.0 l.1 l.2, z.3), z.4))
          ])
      | inr (inr (i, j)) ↦ absurd j
    ]

pub fouls_marked : {T K A : Type 0} (p : Rule T K A) (s : List T) (k : K) (m : List T) → Among (k, m) (marks p s) → Fouls p s k m
fouls_marked (Gives a) s k m h = absurd h
fouls_marked (Token f j) [] k m h = absurd h
fouls_marked (Token f j) (x ∷ s) k m h = let i = mark_fouls (f x) (x ∷ s) m k h in (i.0, (i.1, i.2))
fouls_marked (Peek f j) s k m h = absurd h
fouls_marked (Then p g) s k m h =
    elim (among_either (k, m) (marks p s) (after (read (loose p) s) (λ a r. marks (g a) r)) h) [
      | inl i ↦ inl (fouls_marked p s k m i)
      | inr i ↦
          (let l = after_fouls (read (loose p) s) (λ a r. marks (g a) r) (k, m) i in
          inr (l.0, l.1, sound (loose p) s l.0 l.1 l.2, fouls_marked (g l.0) l.1 k m l.3))
    ]
fouls_marked (Many f g u) s k m h =
    turn_fouls f (λ w a r. read (loose (g w a)) r) (λ w a r. marks (g w a) r) (λ w a q. Takes (loose (g w a)) q)
    (λ w a q k m. Fouls (g w a) q k m)
    (λ w a q v r i. sound (loose (g w a)) q v r i) (λ w a q k m i. fouls_marked (g w a) q k m i) (length s) u s k m h
fouls_marked (Choice f g p) [] k m h = inr (inr (tt, fouls_marked p [] k m h))
fouls_marked (Choice f g p) (x ∷ s) k m h =
    elim (first_fouls (f x) (x ∷ s) m k (λ a. marks (g a) s) (marks p (x ∷ s)) h) [
      | inl (e, a, i) ↦ inl (e, (a, i))
      | inr (inl (a, fits, i)) ↦ inr (inl (x, a, s, refl, fits, fouls_marked (g a) s k m i))
      | inr (inr (i, j)) ↦ inr (inr (i, fouls_marked p (x ∷ s) k m j))
    ]
fouls_marked (Last f a) s k m h = absurd h
fouls_marked (Marked h p) s k m i = let r = renamed_among h k m (marks p s) i in (r.0, fouls_marked p s r.0 m r.1, r.2)

none_among : {T K : Type 0} (zs : List (K × List T)) → ((k : K) (m : List T) → Among (k, m) zs → ⊥) → zs ≡ []
none_among [] h = refl
none_among (z ∷ zs) h = absurd (h z.0 z.1 (inl refl))

clean : {T K A : Type 0} (p : Rule T K A) (s : List T) → marks p s ≡ [] → IsClean p s
clean {T} {K} p s e = λ k m h. subst (λ (zs : List (K × List T)). Among (k, m) zs) e (marked_foul p s k m h)

no_marks : {T K A : Type 0} (p : Rule T K A) (s : List T) → IsClean p s → marks p s ≡ []
no_marks p s h = none_among (marks p s) (λ k m i. h k m (fouls_marked p s k m i))

ok_or : {T K A : Type 0} (zs : List (K × List T)) (o : Outcome T K A) (y : A × List T) → first_or zs o ≡ Ok y → (zs ≡ [])
    × (o ≡ Ok y)
ok_or [] o y e = (refl, e)
ok_or (z ∷ zs) o y e = absurd cc

abbrev pub IsHead : {T K : Type 0} → K × List T → List (K × List T) → Type 0
IsHead z [] = ⊥
IsHead z (y ∷ ys) = y ≡ z

err_or : {T K A : Type 0} (zs : List (K × List T)) (o : Outcome T K A) (y : K × List T) → first_or zs o ≡ Err y → IsHead y zs
    ⊎ ((zs ≡ []) × (o ≡ Err y))
err_or [] o y e = inr (refl, e)
err_or {T} {K} {A} (z ∷ zs) o y e = inl (err_is e)
  where
    err_is : {z y : K × List T} → ◌≡◌ {A = Outcome T K A} (Err z) (Err y) → z ≡ y
    err_is e = cc

below : {T K : Type 0} (top low : ℕ) (zs : List (K × List T)) (z : K × List T) → Falls top low zs → Among z zs
    → (length z.1 < top) × (low < length z.1)
below top low [] z f h = absurd h
below {T} {K} top low (y ∷ ys) z (i, j, l) (inl e) = subst (λ (y : K × List T). (length y.1 < top) × (low < length y.1)) e (i, j)
below top low (y ∷ ys) z (i, j, l) (inr h) = let b = below (length y.1) low ys z l h in (omega arith, b.1)

head_among : {T K : Type 0} (z : K × List T) (zs : List (K × List T)) → IsHead z zs → Among z zs
head_among z [] h = absurd h
head_among z (y ∷ ys) h = inl h

head_first : {T K : Type 0} (top low : ℕ) (z y : K × List T) (zs : List (K × List T)) → Falls top low zs → IsHead z zs
    → Among y zs → length y.1 ≤ length z.1
head_first top low z y [] f h i = absurd h
head_first {T} {K} top low z y (x ∷ xs) f h (inl e) = let l = ap (λ (y : K × List T). length y.1) (sym e ∙ h) in omega arith
head_first {T} {K} top low z y (x ∷ xs) (i, j, l) h (inr c) =
    let b = below (length x.1) low xs y l c in let e = ap (λ (y : K × List T). length y.1) h in omega arith

first_head : {T K : Type 0} (top low : ℕ) (z : K × List T) (zs : List (K × List T)) → Falls top low zs → Among z zs →
    ((y : K × List T) → Among y zs → length y.1 ≤ length z.1) → IsHead z zs
first_head top low z [] f h i = absurd h
first_head top low z (x ∷ xs) f (inl e) i = e
first_head top low z (x ∷ xs) (a, b, l) (inr h) i =
    let c = below (length x.1) low xs z l h in let d = i x (inl refl) in absurd (omega arith)

same_length : {T K : Type 0} (top low : ℕ) (z y : K × List T) (zs : List (K × List T)) → Falls top low zs → Among z zs
    → Among y zs → length y.1 ≡ length z.1 → z ≡ y
same_length top low z y [] f h i e = absurd h
same_length top low z y (x ∷ xs) f (inl h) (inl i) e = sym h ∙ i
same_length {T} {K} top low z y (x ∷ xs) (a, b, l) (inl h) (inr i) e =
    let c = below (length x.1) low xs y l i in let d = ap (λ (y : K × List T). length y.1) h in absurd (omega arith)
same_length {T} {K} top low z y (x ∷ xs) (a, b, l) (inr h) (inl i) e =
    let c = below (length x.1) low xs z l h in let d = ap (λ (y : K × List T). length y.1) i in absurd (omega arith)
same_length top low z y (x ∷ xs) (a, b, l) (inr h) (inr i) e = same_length (length x.1) low z y xs l h i e

pub is_stricter_than_loose : {T K A : Type 0} (p : Rule T K A) → IsStricterThanLoose p
is_stricter_than_loose {T} {K} {A} p = record {
  takes = λ s a r. (takes_loosely s a r, takes_strictly s a r);
  refuses = λ s k m. (refuses_loosely s k m, refuses_strictly s k m);
}
  where
    takes_loosely : (s : List T) (a : A) (r : List T) → Takes p s a r → Takes (loose p) s a r × IsClean p s
    takes_loosely s a r h =
        let i = ok_or (marks p s) (read (loose p) s) (a, r) (sym (splits p s) ∙ complete p s a r h) in
        (sound (loose p) s a r i.1, clean p s i.0)

    takes_strictly : (s : List T) (a : A) (r : List T) → Takes (loose p) s a r × IsClean p s → Takes p s a r
    takes_strictly s a r (h, i) =
        sound p s a r
        (splits p s ∙ ap (λ (zs : List (K × List T)). first_or zs (read (loose p) s)) (no_marks p s i)
        ∙ complete (loose p) s a r h)

    is_first : (s : List T) (k : K) (m : List T) → IsHead (k, m) (marks p s) → IsFirstFoul p s k m
    is_first s k m h = (
      fouls_marked p s k m (head_among (k, m) (marks p s) h),
      λ j n i. head_first (suc (length s)) (length (rest_of (read (loose p) s))) (k, m) (j, n) (marks p s) (falls p s) h
          (marked_foul p s j n i),
    )

    refuses_loosely : (s : List T) (k : K) (m : List T) → Refuses p s k m → IsFirstFoul p s k m
        ⊎ (IsClean p s × Refuses (loose p) s k m)
    refuses_loosely s k m h =
        elim (err_or (marks p s) (read (loose p) s) (k, m) (sym (splits p s) ∙ refuses p s k m h))
        [ inl i ↦ inl (is_first s k m i) | inr i ↦ inr (clean p s i.0, refused (loose p) s k m i.1) ]

    head_refused : (s : List T) (k : K) (m : List T) (zs : List (K × List T)) → IsHead (k, m) zs
        → first_or {A = A} zs (read (loose p) s) ≡ Err (k, m)
    head_refused s k m [] h = absurd h
    head_refused s k m (z ∷ zs) h = ap Err h

    refuses_strictly : (s : List T) (k : K) (m : List T) → IsFirstFoul p s k m ⊎ (IsClean p s × Refuses (loose p) s k m)
        → Refuses p s k m
    refuses_strictly s k m (inl (h, i)) =
        refused p s k m
        (splits p s
        ∙ head_refused s k m (marks p s)
        (first_head (suc (length s)) (length (rest_of (read (loose p) s))) (k, m) (marks p s) (falls p s) (marked_foul p s k m h)
        (λ y j. i y.0 y.1 (fouls_marked p s y.0 y.1 j))))
    refuses_strictly s k m (inr (h, i)) =
        refused p s k m
        (splits p s ∙ ap (λ (zs : List (K × List T)). first_or zs (read (loose p) s)) (no_marks p s h)
        ∙ refuses (loose p) s k m i)

taken_suffix : {T K A : Type 0} (p : Rule T K A) (s : List T) (a : A) (r : List T) → Takes p s a r → Suffix s r
taken_suffix {T} p s a r h = subst (λ (q : List T). Suffix s q) (ap rest_of (complete p s a r h)) (suffix p s)

times_suffix : {T K A S : Type 0} (f : S → T → Option (Verdict A K)) (G : S → A → List T → S → List T → Type 0) →
    ((w : S) (a : A) (m : List T) (v : S) (q : List T) → G w a m v q → Suffix m q) →
    (n : ℕ) (u : S) (s : List T) (v : S) (r : List T) → Times f G n u s v r → Suffix s r
times_suffix f G all zero u s v r (e, i) = ([], i)
times_suffix f G all (suc n) u s v r (x, a, m, w, q, is, fits, one, more) =
    suffix_trans s m r (x ∷ [], is) (suffix_trans m q r (all u a m w q one) (times_suffix f G all n w q v r more))

pub foul_suffix : {T K A : Type 0} (p : Rule T K A) (s : List T) (k : K) (m : List T) → Fouls p s k m → Suffix s m
foul_suffix (Gives a) s k m c = absurd c
foul_suffix (Token f j) s k m (e, c) = ([], e)
foul_suffix (Peek f j) s k m c = absurd c
foul_suffix (Then p g) s k m (inl c) = foul_suffix p s k m c
foul_suffix (Then p g) s k m (inr (a, r, t, c)) = suffix_trans s r m (taken_suffix (loose p) s a r t) (foul_suffix (g a) r k m c)
foul_suffix (Many f g u) s k m (n, v, r, t, c) =
    suffix_trans s r m
    (times_suffix (λ w x. lenient_first (f w x)) (λ w a q. Takes (loose (g w a)) q)
    (λ w a q v r i. taken_suffix (loose (g w a)) q v r i) n u s v r t)
    (elim c [ inl i ↦ ([], i.0) | inr (x, a, q, e, fits, i) ↦ suffix_trans r q m (x ∷ [], e) (foul_suffix (g v a) q k m i) ])
foul_suffix (Choice f g p) s k m (inl (e, c)) = ([], e)
foul_suffix (Choice f g p) s k m (inr (inl (x, a, q, e, fits, c))) = suffix_trans s q m (x ∷ [], e) (foul_suffix (g a) q k m c)
foul_suffix (Choice f g p) s k m (inr (inr (h, c))) = foul_suffix p s k m c
foul_suffix (Last f a) s k m c = absurd c
foul_suffix (Marked h p) s k m (j, c, e) = foul_suffix p s j m c

-- tokens up to and with the first of some that a reading goes past are used up
used_past : {T K A : Type 0} (p : Rule T K A) (s before : List T) (x : T) (more : List T) → s ≡ before ++ x ∷ more
    → length (rest_of (read p s)) ≤ length more →
    UsesUp (read p (before ++ x ∷ []))
used_past {T} {K} {A} p s before x more e h =
    elim (cons_or_nil (rest_of (read p (before ++ x ∷ [])))) [
      | inl c ↦ (
          let i : rest_of (read p ((before ++ x ∷ []) ++ more)) ≡ rest_of (read p (before ++ x ∷ [])) ++ more =
          ap rest_of (local p (before ++ x ∷ []) more c) ∙ rest-extended more (read p (before ++ x ∷ [])) in
          let j : s ≡ (before ++ x ∷ []) ++ more = e ∙ sym (append_assoc before (x ∷ []) more) in
          let k = ap length (ap (λ (q : List T). rest_of (read p q)) j ∙ i) in
          let l = length-append (rest_of (read p (before ++ x ∷ []))) more in
          absurd (some_left (rest_of (read p (before ++ x ∷ []))) c (omega arith)))
      | inr i ↦ i
    ]
  where
    some_left : (r : List T) → LeavesSome {T = T} {K = K} {A = List T} (Ok (r, r)) → length r ≤ 0 → ⊥
    some_left [] c i = c
    some_left (y ∷ r) c i = absurd (omega arith)

pub fouls_in_fronts : {T K A : Type 0} (p : Rule T K A) → FoulsInFronts p
fouls_in_fronts {T} {K} {A} p = record {
  front = λ s k m h. in_front s k m h (foul_suffix p s k m h);
  earlier = λ s k j m n h i.
      (let b = bounds s k m h in let e = ap length (ap rest_of (refuses (loose p) s j n i)) in omega arith);
  one_kind = λ s k j m n h i e.
      (let z : (k, m) ≡ (j, n) =
      same_length (suc (length s)) (length (rest_of (read (loose p) s))) (k, m) (j, n) (marks p s) (falls p s)
      (marked_foul p s k m h)
      (marked_foul p s j n i) (sym e) in
      (ap (λ (z : K × List T). z.0) z, ap (λ (z : K × List T). z.1) z));
}
  where
    bounds : (s : List T) (k : K) (m : List T) → Fouls p s k m → (length m < suc (length s))
        × (length (rest_of (read (loose p) s)) < length m)
    bounds s k m h = below (suc (length s)) (length (rest_of (read (loose p) s))) (marks p s) (k, m) (falls p s)
        (marked_foul p s k m h)

    in_front : (s : List T) (k : K) (m : List T) → Fouls p s k m → Suffix s m →
        (before : List T) × (x : T) × (more : List T) × (s ≡ before ++ x ∷ more) × (m ≡ x ∷ more)
        × Front (loose p) (before ++ x ∷ [])
    in_front s k [] h (before, e) = let b = bounds s k [] h in absurd (omega arith)
    in_front s k (x ∷ more) h (before, e) =
        let b = bounds s k (x ∷ more) h in
        (before, x, more, e, refl, ends_front (loose p) (before ++ x ∷ []) (used_past (loose p) s before x more e (omega arith)))
