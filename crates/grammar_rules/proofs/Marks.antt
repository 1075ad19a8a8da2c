-- The tokens that break strict rules, in the order in which a loose reading takes them.
use Rattle.std.proofs.Common.{◌≡◌, ℕ, zero, suc, ◌≤◌, ◌<◌, List, [], ◌∷◌, ◌++◌, length, Option, Some, None, Ok, Err, refl, ap}
use Rattle.std.proofs.Common.{subst, arith}
use Rattle.grammar_rules.specs.Rule.{Rule, Gives, Token, Peek, Then, Many, Choice, Last, Marked, Verdict, Fits, Foul, Misfit}
use Rattle.grammar_rules.specs.Reading.{Outcome, and_then, marked, judge, judge_first, repeat, read}
use Rattle.grammar_rules.specs.Loose.{lenient, lenient_first, loose}
use Rattle.grammar_rules.proofs.Steps.{rest_of}
use Rattle.grammar_rules.proofs.Local.{AtMost, then_within, repeat_within, within}

-- what follows a phrase, and nothing after a refusal
abbrev pub after : {T K A M : Type 0} → Outcome T K A → (A → List T → List M) → List M
after (Ok p) g = g p.0 p.1
after (Err e) g = []

abbrev pub mark_of : {T K A : Type 0} → Verdict A K → List T → List (K × List T)
mark_of (Fits a) m = []
mark_of (Foul k a) m = (k, m) ∷ []
mark_of (Misfit k) m = []

abbrev pub first_marks : {T K A : Type 0} → Option (Verdict A K) → List T → (A → List (K × List T)) → List (K × List T)
    → List (K × List T)
first_marks None m next other = other
first_marks (Some (Fits a)) m next other = next a
first_marks (Some (Foul k a)) m next other = (k, m) ∷ next a
first_marks (Some (Misfit k)) m next other = []

abbrev pub turn_marks : {T K A S : Type 0} → (S → T → Option (Verdict A K)) → (S → A → List T → List (K × List T))
    → (S → A → List T → Outcome T K S) → ℕ → S → List T → List (K × List T)
turn_marks f mk go zero u s = []
turn_marks f mk go (suc n) u [] = []
turn_marks f mk go (suc n) u (x ∷ r) =
    first_marks (f u x) (x ∷ r) (λ a. mk u a r ++ after (go u a r) (λ v q. turn_marks f mk go n v q)) []

abbrev pub renamed : {T J K : Type 0} → (J → K) → List (J × List T) → List (K × List T)
renamed h [] = []
renamed h (z ∷ zs) = (h z.0, z.1) ∷ renamed h zs

abbrev pub marks : {T K A : Type 0} → Rule T K A → List T → List (K × List T)
marks (Gives a) s = []
marks (Token f k) [] = []
marks (Token f k) (x ∷ r) = mark_of (f x) (x ∷ r)
marks (Peek f k) s = []
marks (Then p g) s = marks p s ++ after (read (loose p) s) (λ a r. marks (g a) r)
marks (Many f g u) s = turn_marks f (λ w a r. marks (g w a) r) (λ w a r. read (loose (g w a)) r) (length s) u s
marks (Choice f g p) [] = marks p []
marks (Choice f g p) (x ∷ r) = first_marks (f x) (x ∷ r) (λ a. marks (g a) r) (marks p (x ∷ r))
marks (Last f a) s = []
marks (Marked h p) s = renamed h (marks p s)

-- the first mark is the refusal, where there is one
abbrev pub first_or : {T K A : Type 0} → List (K × List T) → Outcome T K A → Outcome T K A
first_or [] o = o
first_or (z ∷ zs) o = Err z

judged_splits : {T K A : Type 0} (v : Verdict A K) (x : T) (r : List T) →
    ◌≡◌ {A = Outcome T K A} (judge v (λ a. Ok (a, r)) (λ j. Err (j, x ∷ r)))
    (first_or (mark_of v (x ∷ r)) (judge (lenient v) (λ a. Ok (a, r)) (λ j. Err (j, x ∷ r))))
judged_splits (Fits a) x r = refl
judged_splits (Foul k a) x r = refl
judged_splits (Misfit k) x r = refl

then_splits : {T K A B : Type 0} (o l : Outcome T K A) (ms : List (K × List T)) (g h : A → List T → Outcome T K B) (mg : A
    → List T → List (K × List T)) →
    o ≡ first_or ms l → ((a : A) (r : List T) → g a r ≡ first_or (mg a r) (h a r)) →
    and_then o g ≡ first_or (ms ++ after l mg) (and_then l h)
then_splits o (Ok p) [] g h mg e i = rw e (i p.0 p.1)
then_splits o (Err z) [] g h mg e i = rw e refl
then_splits o l (z ∷ zs) g h mg e i = rw e refl

first_splits : {T K A B : Type 0} (v : Option (Verdict A K)) (m : List T) (g h : A → Outcome T K B) (mg : A
    → List (K × List T)) (other loosely : Outcome T K B) (mo : List (K × List T)) →
    ((a : A) → g a ≡ first_or (mg a) (h a)) → other ≡ first_or mo loosely →
    judge_first v g (λ k. Err (k, m)) other ≡ first_or (first_marks v m mg mo)
    (judge_first (lenient_first v) h (λ k. Err (k, m)) loosely)
first_splits None m g h mg other loosely mo i e = e
first_splits (Some (Fits a)) m g h mg other loosely mo i e = i a
first_splits (Some (Foul k a)) m g h mg other loosely mo i e = refl
first_splits (Some (Misfit k)) m g h mg other loosely mo i e = refl

marked_splits : {T J K A : Type 0} (h : J → K) (o l : Outcome T J A) (ms : List (J × List T)) → o ≡ first_or ms l
    → marked h o ≡ first_or (renamed h ms) (marked h l)
marked_splits h o l [] e = ap (marked h) e
marked_splits h o l (z ∷ zs) e = rw e refl

repeat_splits : {T K A S : Type 0} (f : S → T → Option (Verdict A K)) (go gl : S → A → List T → Outcome T K S) (mk : S → A
    → List T → List (K × List T)) →
    ((w : S) (a : A) (m : List T) → go w a m ≡ first_or (mk w a m) (gl w a m)) →
    (n : ℕ) (u : S) (s : List T) → repeat f go n u s ≡ first_or (turn_marks f mk gl n u s)
    (repeat (λ w x. lenient_first (f w x)) gl n u s)
repeat_splits f go gl mk h zero u s = refl
repeat_splits f go gl mk h (suc n) u [] = refl
repeat_splits {T} {K} {A} {S} f go gl mk h (suc n) u (x ∷ r) =
    first_splits (f u x) (x ∷ r) (λ a. and_then (go u a r) (λ w q. repeat f go n w q))
    (λ a. and_then (gl u a r) (λ w q. repeat (λ w x. lenient_first (f w x)) gl n w q))
    (λ a. mk u a r ++ after (gl u a r) (λ w q. turn_marks f mk gl n w q)) (Ok (u, x ∷ r)) (Ok (u, x ∷ r)) []
    (λ a. then_splits (go u a r) (gl u a r) (mk u a r) (λ w q. repeat f go n w q)
    (λ w q. repeat (λ w x. lenient_first (f w x)) gl n w q)
    (λ w q. turn_marks f mk gl n w q) (h u a r) (λ w q. repeat_splits f go gl mk h n w q))
    refl

-- a reading is the loose one, unless it is stopped by the first mark
pub splits : {T K A : Type 0} (p : Rule T K A) (s : List T) → read p s ≡ first_or (marks p s) (read (loose p) s)
splits (Gives a) s = refl
splits (Token f k) [] = refl
splits (Token f k) (x ∷ r) = judged_splits (f x) x r
splits (Peek f k) s = refl
splits (Then p g) s =
    then_splits (read p s) (read (loose p) s) (marks p s) (λ a r. read (g a) r) (λ a r. read (loose (g a)) r)
    (λ a r. marks (g a) r)
    (splits p s) (λ a r. splits (g a) r)
splits (Many f g u) s =
    repeat_splits f (λ w a r. read (g w a) r) (λ w a r. read (loose (g w a)) r) (λ w a r. marks (g w a) r)
    (λ w a r. splits (g w a) r) (length s) u s
splits (Choice f g p) [] = splits p []
splits (Choice f g p) (x ∷ r) =
    first_splits (f x) (x ∷ r) (λ a. read (g a) r) (λ a. read (loose (g a)) r) (λ a. marks (g a) r) (read p (x ∷ r))
    (read (loose p) (x ∷ r)) (marks p (x ∷ r))
    (λ a. splits (g a) r) (splits p (x ∷ r))
splits (Last f a) s = refl
splits (Marked h p) s = marked_splits h (read p s) (read (loose p) s) (marks p s) (splits p s)

-- the marks leave ever fewer tokens: fewer than the first number, and more than the second
abbrev pub Falls : {T K : Type 0} → ℕ → ℕ → List (K × List T) → Type 0
Falls top low [] = Unit {0}
Falls top low (z ∷ zs) = (length z.1 < top) × (low < length z.1) × Falls (length z.1) low zs

pub falls_under : {T K : Type 0} (top higher low : ℕ) (zs : List (K × List T)) → top ≤ higher → Falls top low zs
    → Falls higher low zs
falls_under top higher low [] h i = tt
falls_under top higher low (z ∷ zs) h (i, j, l) = (omega arith, j, l)

pub falls_on : {T K : Type 0} (top mid low : ℕ) (xs ys : List (K × List T)) → mid < top → low ≤ mid → Falls top mid xs
    → Falls (suc mid) low ys → Falls top low (xs ++ ys)
falls_on top mid low [] ys h l i j = falls_under (suc mid) top low ys (omega arith) j
falls_on top mid low (z ∷ xs) ys h l (i, b, c) j = (i, omega arith, falls_on (length z.1) mid low xs ys b l c j)

-- marks of a reading from tokens on: they leave tokens, at most these
abbrev pub FallsFrom : {T K A : Type 0} → List T → Outcome T K A → List (K × List T) → Type 0
FallsFrom s o zs = Falls (suc (length s)) (length (rest_of o)) zs

then_falls : {T K A B : Type 0} (s : List T) (o : Outcome T K A) (g : A → List T → Outcome T K B) (ms : List (K × List T)) (mg : A
    → List T → List (K × List T)) →
    AtMost (length s) o → FallsFrom s o ms → ((a : A) (r : List T) → AtMost (length r) (g a r))
    → ((a : A) (r : List T) → FallsFrom r (g a r) (mg a r)) →
    FallsFrom s (and_then o g) (ms ++ after o mg)
then_falls s (Ok p) g ms mg h i j l =
    let b = j p.0 p.1 in falls_on (suc (length s)) (length p.1) (length (rest_of (g p.0 p.1))) ms (mg p.0 p.1) (omega arith) b i
    (l p.0 p.1)
then_falls s (Err z) g ms mg h i j l = falls_on (suc (length s)) (length z.1) (length z.1) ms [] (omega arith) (omega arith) i tt

first_falls : {T K A B : Type 0} (v : Option (Verdict A K)) (x : T) (r : List T) (g : A → Outcome T K B) (mg : A
    → List (K × List T)) (other : Outcome T K B) (mo : List (K × List T)) →
    ((a : A) → AtMost (length r) (g a)) → ((a : A) → FallsFrom r (g a) (mg a)) → FallsFrom (x ∷ r) other mo →
    FallsFrom (x ∷ r) (judge_first (lenient_first v) g (λ k. Err (k, x ∷ r)) other) (first_marks v (x ∷ r) mg mo)
first_falls None x r g mg other mo w h i = i
first_falls (Some (Fits a)) x r g mg other mo w h i =
    falls_under (suc (length r)) (suc (suc (length r))) (length (rest_of (g a))) (mg a) (omega arith) (h a)
first_falls (Some (Foul k a)) x r g mg other mo w h i = let b = w a in (omega arith, omega arith, h a)
first_falls (Some (Misfit k)) x r g mg other mo w h i = tt

repeat_falls : {T K A S : Type 0} (f : S → T → Option (Verdict A K)) (go : S → A → List T → Outcome T K S) (mk : S → A → List T
    → List (K × List T)) →
    ((w : S) (a : A) (m : List T) → AtMost (length m) (go w a m))
    → ((w : S) (a : A) (m : List T) → FallsFrom m (go w a m) (mk w a m)) →
    (n : ℕ) (u : S) (s : List T) → FallsFrom s (repeat (λ w x. lenient_first (f w x)) go n u s) (turn_marks f mk go n u s)
repeat_falls f go mk w h zero u s = tt
repeat_falls f go mk w h (suc n) u [] = tt
repeat_falls {T} {K} {A} {S} f go mk w h (suc n) u (x ∷ r) =
    let next : S → List T → Outcome T K S = λ v q. repeat (λ w x. lenient_first (f w x)) go n v q in
    first_falls (f u x) x r (λ a. and_then (go u a r) next) (λ a. mk u a r ++ after (go u a r) (λ v q. turn_marks f mk go n v q))
    (Ok (u, x ∷ r)) []
    (λ a. then_within (go u a r) next (length r) (w u a r) (λ v q e. repeat_within (λ w x. lenient_first (f w x)) go w n v q))
    (λ a. then_falls r (go u a r) next (mk u a r) (λ v q. turn_marks f mk go n v q) (w u a r) (h u a r)
    (λ v q. repeat_within (λ w x. lenient_first (f w x)) go w n v q) (λ v q. repeat_falls f go mk w h n v q))
    tt

mark_falls : {T K A : Type 0} (v : Verdict A K) (x : T) (r : List T) →
    FallsFrom {A = A} (x ∷ r) (judge (lenient v) (λ a. Ok (a, r)) (λ j. Err (j, x ∷ r))) (mark_of v (x ∷ r))
mark_falls (Fits a) x r = tt
mark_falls (Foul k a) x r = (omega arith, omega arith, tt)
mark_falls (Misfit k) x r = tt

renamed_falls : {T J K : Type 0} (h : J → K) (top low : ℕ) (ms : List (J × List T)) → Falls top low ms
    → Falls top low (renamed h ms)
renamed_falls h top low [] i = tt
renamed_falls h top low (z ∷ zs) (i, j, l) = (i, j, renamed_falls h (length z.1) low zs l)

marked_rest : {T J K A : Type 0} (h : J → K) (o : Outcome T J A) → rest_of o ≡ rest_of (marked h o)
marked_rest h (Ok p) = refl
marked_rest h (Err z) = refl

pub falls : {T K A : Type 0} (p : Rule T K A) (s : List T) → FallsFrom s (read (loose p) s) (marks p s)
falls (Gives a) s = tt
falls (Token f k) [] = tt
falls (Token f k) (x ∷ r) = mark_falls (f x) x r
falls (Peek f k) s = tt
falls (Then p g) s =
    then_falls s (read (loose p) s) (λ a r. read (loose (g a)) r) (marks p s) (λ a r. marks (g a) r)
    (within (loose p) s) (falls p s) (λ a r. within (loose (g a)) r) (λ a r. falls (g a) r)
falls (Many f g u) s =
    repeat_falls f (λ w a r. read (loose (g w a)) r) (λ w a r. marks (g w a) r) (λ w a r. within (loose (g w a)) r)
    (λ w a r. falls (g w a) r) (length s) u s
falls (Choice f g p) [] = falls p []
falls (Choice f g p) (x ∷ r) =
    first_falls (f x) x r (λ a. read (loose (g a)) r) (λ a. marks (g a) r) (read (loose p) (x ∷ r)) (marks p (x ∷ r))
    (λ a. within (loose (g a)) r) (λ a. falls (g a) r) (falls p (x ∷ r))
falls (Last f a) s = tt
falls {T} (Marked h p) s =
    subst (λ (r : List T). Falls (suc (length s)) (length r) (renamed h (marks p s))) (marked_rest h (read (loose p) s))
    (renamed_falls h (suc (length s)) (length (rest_of (read (loose p) s))) (marks p s) (falls p s))
