-- The laws of specs/Laws, for every rule.
use Rattle.std.proofs.Common.{◌≡◌, ℕ, zero, suc, List, [], ◌∷◌, ◌++◌, length, Option, Some, None, Ok, Err, ◌⊎◌, inl, inr, refl}
use Rattle.std.proofs.Common.{sym, ap, subst, ◌∙◌, arith, length-append, append_assoc}
use Rattle.grammar_rules.specs.Rule.{Rule, Gives, Token, Peek, Then, Many, Choice, Last, Marked, Verdict, Fits, Foul, Misfit}
use Rattle.grammar_rules.specs.Rule.{Takes, Refuses}
use Rattle.grammar_rules.specs.Reading.{Outcome, and_then, marked, judge, judge_first, repeat, read}
use Rattle.grammar_rules.specs.Laws.{ReadsExactly, HasOneReading, IsNoLongerFront, RefusesAtFirst, LooksOneAhead, FrontsAreUsedUp}
use Rattle.grammar_rules.proofs.Steps.{rest_of, value_is, rest_is, kind_is, place_is}
use Rattle.grammar_rules.proofs.Exact.{complete, sound}
use Rattle.grammar_rules.proofs.Refusals.{refuses, refused}
use Rattle.grammar_rules.proofs.Fronts.{UsesUp, front_ends, ends_front}
use Rattle.grammar_rules.proofs.Local.{extended, LeavesSome, cons_or_nil, local, onward}

pub reads_exactly : {T K A : Type 0} (p : Rule T K A) → ReadsExactly p
reads_exactly p = record {
  takes = λ s a r. (complete p s a r, sound p s a r);
  refuses =
      λ s k m. (refuses p s k m, refused p s k m);
}

pub has_one_reading : {T K A : Type 0} (p : Rule T K A) → HasOneReading p
has_one_reading {T} {K} {A} p = record {
  some = λ s. some_of s (read p s) refl;
  one_value = λ s a b r q h i. let e = sym (complete p s a r h) ∙ complete p s b q i in (value_is e, rest_is e);
  one_fault = λ s k j m n h i. let e = sym (refuses p s k m h) ∙ refuses p s j n i in (kind_is e, place_is e);
  not_both = λ s a r k m h i. let e = sym (complete p s a r h) ∙ refuses p s k m i in absurd cc;
}
  where
    some_of : (s : List T) (o : Outcome T K A) → read p s ≡ o → ((a : A) × (r : List T) × Takes p s a r)
        ⊎ ((k : K) × (m : List T) × Refuses p s k m)
    some_of s (Ok y) e = inl (y.0, y.1, sound p s y.0 y.1 e)
    some_of s (Err z) e = inr (z.0, z.1, refused p s z.0 z.1 e)

-- what a reading leaves is the end of what it began with
abbrev pub Suffix : {T : Type 0} → List T → List T → Type 0
Suffix {T} s r = (front : List T) × (s ≡ front ++ r)

pub suffix_trans : {T : Type 0} (s m r : List T) → Suffix s m → Suffix m r → Suffix s r
suffix_trans s m r (f, e) (g, i) = (f ++ g, e ∙ ap (λ q. f ++ q) i ∙ sym (append_assoc f g r))

then_suffix : {T K A B : Type 0} (o : Outcome T K A) (g : A → List T → Outcome T K B) (s : List T) → Suffix s (rest_of o) →
    ((a : A) (r : List T) → Suffix r (rest_of (g a r))) → Suffix s (rest_of (and_then o g))
then_suffix (Ok p) g s h i = suffix_trans s p.1 (rest_of (g p.0 p.1)) h (i p.0 p.1)
then_suffix (Err z) g s h i = h

judged_suffix : {T K A : Type 0} (v : Verdict A K) (x : T) (s r : List T) → Suffix (x ∷ s) r →
    Suffix (x ∷ s) (rest_of {T = T} {K = K} {A = A} (judge v (λ a. Ok (a, r)) (λ j. Err (j, x ∷ s))))
judged_suffix (Fits a) x s r h = h
judged_suffix (Foul k a) x s r h = ([], refl)
judged_suffix (Misfit k) x s r h = ([], refl)

first_suffix : {T K A B : Type 0} (v : Option (Verdict A K)) (x : T) (m : List T) (next : A
    → Outcome T K B) (other : Outcome T K B) →
    ((a : A) → Suffix m (rest_of (next a))) → Suffix (x ∷ m) (rest_of other)
    → Suffix (x ∷ m) (rest_of (judge_first v next (λ k. Err (k, x ∷ m)) other))
first_suffix None x m next other h i = i
first_suffix (Some (Fits a)) x m next other h i = suffix_trans (x ∷ m) m (rest_of (next a)) (x ∷ [], refl) (h a)
first_suffix (Some (Foul k a)) x m next other h i = ([], refl)
first_suffix (Some (Misfit k)) x m next other h i = ([], refl)

repeat_suffix : {T K A S : Type 0} (f : S → T → Option (Verdict A K)) (go : S → A → List T → Outcome T K S)
    → ((w : S) (a : A) (m : List T) → Suffix m (rest_of (go w a m))) →
    (n : ℕ) (u : S) (s : List T) → Suffix s (rest_of (repeat f go n u s))
repeat_suffix f go h zero u s = ([], refl)
repeat_suffix f go h (suc n) u [] = ([], refl)
repeat_suffix f go h (suc n) u (x ∷ m) =
    first_suffix (f u x) x m (λ a. and_then (go u a m) (λ w q. repeat f go n w q)) (Ok (u, x ∷ m))
    (λ a. then_suffix (go u a m) (λ w q. repeat f go n w q) m (h u a m) (λ w q. repeat_suffix f go h n w q)) ([], refl)

pub suffix : {T K A : Type 0} (p : Rule T K A) (s : List T) → Suffix s (rest_of (read p s))
suffix (Gives a) s = ([], refl)
suffix (Token f k) [] = ([], refl)
suffix (Token f k) (x ∷ s) = judged_suffix (f x) x s s (x ∷ [], refl)
suffix (Peek f k) [] = ([], refl)
suffix (Peek f k) (x ∷ s) = judged_suffix (f x) x s (x ∷ s) ([], refl)
suffix (Then p g) s = then_suffix (read p s) (λ a r. read (g a) r) s (suffix p s) (λ a r. suffix (g a) r)
suffix (Many f g u) s = repeat_suffix f (λ w a q. read (g w a) q) (λ w a q. suffix (g w a) q) (length s) u s
suffix (Choice f g p) [] = suffix p []
suffix (Choice f g p) (x ∷ m) = first_suffix (f x) x m (λ a. read (g a) m) (read p (x ∷ m)) (λ a. suffix (g a) m)
    (suffix p (x ∷ m))
suffix (Last f a) [] = ([], refl)
suffix (Last f a) (x ∷ s) = ([], refl)
suffix (Marked h p) s = marked_suffix h (read p s) s (suffix p s)
  where
    marked_suffix : {T J K A : Type 0} (h : J → K) (o : Outcome T J A) (s : List T) → Suffix s (rest_of o)
        → Suffix s (rest_of (marked h o))
    marked_suffix h (Ok p) s i = i
    marked_suffix h (Err z) s i = i

pub rest-extended : {T K A : Type 0} (more : List T) (o : Outcome T K A) → rest_of (extended more o) ≡ rest_of o ++ more
rest-extended more (Ok p) = refl
rest-extended more (Err z) = refl

longer : {T : Type 0} (r m : List T) → r ++ m ≡ m → r ≡ []
longer [] m e = refl
longer (x ∷ r) m e = let i = ap length e in let j = length-append r m in absurd (omega arith)

-- tokens up to the place where a longer reading stops are used up
used_before : {T K A : Type 0} (p : Rule T K A) (front m : List T) → rest_of (read p (front ++ m)) ≡ m → UsesUp (read p front)
used_before p front m e =
    elim (cons_or_nil (rest_of (read p front))) [
      | inl c ↦ longer (rest_of (read p front)) m (sym (rest-extended m (read p front)) ∙ ap rest_of (sym (local p front m c))
          ∙ e)
      | inr h ↦ h
    ]

no_longer : {T K A : Type 0} (p : Rule T K A) (front m : List T) → rest_of (read p (front ++ m)) ≡ m → IsNoLongerFront p front m
no_longer p front [] e = tt
no_longer {T} {K} {A} p front (x ∷ m) e = λ h.
    let i = onward p (front ++ x ∷ []) m (front_ends p (front ++ x ∷ []) h) in
    let j : (front ++ x ∷ []) ++ m ≡ front ++ x ∷ m = append_assoc front (x ∷ []) m in
    let k = ap length (ap (λ (s : List T). rest_of (read p s)) j ∙ e) in
    omega arith

pub refuses_at_first : {T K A : Type 0} (p : Rule T K A) → RefusesAtFirst p
refuses_at_first {T} {K} {A} p = record {
  place = λ s k m h.
      (let e : rest_of (read p s) ≡ m = ap rest_of (refuses p s k m h) in
      let f = suffix p s in
      let i : s ≡ f.0 ++ m = f.1 ∙ ap (λ (r : List T). f.0 ++ r) e in
      let j : rest_of (read p (f.0 ++ m)) ≡ m = ap (λ (r : List T). rest_of (read p r)) (sym i) ∙ e in
      (f.0, i, ends_front p f.0 (used_before p f.0 m j), no_longer p f.0 m j));
  shorter = λ s more h. ends_front p s (shorter_used s more (front_ends p (s ++ more) h));
  taken = λ s a h. ends_front p s (ap rest_of (complete p s a [] h));
}
  where
    shorter_used : (s more : List T) → UsesUp (read p (s ++ more)) → UsesUp (read p s)
    shorter_used s more h =
        elim (cons_or_nil (rest_of (read p s))) [
          | inl c ↦ absurd (none_before (rest_of (read p s)) more c
              (sym (rest-extended more (read p s)) ∙ ap rest_of (sym (local p s more c)) ∙ h))
          | inr i ↦ i
        ]
      where
        none_before : (r m : List T) → LeavesSome {T = T} {K = K} {A = List T} (Ok (r, r)) → r ++ m ≡ [] → ⊥
        none_before [] m c e = c
        none_before (x ∷ r) m c e = absurd cc

pub looks_one_ahead : {T K A : Type 0} (p : Rule T K A) → LooksOneAhead p
looks_one_ahead {T} {K} {A} p = record {
  takes = λ s a x r more h.
      (let e = complete p s a (x ∷ r) h in
      sound p (s ++ more) a ((x ∷ r) ++ more) (local p s more (subst (λ (o : Outcome T K A). LeavesSome o) (sym e) tt)
      ∙ ap (extended more) e));
  refuses = λ s k x m more h.
      (let e = refuses p s k (x ∷ m) h in
      refused p (s ++ more) k ((x ∷ m) ++ more) (local p s more (subst (λ (o : Outcome T K A). LeavesSome o) (sym e) tt)
      ∙ ap (extended more) e));
}

pub fronts_are_used_up : {T K A : Type 0} (p : Rule T K A) → FrontsAreUsedUp p
fronts_are_used_up {T} {K} {A} p = record {
  used = λ s h. used_of s (read p s) refl (front_ends p s h);
  fronts = λ s h. ends_front p s (elim h
      [ inl i ↦ ap rest_of (complete p s i.0 [] i.1) | inr i ↦ ap rest_of (refuses p s i.0 [] i.1) ]);
}
  where
    used_of : (s : List T) (o : Outcome T K A) → read p s ≡ o → UsesUp o → ((a : A) × Takes p s a [])
        ⊎ ((k : K) × Refuses p s k [])
    used_of s (Ok y) e h = inl (y.0, sound p s y.0 [] (e ∙ ap (λ (r : List T). Ok (y.0, r)) h))
    used_of s (Err z) e h = inr (z.0, refused p s z.0 [] (e ∙ ap (λ (r : List T). Err (z.0, r)) h))
