-- The outline of a text goes where its reading goes: a rule, read from a standing, ends in another one.
use Rattle.std.proofs.Common.{◌≡◌, ℕ, zero, suc, ◌≤◌, List, [], ◌∷◌, length, Option, Some, None, Ok, Err, refl, sym, subst, arith}
use Rattle.grammar_rules.specs.Rule.{Rule, Verdict, Fits, Foul, Misfit, Stops, Takes}
use Rattle.grammar_rules.specs.Rule as r
use Rattle.grammar_rules.specs.Reading.{Outcome, and_then, marked, judge, judge_first, read}
use Rattle.grammar_rules.proofs.Exact.{parts_shrink, sound}
use Rattle.grammar_rules.proofs.Turns.{Shrinks, turns, unroll}
use Rattle.liberty_groups.specs.declared.outline.Standing.{Standing}
use Rattle.liberty_groups.specs.declared.outline.Standing.TheVariants.{Done}
use Rattle.liberty_groups.specs.Lexeme.{Lexeme}
use Rattle.liberty_groups.specs.Library.{is_library_name}
use Rattle.liberty_groups.specs.Outline.{step, stands}

-- what becomes of tokens: no library begins with them, one may, or they are one
pub data Fate : Type 0 where
  dead : Fate
  open_ : Fate
  done : Fate

abbrev pub fate_at : Standing → Fate
fate_at Done = done
fate_at _ = open_

abbrev pub fate : Option Standing → Fate
fate None = dead
fate (Some p) = fate_at p

abbrev pub next : Standing → Lexeme → Option Standing
next p x = step p x.token (is_library_name x)

abbrev pub fate_of : Standing → List Lexeme → Fate
fate_of p s = fate (stands p s)

abbrev pub ErrFollows : Fate → List Lexeme → Type 0
ErrFollows f [] = f ≡ open_
ErrFollows f (x ∷ m) = f ≡ dead

-- a reading that leads to a standing has this fate
abbrev pub Follows : {K A : Type 0} → Standing → Fate → Outcome Lexeme K A → Type 0
Follows q f (Ok p) = f ≡ fate_of q p.1
Follows q f (Err e) = ErrFollows f e.1

-- from a standing a rule leads to another one, over these tokens
abbrev pub Leads : {K A : Type 0} → Rule Lexeme K A → Standing → Standing → List Lexeme → Type 0
Leads p here there s = Follows there (fate_of here s) (read p s)

pub step_some : (p q : Standing) (x : Lexeme) (m : List Lexeme) → next p x ≡ Some q → fate_of p (x ∷ m) ≡ fate_of q m
step_some p q x m e = rw e refl

pub step_none : (p : Standing) (x : Lexeme) (m : List Lexeme) → next p x ≡ None → fate_of p (x ∷ m) ≡ dead
step_none p x m e = rw e refl

-- two standings take the same tokens
pub step_same : (p q : Standing) (x : Lexeme) (m : List Lexeme) → next p x ≡ next q x → fate_of p (x ∷ m) ≡ fate_of q (x ∷ m)
step_same p q x m e = rw e refl

follows_then : {K A B : Type 0} (q t : Standing) (f : Fate) (o : Outcome Lexeme K A) (g : A → List Lexeme → Outcome Lexeme K B)
    → Follows q f o →
    ((a : A) (m : List Lexeme) → o ≡ Ok (a, m) → Follows t (fate_of q m) (g a m)) → Follows t f (and_then o g)
follows_then q t f (Ok p) g h i = subst (λ (v : Fate). Follows t v (g p.0 p.1)) (sym h) (i p.0 p.1 refl)
follows_then q t f (Err e) g h i = h

pub leads_then : {K A B : Type 0} (p : Rule Lexeme K A) (g : A → Rule Lexeme K B) (here q there : Standing) (s : List Lexeme)
    → Leads p here q s →
    ((a : A) (m : List Lexeme) → Takes p s a m → Leads (g a) q there m) → Leads (r.Then p g) here there s
leads_then p g here q there s h i =
    follows_then q there (fate_of here s) (read p s) (λ a m. read (g a) m) h (λ a m e. i a m (sound p s a m e))

follows_marked : {J K A : Type 0} (h : J → K) (q : Standing) (f : Fate) (o : Outcome Lexeme J A) → Follows q f o
    → Follows q f (marked h o)
follows_marked h q f (Ok p) i = i
follows_marked h q f (Err e) i = i

pub leads_marked : {J K A : Type 0} (h : J → K) (p : Rule Lexeme J A) (here there : Standing) (s : List Lexeme)
    → Leads p here there s → Leads (r.Marked h p) here there s
leads_marked h p here there s i = follows_marked h there (fate_of here s) (read p s) i

-- a token's verdict is that of the outline
abbrev pub Judges : {K A : Type 0} → Standing → Standing → Lexeme → Verdict A K → Type 0
Judges here there x (Fits a) = next here x ≡ Some there
Judges here there x (Foul k a) = next here x ≡ None
Judges here there x (Misfit k) = next here x ≡ None

judged : {K A : Type 0} (here there : Standing) (x : Lexeme) (m : List Lexeme) (v : Verdict A K) → Judges here there x v →
    Follows {K = K} {A = A} there (fate_of here (x ∷ m)) (judge v (λ a. Ok (a, m)) (λ j. Err (j, x ∷ m)))
judged here there x m (Fits a) h = step_some here there x m h
judged here there x m (Foul k a) h = step_none here x m h
judged here there x m (Misfit k) h = step_none here x m h

-- the standing is not behind the library
abbrev pub IsOpen : Standing → Type 0
IsOpen p = fate_at p ≡ open_

pub leads_token : {K A : Type 0} (f : Lexeme → Verdict A K) (k : K) (here there : Standing) (s : List Lexeme) → IsOpen here →
    ((x : Lexeme) (m : List Lexeme) → s ≡ x ∷ m → Judges here there x (f x)) → Leads (r.Token f k) here there s
leads_token f k here there [] o h = o
leads_token f k here there (x ∷ m) o h = judged here there x m (f x) (h x m refl)

-- a token that is not taken: where it is passed, the standing behind goes on as this one
abbrev pub Passes : {K A : Type 0} → Standing → Standing → Lexeme → Verdict A K → Type 0
Passes here there x (Fits a) = next here x ≡ next there x
Passes here there x (Foul k a) = next here x ≡ None
Passes here there x (Misfit k) = next here x ≡ None

peeked : {K A : Type 0} (here there : Standing) (x : Lexeme) (m : List Lexeme) (v : Verdict A K) → Passes here there x v →
    Follows {K = K} {A = A} there (fate_of here (x ∷ m)) (judge v (λ a. Ok (a, x ∷ m)) (λ j. Err (j, x ∷ m)))
peeked here there x m (Fits a) h = step_same here there x m h
peeked here there x m (Foul k a) h = step_none here x m h
peeked here there x m (Misfit k) h = step_none here x m h

pub leads_peek : {K A : Type 0} (f : Lexeme → Verdict A K) (k : K) (here there : Standing) (s : List Lexeme) → IsOpen here →
    ((x : Lexeme) (m : List Lexeme) → s ≡ x ∷ m → Passes here there x (f x)) → Leads (r.Peek f k) here there s
leads_peek f k here there [] o h = o
leads_peek f k here there (x ∷ m) o h = peeked here there x m (f x) (h x m refl)

-- a token that begins a part, or refuses it, does so in the outline
abbrev pub Begins : {K A : Type 0} → Standing → (A → Standing) → Lexeme → Option (Verdict A K) → Type 0
Begins here q x None = Unit {0}
Begins here q x (Some (Fits a)) = next here x ≡ Some (q a)
Begins here q x (Some (Foul k a)) = next here x ≡ None
Begins here q x (Some (Misfit k)) = next here x ≡ None

first_follows : {K A B : Type 0} (here there : Standing) (q : A → Standing) (x : Lexeme) (m : List Lexeme)
    (v : Option (Verdict A K)) (go : A → Outcome Lexeme K B) (other : Outcome Lexeme K B) →
    Begins here q x v → ((a : A) → v ≡ Some (Fits a) → Follows there (fate_of (q a) m) (go a))
    → (v ≡ None → Follows there (fate_of here (x ∷ m)) other) →
    Follows there (fate_of here (x ∷ m)) (judge_first v go (λ k. Err (k, x ∷ m)) other)
first_follows here there q x m None go other b h i = i refl
first_follows here there q x m (Some (Fits a)) go other b h i =
    subst (λ (f : Fate). Follows there f (go a)) (sym (step_some here (q a) x m b)) (h a refl)
first_follows here there q x m (Some (Foul k a)) go other b h i = step_none here x m b
first_follows here there q x m (Some (Misfit k)) go other b h i = step_none here x m b

pub leads_choice : {K A B : Type 0} (f : Lexeme → Option (Verdict A K)) (g : A → Rule Lexeme K B) (p : Rule Lexeme K B)
    (here there : Standing) (q : A → Standing) (s : List Lexeme) →
    ((x : Lexeme) → Begins here q x (f x))
    → ((x : Lexeme) (a : A) (m : List Lexeme) → f x ≡ Some (Fits a) → Leads (g a) (q a) there m)
    → (Stops f s → Leads p here there s) →
    Leads (r.Choice f g p) here there s
leads_choice f g p here there q [] b h i = i tt
leads_choice f g p here there q (x ∷ m) b h i =
    first_follows here there q x m (f x) (λ a. read (g a) m) (read p (x ∷ m)) (b x) (λ a e. h x a m e) (λ e. i e)

turns_follow : {K A S : Type 0} (f : S → Lexeme → Option (Verdict A K)) (go : S → A → List Lexeme → Outcome Lexeme K S)
    → Shrinks go → (here : Standing) (q : A → Standing) →
    ((w : S) (x : Lexeme) → Begins here q x (f w x))
    → ((w : S) (a : A) (m : List Lexeme) → Follows here (fate_of (q a) m) (go w a m)) →
    (n : ℕ) (u : S) (s : List Lexeme) → length s ≤ n → Follows here (fate_of here s) (turns f go u s)
turns_follow f go sh here q b h n u [] l = refl
turns_follow f go sh here q b h zero u (x ∷ m) l = absurd (omega arith)
turns_follow {K} {A} {S} f go sh here q b h (suc n) u (x ∷ m) l =
    subst (λ (o : Outcome Lexeme K S). Follows here (fate_of here (x ∷ m)) o) (sym (unroll f go sh u (x ∷ m)))
    (first_follows here here q x m (f u x) (λ a. and_then (go u a m) (λ w t. turns f go w t)) (Ok (u, x ∷ m)) (b u x)
    (λ a e. follows_then here here (fate_of (q a) m) (go u a m) (λ w t. turns f go w t) (h u a m)
    (λ w t e'. let k = sh u a m w t e' in turns_follow f go sh here q b h n w t (omega arith)))
    (λ e. refl))

pub leads_many : {K A S : Type 0} (f : S → Lexeme → Option (Verdict A K)) (g : S → A → Rule Lexeme K S) (u : S) (here : Standing)
    (q : A → Standing) →
    ((w : S) (x : Lexeme) → Begins here q x (f w x)) → ((w : S) (a : A) (m : List Lexeme) → Leads (g w a) (q a) here m) →
    (s : List Lexeme) → Leads (r.Many f g u) here here s
leads_many f g u here q b h s = turns_follow f (λ w a m. read (g w a) m) (parts_shrink g) here q b (λ w a m. h w a m)
    (length s) u s (omega arith)

pub leads_last : {K A : Type 0} (f : Lexeme → K) (a : A) (s : List Lexeme) → Leads (r.Last f a) Done Done s
leads_last f a [] = refl
leads_last f a (x ∷ m) = refl
