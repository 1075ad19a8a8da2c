-- What a rule promises of everything that it takes. Where each token has a property, each value that the rule takes has this
-- one, and each token that is left has the first. A rule keeps its promise where its parts keep theirs, so that of a grammar a
-- fact on its values is proved rule by rule.
use Rattle.std.proofs.Common.{◌≡◌, ℕ, zero, suc, List, ◌∷◌, Option, Some, inl, inr, sym, subst}
use Rattle.std.specs.List.{AllByRecursion}
use Rattle.grammar_rules.specs.Rule.{Rule, Verdict, Fits, Times, Takes}
use Rattle.grammar_rules.specs.Rule as r

-- what a value and the tokens that are left have
abbrev pub Kept : {T A : Type 0} → (T → Type 0) → (A → Type 0) → A → List T → Type 0
Kept P Q a left = Q a × AllByRecursion P left

pub record Promises {T K A : Type 0} (P : T → Type 0) (p : Rule T K A) (Q : A → Type 0) : Type 0 where
  pub kept : (s : List T) (a : A) (left : List T) → AllByRecursion P s → Takes p s a left → Kept P Q a left

pub gives : {T K A : Type 0} {P : T → Type 0} {Q : A → Type 0} {a : A} → Q a → Promises {K = K} P (r.Gives a) Q
gives {P = P} {Q = Q} q = record { kept = λ s b left all t. (subst Q t.0 q, subst (AllByRecursion P) t.1 all) }

pub last : {T K A : Type 0} {P : T → Type 0} {Q : A → Type 0} {f : T → K} {a : A} → Q a → Promises P (r.Last f a) Q
last {P = P} {Q = Q} q = record { kept = λ s b left all t. (subst Q t.0 q, subst (AllByRecursion P) (sym t.2) tt) }

pub token : {T K A : Type 0} {P : T → Type 0} {Q : A → Type 0} {f : T → Verdict A K} {k : K}
    → ((x : T) (a : A) → P x → f x ≡ Fits a → Q a) → Promises P (r.Token f k) Q
token {P = P} h = record {
  kept = λ s b left all t.
      let parts = subst (AllByRecursion P) t.1 all in
      (h t.0 b parts.0 t.2, parts.1);
}

pub in_turn : {T K A B : Type 0} {P : T → Type 0} {Q : A → Type 0} {R : B → Type 0} {p : Rule T K A} {g : A → Rule T K B}
    → Promises P p Q → ((a : A) → Q a → Promises P (g a) R) → Promises P (r.Then p g) R
in_turn first more = record {
  kept = λ s b left all t.
      let here = first.kept s t.0 t.1 all t.2 in
      (more t.0 here.0).kept t.1 b left here.1 t.3;
}

times : {T K A S : Type 0} (P : T → Type 0) (Q : S → Type 0) (f : S → T → Option (Verdict A K)) (g : S → A → Rule T K S)
    → ((w : S) (x : T) (a : A) → Q w → P x → f w x ≡ Some (Fits a) → Promises P (g w a) Q)
    → (n : ℕ) (u : S) (s : List T) (v : S) (left : List T) → Q u → AllByRecursion P s
    → Times f (λ w a m. Takes (g w a) m) n u s v left → Kept P Q v left
times P Q f g h zero u s v left q all t = (subst Q t.0 q, subst (AllByRecursion P) t.1 all)
times P Q f g h (suc n) u s v left q all (x, a, m, w, more, e, begins, turn, rest) =
    let parts : AllByRecursion P (x ∷ m) = subst (AllByRecursion P) e all in
    let here = (h u x a q parts.0 begins).kept m w more parts.1 turn in
    times P Q f g h n w more v left here.0 here.1 rest

pub many : {T K A S : Type 0} {P : T → Type 0} {Q : S → Type 0} {f : S → T → Option (Verdict A K)} {g : S → A
    → Rule T K S} {u : S}
    → Q u → ((w : S) (x : T) (a : A) → Q w → P x → f w x ≡ Some (Fits a) → Promises P (g w a) Q) → Promises P (r.Many f g u) Q
many {P = P} {Q = Q} {f = f} {g = g} {u = u} q h = record { kept = λ s v left all t. times P Q f g h t.0 u s v left q all t.1 }

chosen : {T K A B : Type 0} (P : T → Type 0) (Q : B → Type 0) (f : T → Option (Verdict A K)) (g : A → Rule T K B) (p : Rule T K B)
    → ((x : T) (a : A) → P x → f x ≡ Some (Fits a) → Promises P (g a) Q) → Promises P p Q
    → (s : List T) (b : B) (left : List T) → AllByRecursion P s → Takes (r.Choice f g p) s b left → Kept P Q b left
chosen P Q f g p one other s b left all (inl (x, a, m, e, begins, t)) =
    let parts : AllByRecursion P (x ∷ m) = subst (AllByRecursion P) e all in
    (one x a parts.0 begins).kept m b left parts.1 t
chosen P Q f g p one other s b left all (inr t) = other.kept s b left all t.1

pub choice : {T K A B : Type 0} {P : T → Type 0} {Q : B → Type 0} {f : T → Option (Verdict A K)} {g : A
    → Rule T K B} {p : Rule T K B}
    → ((x : T) (a : A) → P x → f x ≡ Some (Fits a) → Promises P (g a) Q) → Promises P p Q → Promises P (r.Choice f g p) Q
choice {P = P} {Q = Q} {f = f} {g = g} {p = p} one other = record { kept = chosen P Q f g p one other }

-- a promise, and what follows from it
pub weaker : {T K A : Type 0} {P : T → Type 0} {Q R : A → Type 0} {p : Rule T K A} → Promises P p Q → ((a : A) → Q a → R a)
    → Promises P p R
weaker h f = record { kept = λ s a left all t. let k = h.kept s a left all t in (f a k.0, k.1) }

-- nothing is said of a value
abbrev pub any : {A : Type 0} → A → Type 0
any a = Unit {0}

pub keeps : {T K A : Type 0} (P : T → Type 0) (p : Rule T K A) → Promises P p any
keeps P (r.Gives a) = gives tt
keeps P (r.Token f k) = token (λ x a q e. tt)
keeps P (r.Peek f k) = record { kept = λ s b left all t. (tt, subst (AllByRecursion P) t.4 all) }
keeps P (r.Then p g) = in_turn (keeps P p) (λ a q. keeps P (g a))
keeps P (r.Many f g u) = many tt (λ w x a q h e. keeps P (g w a))
keeps P (r.Choice f g p) = choice (λ x a h e. keeps P (g a)) (keeps P p)
keeps P (r.Last f a) = last tt
keeps P (r.Marked h p) = record { kept = (keeps P p).kept }
