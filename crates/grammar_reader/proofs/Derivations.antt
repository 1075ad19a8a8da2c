-- What a rule takes, put together from what its parts take.
use Rattle.std.proofs.Common.{◌≡◌, ℕ, zero, suc, Bool, true, false, List, [], ◌∷◌, ◌++◌, inl, inr, Option, Some, refl, sym, ◌∙◌}
use Rattle.std.proofs.Common.{subst, append_assoc}
use Rattle.std.proofs.lemmas.List.{append-nil}
use Rattle.grammar_rules.specs.Rule.{Verdict, Fits, Takes, Stops}
use Rattle.grammar_rules.specs.Rule as r
use Rattle.grammar_reader.specs.declared.refusal.Refusal.{Refusal}
use Rattle.grammar_reader.specs.Words.{Grammar, go_on_where}
use Rattle.grammar_reader.proofs.Fronts.{Front, each}

-- the rule takes a phrase with this value from the tokens, and leaves the others
pub record Reads {A : Type 0} (p : Grammar A) (s : List (List ℕ)) (a : A) (left : List (List ℕ)) : Type 0 where
  pub taken : Takes p s a left

-- the same tokens
pub from_same : {A : Type 0} {p : Grammar A} {s m left : List (List ℕ)} {a : A} → s ≡ m → Reads p m a left → Reads p s a left
from_same {p = p} {left = left} {a = a} e h = subst (λ (t : List (List ℕ)). Reads p t a left) (sym e) h

-- the same value
pub to_same : {A : Type 0} {p : Grammar A} {s left : List (List ℕ)} {a b : A} → a ≡ b → Reads p s a left → Reads p s b left
to_same {p = p} {s = s} {left = left} e h = subst (λ c. Reads p s c left) e h

pub gives : {A : Type 0} {a : A} {s : List (List ℕ)} → Reads (r.Gives a) s a s
gives = record { taken = (refl, refl) }

pub token : {A : Type 0} {f : List ℕ → Verdict A Refusal} {k : Refusal} {x : List ℕ} {a : A} {s : List (List ℕ)} → f x ≡ Fits a
    → Reads (r.Token f k) (x ∷ s) a s
token {x = x} e = record { taken = (x, refl, e) }

pub in_turn : {A B : Type 0} {p : Grammar A} {g : A → Grammar B} {s m left : List (List ℕ)} {a : A} {b : B} → Reads p s a m
    → Reads (g a) m b left → Reads (r.Then p g) s b left
in_turn {m = m} {a = a} h k = record { taken = (a, m, h.taken, k.taken) }

-- the first part of a choice
pub chosen : {A B : Type 0} {f : List ℕ → Option (Verdict A Refusal)} {g : A
    → Grammar B} {p : Grammar B} {x : List ℕ} {m left : List (List ℕ)} {a : A} {b : B}
    → f x ≡ Some (Fits a) → Reads (g a) m b left → Reads (r.Choice f g p) (x ∷ m) b left
chosen {x = x} {m = m} {a = a} e h = record { taken = inl (x, a, m, refl, e, h.taken) }

-- the second part of a choice
pub passed : {A B : Type 0} {f : List ℕ → Option (Verdict A Refusal)} {g : A
    → Grammar B} {p : Grammar B} {s left : List (List ℕ)} {b : B}
    → Stops f s → Reads p s b left → Reads (r.Choice f g p) s b left
passed e h = record { taken = inr (e, h.taken) }

-- no turn of a repeated part
pub no_turn : {A S : Type 0} {f : S → List ℕ → Option (Verdict A Refusal)} {g : S → A → Grammar S} {u : S} {s : List (List ℕ)}
    → Stops (f u) s → Reads (r.Many f g u) s u s
no_turn e = record { taken = (zero, (refl, refl), e) }

-- one turn of a repeated part
pub record Turn {A S : Type 0} (f : S → List ℕ → Option (Verdict A Refusal)) (g : S → A → Grammar S) (u : S) (s : List (List ℕ))
    (w : S) (left : List (List ℕ)) : Type 0 where
  pub start : List ℕ
  pub more : List (List ℕ)
  pub value : A
  pub split : s ≡ start ∷ more
  pub fits : f u start ≡ Some (Fits value)
  pub reads : Reads (g u value) more w left

pub turn : {A S : Type 0} {f : S → List ℕ → Option (Verdict A Refusal)} {g : S → A
    → Grammar S} {u w : S} {x : List ℕ} {a : A} {m left : List (List ℕ)}
    → f u x ≡ Some (Fits a) → Reads (g u a) m w left → Turn f g u (x ∷ m) w left
turn {x = x} {a = a} {m = m} e h = record { start = x; more = m; value = a; split = refl; fits = e; reads = h }

pub turns : {A S : Type 0} {f : S → List ℕ → Option (Verdict A Refusal)} {g : S → A
    → Grammar S} {u w v : S} {s m left : List (List ℕ)}
    → Turn f g u s w m → Reads (r.Many f g w) m v left → Reads (r.Many f g u) s v left
turns {w = w} {m = m} h k = record {
  taken = (suc k.taken.0, (h.start, h.value, h.more, w, m, h.split, h.fits, h.reads.taken, k.taken.1), k.taken.2);
}

-- A turn for each item, from the state of the items before it to that with it.
pub through : {X A S : Type 0} {f : S → List ℕ → Option (Verdict A Refusal)} {g : S → A → Grammar S} (state : List X
    → S) (tokens : X → Front) (done todo : List X)
    → ((before : List X) (x : X) (after : List X) (s : List (List ℕ)) → before ++ x ∷ after ≡ done ++ todo
    → Turn f g (state before) (tokens x s) (state (before ++ x ∷ [])) s)
    → (s : List (List ℕ)) → Stops (f (state (done ++ todo))) s
    → Reads (r.Many f g (state done)) (each tokens todo s) (state (done ++ todo)) s
through {f = f} {g = g} state tokens done [] step s stop =
    let same : done ++ [] ≡ done = append-nil done in
    subst (λ (d : List _). Reads (r.Many f g (state done)) s (state d) s) (sym same)
    (no_turn (subst (λ (d : List _). Stops (f (state d)) s) same stop))
through {f = f} {g = g} state tokens done (x ∷ todo) step s stop =
    let same : (done ++ x ∷ []) ++ todo ≡ done ++ x ∷ todo = append_assoc done (x ∷ []) todo in
    let rest : Reads (r.Many f g (state (done ++ x ∷ []))) (each tokens todo s) (state ((done ++ x ∷ []) ++ todo)) s =
    through state tokens (done ++ x ∷ []) todo (λ before y after q e. step before y after q (e ∙ same)) s
    (subst (λ (d : List _). Stops (f (state d)) s) (sym same) stop) in
    turns (step done x todo (each tokens todo s) refl)
    (subst (λ (d : List _). Reads (r.Many f g (state (done ++ x ∷ []))) (each tokens todo s) (state d) s) same rest)

-- a count that passes its test
pub goes_on : (b : Bool) (s : List (List ℕ)) → b ≡ true → Reads (go_on_where b) s tt s
goes_on true s e = gives
goes_on false s e = absurd cc
