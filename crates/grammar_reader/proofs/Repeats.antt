-- The turns of a repeated part, and words at the next token.
use Rattle.std.proofs.Common.{◌≡◌, ℕ, suc, ◌+◌, ◌-◌, ◌<◌, Bool, true, false, List, [], ◌∷◌, Option, Ok, refl, ap, arith}
use Rattle.grammar_rules.specs.Rule.{Verdict}
use Rattle.grammar_rules.specs.Reading.{Outcome, and_then, choose, repeat}
use Rattle.grammar_reader.specs.declared.refusal.Refusal.{Refusal}
use Rattle.grammar_reader.specs.Words.{begins}
use Rattle.grammar_reader.specs.Next.{is_next, rest}

module _ {A S : Type 0} (f : S → List ℕ → Option (Verdict A Refusal)) (go : S → A → List (List ℕ)
    → Outcome (List ℕ) Refusal S) where
  -- one turn, while there are some left
  pub turn : (n i : ℕ) (u : S) (s : List (List ℕ)) → i < n →
      repeat f go (n - i) u s ≡ choose (f u) s (λ a r. and_then (go u a r) (λ v q. repeat f go (n - (i + 1)) v q)) (Ok (u, s))
  turn n i u s h =
      let e : n - i ≡ suc (n - (i + 1)) = omega arith in
      ap (λ (k : ℕ). repeat f go k u s) e

module _ {B : Type 0} (is_same : List ℕ → List ℕ → Bool) (text : List ℕ) (s : List (List ℕ))
    (go : Unit {0} → List (List ℕ) → Outcome (List ℕ) Refusal B) (other : Outcome (List ℕ) Refusal B) where
  -- a part begins with a word that is next
  pub choose_begun : is_next is_same text s ≡ true → choose (begins is_same text) s go other ≡ go tt (rest s)
  choose_begun e = by s e
    where
      by : (m : List (List ℕ)) → is_next is_same text m ≡ true → choose (begins is_same text) m go other ≡ go tt (rest m)
      by [] f = absurd cc
      by (x ∷ m) f = rw f refl

  pub choose_other : is_next is_same text s ≡ false → choose (begins is_same text) s go other ≡ other
  choose_other e = by s e
    where
      by : (m : List (List ℕ)) → is_next is_same text m ≡ false → choose (begins is_same text) m go other ≡ other
      by [] f = refl
      by (x ∷ m) f = rw f refl

-- what a function cites that reads parts behind a word
pub ruleset turns = (turn, choose_begun, choose_other)
