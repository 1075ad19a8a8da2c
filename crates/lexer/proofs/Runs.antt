-- Runs of bytes, and words, at the front of bytes.
use Rattle.std.proofs.Common.{◌≡◌, ℕ, zero, suc, ◌≤◌, Bool, true, nat_eq, List, [], ◌∷◌, ◌++◌, length, take, refl, sym, ap, ◌∙◌}
use Rattle.std.proofs.Common.{arith, subst}
use Rattle.std.proofs.lemmas.Bool.{and_parts, and_from, eqb-true}
use Rattle.std.specs.List.{prefix_len, list_all}
use Rattle.lexer.specs.Tokens.{begins_with}
use Rattle.lexer.specs.Cover.{is_nothing}
use Rattle.lexer.proofs.Alike.{more}

-- so many bytes at the front pass the test
pub run_at : (f : ℕ → Bool) (n : ℕ) (s : List ℕ) → prefix_len f s ≡ n → (list_all f (take n s) ≡ true) × (n ≤ length s)
run_at f zero s e = (refl, omega arith)
run_at f (suc n) [] e = absurd (omega arith)
run_at f (suc n) (c ∷ s) e =
    let m = more (f c) (prefix_len f s) n e in
    let i = run_at f n s m.1 in
    (and_from (f c) (list_all f (take n s)) m.0 i.0, omega (arith, i.1))

-- bytes that pass the test are no more than the run of such bytes
pub run_least : (f : ℕ → Bool) (u r : List ℕ) → list_all f u ≡ true → length u ≤ prefix_len f (u ++ r)
run_least f [] r e = omega arith
run_least f (c ∷ u) r e =
    let p = and_parts (f c) (list_all f u) e in
    let i = run_least f u r p.1 in
    rw p.0 (omega (arith, i))

-- the bytes begin with these
begins_is : (lit s : List ℕ) → begins_with s lit ≡ true → (take (length lit) s ≡ lit) × (length lit ≤ length s)
begins_is [] s e = (refl, omega arith)
begins_is (l ∷ lit) [] e = absurd cc
begins_is (l ∷ lit) (c ∷ s) e =
    let p = and_parts (nat_eq l c) (begins_with s lit) e in
    let i = begins_is lit s p.1 in
    let h : l ≡ c = eqb-true l c p.0 in
    (ap (λ (x : ℕ). x ∷ take (length lit) s) (sym h) ∙ ap (λ (w : List ℕ). l ∷ w) i.0, omega (arith, i.1))

-- the first bytes are these
literal : (lit s : List ℕ) (b m : ℕ) → begins_with (b ∷ s) lit ≡ true → length lit ≡ suc m → (b ∷ take m s ≡ lit) × (m ≤ length s)
literal lit s b m e h =
    let i = begins_is lit (b ∷ s) e in
    (ap (λ (n : ℕ). take n (b ∷ s)) (sym h) ∙ i.0, omega (arith, i.1))

module _ (P : List ℕ → Bool) (b : ℕ) (s : List ℕ) (m : ℕ) where
  -- the first bytes pass a test, and so many are there
  abbrev pub Spelled : Type 0
  Spelled = (P (b ∷ take m s) ≡ true) × (m ≤ length s)

  pub spelled_as : (lit : List ℕ) → P lit ≡ true → begins_with (b ∷ s) lit ≡ true → length lit ≡ suc m → Spelled
  spelled_as lit p e h =
      let i = literal lit s b m e h in
      (subst (λ (w : List ℕ). P w ≡ true) (sym i.0) p, i.1)

-- one byte alone
pub nothing_here : (s : List ℕ) (m : ℕ) → 1 ≡ suc m → (is_nothing (take m s) ≡ true) × (m ≤ length s)
nothing_here s zero e = (refl, omega arith)
nothing_here s (suc m) e = absurd (omega arith)

pub nothing_least : (b : ℕ) (u : List ℕ) → is_nothing u ≡ true → length (b ∷ u) ≤ 1
nothing_least b [] e = omega arith
nothing_least b (c ∷ u) e = absurd cc
