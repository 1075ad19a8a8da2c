-- Where inputs force a state, each change of one input to them gives the forced value.
use Rattle.std.proofs.Common.{◌≡◌, ◌≢◌, ℕ, zero, suc, Bool, true, false, not, List, [], ◌∷◌, refl, ◌∙◌}
use Rattle.trit_cubes.specs.declared.trits.Trit.{Trit}
use Rattle.trit_cubes.specs.declared.trits.Trit.TheVariants.{Zero, One, Unknown}
use Rattle.trit_cubes.specs.Filling.{Fits, IsFilling}
use Rattle.trit_cubes.specs.Resolution.{agreed, res}
use Rattle.trit_cubes.proofs.InsideLemmas.{res-fillings, fillings-res, agreed-parts, agreed-same}
use Rattle.cell_machine.specs.Machine.{Step, insert, around, forced_at, forced, over}
use Rattle.cell_machine.specs.Laws.{ForcedIsStep}
use Rattle.cell_machine.proofs.StepLemmas.{machine_step-parts}

pub over-known : (f : Bool → Trit) (t v : Trit) → ((b : Bool) → Fits t b → f b ≡ v) → over f t ≡ v
over-known f Zero v h = h false refl
over-known f One v h = h true refl
over-known f Unknown v h = (λ i. agreed (h false tt i) (h true tt i)) ∙ agreed-same v

-- the point itself is among those around it
around-itself : (g : List Bool → Trit) (p : List Bool) (v : Trit) → v ≢ Unknown → around g p ≡ v → g p ≡ v
around-itself g [] v k e = e
around-itself g (b ∷ p) v k e =
    around-itself (λ q. g (b ∷ q)) p v k (agreed-parts (around (λ q. g (b ∷ q)) p) (g (not b ∷ p)) v k e).0

-- and so is each that differs from it in the first place
around-first :
    (g : List Bool → Trit) (n o : Bool) (p : List Bool) (v : Trit)
    → v ≢ Unknown → around g (n ∷ p) ≡ v → g (o ∷ p) ≡ v
around-first g true true p v k e = around-itself g (true ∷ p) v k e
around-first g true false p v k e = (agreed-parts (around (λ q. g (true ∷ q)) p) (g (false ∷ p)) v k e).1
around-first g false true p v k e = (agreed-parts (around (λ q. g (false ∷ q)) p) (g (true ∷ p)) v k e).1
around-first g false false p v k e = around-itself g (false ∷ p) v k e

-- or in any one place
around-insert :
    (g : List Bool → Trit) (p : ℕ) (n o : Bool) (others : List Bool) (v : Trit)
    → v ≢ Unknown → around g (insert p n others) ≡ v → g (insert p o others) ≡ v
around-insert g zero n o others v k e = around-first g n o others v k e
around-insert g (suc p) n o [] v k e = around-first g n o [] v k e
around-insert g (suc p) n o (b ∷ others) v k e =
    around-insert (λ q. g (b ∷ q)) p n o others v k
    (agreed-parts (around (λ q. g (b ∷ q)) (insert p n others)) (g (not b ∷ insert p n others)) v k e).0

insert-filling :
    (p : ℕ) (b : Trit) (n : Bool) (ts : List Trit) (q : List Bool)
    → Fits b n → IsFilling ts q → IsFilling (insert p b ts) (insert p n q)
insert-filling zero b n ts q f h = (f, h)
insert-filling (suc p) b n [] [] f h = (f, tt)
insert-filling (suc p) b n [] (x ∷ q) f h = absurd h
insert-filling (suc p) b n (t ∷ ts) [] f h = absurd h
insert-filling (suc p) b n (t ∷ ts) (x ∷ q) f h = (h.0, insert-filling p b n ts q f h.1)

both-known :
    (step : Step) (before after : List Bool) (v : Trit) (s : Bool)
    → v ≢ Unknown → agreed (step before after false) (step before after true) ≡ v → step before after s ≡ v
both-known step before after v true k e = (agreed-parts (step before after false) (step before after true) v k e).1
both-known step before after v false k e = (agreed-parts (step before after false) (step before after true) v k e).0

-- Inputs force a state: each filling of them after a change of the input at this place is a point that forces it.
module _ (step : Step) (p : ℕ) (b : Trit) (others : List Trit) (v : Trit) (known : v ≢ Unknown)
    (forced_to : forced step (insert p b others) ≡ v) where
  -- what is forced at a filling of the inputs
  at_filling : (new : Bool) (q : List Bool) → Fits b new → IsFilling others q → forced_at step (insert p new q) ≡ v
  at_filling new q fits filling =
      res-fillings (forced_at step) (insert p b others) v known forced_to (insert p new q)
      (insert-filling p b new others q fits filling)

  -- a change of the input to such a filling gives the value in each state, whatever the input was
  known_step : (old new : Bool) (q : List Bool) (w : Bool) → Fits b new → IsFilling others q
      → step (insert p old q) (insert p new q) w ≡ v
  known_step old new q w fits filling =
      let after : List Bool = insert p new q in
      let both : agreed (step (insert p old q) after false) (step (insert p old q) after true) ≡ v
      = around-insert (λ before. agreed (step before after false) (step before after true)) p new old q v known
      (at_filling new q fits filling) in
      both-known step (insert p old q) after v w known both

  -- so it does where the state is a trit,
  each_state : (s : Trit) (old new : Bool) (q : List Bool) → Fits b new → IsFilling others q
      → over (step (insert p old q) (insert p new q)) s ≡ v
  each_state s old new q fits filling =
      over-known (step (insert p old q) (insert p new q)) s v (λ w _. known_step old new q w fits filling)

  -- where the other inputs are trits,
  each_filling : (s : Trit) (old new : Bool) → Fits b new
      → res (λ q. over (step (insert p old q) (insert p new q)) s) others ≡ v
  each_filling s old new fits =
      fillings-res (λ q. over (step (insert p old q) (insert p new q)) s) others v
      (λ q filling. each_state s old new q fits filling)

  -- where the value after is one,
  each_after : (s : Trit) (old : Bool)
      → over (λ new. res (λ q. over (step (insert p old q) (insert p new q)) s) others) b ≡ v
  each_after s old =
      over-known (λ new. res (λ q. over (step (insert p old q) (insert p new q)) s) others) b v
      (λ new fits. each_filling s old new fits)

  -- and where the value before is one
  each_before : (a s : Trit)
      → over (λ old. over (λ new. res (λ q. over (step (insert p old q) (insert p new q)) s) others) b) a ≡ v
  each_before a s =
      over-known (λ old. over (λ new. res (λ q. over (step (insert p old q) (insert p new q)) s) others) b) a v
      (λ old _. each_after s old)

pub forced_is_step-lem : ForcedIsStep
forced_is_step-lem step p a b others s v e k =
    machine_step-parts step p a b others s ∙ each_before step p b others v k e a s
