-- The delays of a model's paths that are kept.
use Rattle.std.proofs.Common.{◌≡◌, ℕ, zero, suc, ◌<◌, true, false, List, [], ◌∷◌, map, set, ap, sym, ◌∙◌, refl}
use Rattle.std.proofs.Common.{Option, Some, slice_get, get_or, unwrap_or, arith, if◌then◌else◌, subst}
use Rattle.std.specs.Prelude.{filter}
use Rattle.trit_cubes.specs.declared.trits.Trit.{Trit}
use Rattle.trit_cubes.specs.declared.trits.Trit.TheVariants.{Zero, One}
use Rattle.cell_machine.specs.Delay.{Path, least, least_delay}
use Rattle.cell_machine.specs.Edges.{is_rise}
use Rattle.run_parts.specs.declared.kept_delay.KeptDelay.{KeptDelay}
use Rattle.cell_machine.specs.Outputs.{is_zero}
use Rattle.run_parts.specs.KeptDelays.{IsFound, AreFound, zeros}

-- every possible rise has the same delay, and so has every other change
pub least-rise : (a b : Trit) (paths : List Path) → is_rise a b ≡ true → least_delay a b paths ≡ least_delay Zero One paths
least-rise a b paths e =
    λ i. unwrap_or
    (least (map (λ (p : Path). if e i then p.rise else p.fall) (filter (λ (p : Path). p.active) paths))) 0

pub least-fall : (a b : Trit) (paths : List Path) → is_rise a b ≡ false → least_delay a b paths ≡ least_delay One Zero paths
least-fall a b paths e =
    λ i. unwrap_or
    (least (map (λ (p : Path). if e i then p.rise else p.fall) (filter (λ (p : Path). p.active) paths))) 0

-- an entry of a list in which one was set is that one or stood there before
set-entry :
    {X : Type 0} (P : X → Type 0) (xs : List X) (k i : ℕ) (new x : X)
    → ((j : ℕ) (y : X) → slice_get xs j ≡ Some y → P y) → P new → slice_get (set xs k new) i ≡ Some x → P x
set-entry P [] k i new x all own e = absurd cc
set-entry P (y ∷ ys) zero zero new x all own e = let same : new ≡ x = cc in subst P same own
set-entry P (y ∷ ys) zero (suc i) new x all own e = all (suc i) x e
set-entry P (y ∷ ys) (suc k) zero new x all own e = all zero x e
set-entry P (y ∷ ys) (suc k) (suc i) new x all own e = set-entry P ys k i new x (λ j z is. all (suc j) z is) own e

-- one delay more is kept
pub one-found :
    (a b : Trit) (paths : ℕ → ℕ → List Path) (turn : Option ℕ) (all new : List KeptDelay) (place : ℕ) (found : KeptDelay)
    → new ≡ set all place found → AreFound a b paths turn all → IsFound a b paths turn found → AreFound a b paths turn new
one-found a b paths turn all new place found is are own =
    λ i x e.
    set-entry (IsFound a b paths turn) all place i found x are own (ap (λ (xs : List KeptDelay). slice_get xs i) (sym is) ∙ e)

-- a delay of this turn
pub found-now :
    (a b : Trit) (paths : ℕ → ℕ → List Path) (turn : Option ℕ) (now : ℕ) (found : KeptDelay)
    → turn ≡ Some now → found.turn ≡ now → found.delay ≡ least_delay a b (paths found.output found.input)
    → IsFound a b paths turn found
found-now a b paths turn now found is same right =
    record {
      right = λ e. right;
      before = λ last e. let l : last ≡ now = cc in omega (arith, l, same);
    }

-- at a later turn nothing is kept
pub found-later :
    (a b c d : Trit) (before now : ℕ → ℕ → List Path) (turn next : Option ℕ) (all : List KeptDelay)
    → ((later : ℕ) → next ≡ Some later → (earlier : ℕ) × (turn ≡ Some earlier) × (earlier < later))
    → AreFound a b before turn all → AreFound c d now next all
found-later a b c d before now turn next all order are =
    λ i x e.
    record {
      right = λ is. let o = order x.turn is in let was = (are i x e).before o.0 o.1 in absurd (omega (arith, was, o.2));
      before = λ last is. let o = order last is in let was = (are i x e).before o.0 o.1 in omega (arith, was, o.2);
    }

-- the same delays by paths that are the same
pub found-same :
    (a b : Trit) (before now : ℕ → ℕ → List Path) (turn : Option ℕ) (all : List KeptDelay)
    → ((output input : ℕ) → before output input ≡ now output input) → AreFound a b before turn all → AreFound a b now turn all
found-same a b before now turn all same are =
    λ i x e.
    record {
      right = λ is. (are i x e).right is ∙ ap (least_delay a b) (same x.output x.input);
      before = (are i x e).before;
    }

-- a delay that was found at this turn for an output and an input
pub found-delay :
    (a b : Trit) (paths : ℕ → ℕ → List Path) (turn : Option ℕ) (found : KeptDelay) (output input delay : ℕ)
    → IsFound a b paths turn found → turn ≡ Some found.turn → found.output ≡ output → found.input ≡ input → found.delay ≡ delay
    → delay ≡ least_delay a b (paths output input)
found-delay a b paths turn found output input delay is now o i d =
    sym d ∙ is.right now ∙ (λ j. least_delay a b (paths (o j) (i j)))

-- a gate that stays 0 or not 0 leaves which of them are 0
pub zeros-kept :
    (values : List Trit) (i : ℕ) (d v : Trit) → is_zero (get_or values i d) ≡ is_zero v
    → zeros (set values i v) ≡ zeros values
zeros-kept [] i d v same = refl
zeros-kept (x ∷ values) zero d v same = ap (λ b. b ∷ zeros values) (sym same)
zeros-kept (x ∷ values) (suc i) d v same = ap (λ bs. is_zero x ∷ bs) (zeros-kept values i d v same)
