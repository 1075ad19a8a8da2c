-- A step over values of all names is the step over points of the support.
use Rattle.std.proofs.Common.{◌≡◌, ◌≢◌, ℕ, zero, suc, ◌<◌, Bool, true, false, List, [], ◌∷◌, ◌++◌, length, get_or, set, refl, sym}
use Rattle.std.proofs.Common.{ap, ◌∙◌, subst, arith, IsTrue}
use Rattle.std.proofs.lemmas.Bool.{and_parts, ltb-true}
use Rattle.std.proofs.lemmas.List.{get_or-set_other, get_or-set_same}
use Rattle.std.proofs.Math.ListN.{length-set}
use Rattle.trit_cubes.specs.declared.trits.Trit.{Trit}
use Rattle.trit_cubes.specs.declared.trits.Trit.TheVariants.{Zero, One, Unknown}
use Rattle.trit_cubes.specs.Resolution.{agreed, res}
use Rattle.cell_machine.specs.declared.groups.StateGroup.{StateGroup}
use Rattle.cell_machine.specs.CellRules.{is_ascending}
use Rattle.cell_machine.specs.Machine.{Step, insert, without, init, last, edge_value, machine_step, around, forced, over}
use Rattle.cell_machine.specs.Values.{no_values, written, picked}
use Rattle.cell_machine.specs.Step.{group_step}
use Rattle.cell_machine.specs.Supports.{AllAbove, Ascending, AllBelow}
use Rattle.cell_machine.specs.Fillings.{both_states, forced_after}

above-less : (x y : ℕ) (ys : List ℕ) → x < y → AllAbove y ys → AllAbove x ys
above-less x y [] h k = tt
above-less x y (z ∷ zs) h k = let l : y < z = k.0 in (omega arith, above-less x y zs h k.1)

pub ascending : (xs : List ℕ) → IsTrue (is_ascending xs) → Ascending xs
ascending [] h = tt
ascending (x ∷ []) h = (tt, tt)
ascending (x ∷ y ∷ ys) h =
    let parts = and_parts _ _ h in
    let lt : x < y = ltb-true x y parts.0 in
    let rest : Ascending (y ∷ ys) = ascending (y ∷ ys) parts.1 in
    ((lt, above-less x y ys lt rest.0), rest)

-- a place below all that are written keeps its value
written-below :
    (xs : List ℕ) (point values : List Bool) (x : ℕ)
    → AllAbove x xs → get_or (written values xs point) x false ≡ get_or values x false
written-below [] point values x h = refl
written-below (y ∷ ys) [] values x h = refl
written-below (y ∷ ys) (b ∷ bs) values x h =
    let lt : x < y = h.0 in
    let differ : x ≢ y = omega arith in
    written-below ys bs (set values y b) x h.1 ∙ get_or-set_other values y x b false differ

-- What was written is there.
pub picked-written :
    (support : List ℕ) (point values : List Bool)
    → Ascending support → AllBelow (length values) support → length support ≡ length point
    → picked (written values support point) support ≡ point
picked-written [] [] values a h e = refl
picked-written [] (b ∷ bs) values a h e = absurd (omega arith)
picked-written (x ∷ xs) [] values a h e = absurd (omega arith)
picked-written (x ∷ xs) (b ∷ bs) values a h e =
    let first : get_or (written (set values x b) xs bs) x false ≡ b =
    written-below xs bs (set values x b) x a.0 ∙ get_or-set_same values x b false h.0 in
    let below : AllBelow (length (set values x b)) xs = subst (λ n. AllBelow n xs) (sym (length-set values x b)) h.1 in
    let rest : picked (written (set values x b) xs bs) xs ≡ bs =
    picked-written xs bs (set values x b) a.1 below (omega arith) in
    λ i. first i ∷ rest i

pub res-same :
    (f g : List Bool → Trit) (ts : List Trit)
    → ((p : List Bool) → length p ≡ length ts → f p ≡ g p) → res f ts ≡ res g ts
res-same f g [] h = h [] refl
res-same f g (Zero ∷ ts) h = res-same _ _ ts (λ p e. h (false ∷ p) (ap suc e))
res-same f g (One ∷ ts) h = res-same _ _ ts (λ p e. h (true ∷ p) (ap suc e))
res-same f g (Unknown ∷ ts) h =
    λ i. agreed (res-same (λ p. f (false ∷ p)) (λ p. g (false ∷ p)) ts (λ p e. h (false ∷ p) (ap suc e)) i)
    (res-same (λ p. f (true ∷ p)) (λ p. g (true ∷ p)) ts (λ p e. h (true ∷ p) (ap suc e)) i)

pub res-first : (f : List Bool → Trit) (t : Trit) (ts : List Trit) → res f (t ∷ ts) ≡ over (λ b. res (λ p. f (b ∷ p)) ts) t
res-first f Zero ts = refl
res-first f One ts = refl
res-first f Unknown ts = refl

pub res-last :
    (f : List Bool → Trit) (ts : List Trit) (t : Trit)
    → res f (ts ++ t ∷ []) ≡ res (λ p. over (λ b. f (p ++ b ∷ [])) t) ts
res-last f [] Zero = refl
res-last f [] One = refl
res-last f [] Unknown = refl
res-last f (Zero ∷ ts) t = res-last (λ p. f (false ∷ p)) ts t
res-last f (One ∷ ts) t = res-last (λ p. f (true ∷ p)) ts t
res-last f (Unknown ∷ ts) t =
    λ i. agreed (res-last (λ p. f (false ∷ p)) ts t i) (res-last (λ p. f (true ∷ p)) ts t i)

pub over-same : (f g : Bool → Trit) (t : Trit) → ((b : Bool) → f b ≡ g b) → over f t ≡ over g t
over-same f g t h = λ i. over (λ b. h b i) t

pub init-append : {X : Type 0} (xs : List X) (x : X) → init (xs ++ x ∷ []) ≡ xs
init-append [] x = refl
init-append (y ∷ []) x = refl
init-append (y ∷ z ∷ zs) x = ap (λ r. y ∷ r) (init-append (z ∷ zs) x)

pub last-append : {X : Type 0} (d : X) (xs : List X) (x : X) → last d (xs ++ x ∷ []) ≡ x
last-append d [] x = refl
last-append d (y ∷ []) x = refl
last-append d (y ∷ z ∷ zs) x = last-append d (z ∷ zs) x

-- The machine step, by the parts of the point.
pub machine_step-parts :
    (step : Step) (p : ℕ) (a b : Trit) (others : List Trit) (s : Trit)
    → machine_step step p a b others s
    ≡ over (λ old. over (λ new. res (λ q. over (λ v. step (insert p old q) (insert p new q) v) s) others) b) a
machine_step-parts step p a b others s =
    res-first (edge_value step p) a (b ∷ others ++ s ∷ [])
    ∙ over-same _ _ a (λ old.
    res-first (λ r. edge_value step p (old ∷ r)) b (others ++ s ∷ [])
    ∙ over-same _ _ b (λ new.
    res-last (λ r. edge_value step p (old ∷ new ∷ r)) others s
    ∙ res-same _ _ others (λ q e. over-same _ _ s (λ v. λ i.
    step (insert p old (init-append q v i)) (insert p new (init-append q v i)) (last-append false q v i)))))

pub length-without : {X : Type 0} (p : ℕ) (xs : List X) → p < length xs → length xs ≡ suc (length (without p xs))
length-without p [] h = absurd (omega arith)
length-without zero (x ∷ xs) h = refl
length-without (suc p) (x ∷ xs) h = ap suc (length-without p xs (omega arith))

-- The forced value of a group is the forced value filling by filling.
pub forced-filled :
    (group : StateGroup) (name : ℕ) (ts : List Trit)
    → Ascending group.support → AllBelow (length no_values) group.support → length ts ≡ length group.support
    → forced (group_step name group) ts
    ≡ res (λ p. forced_after group.kind name group.support (written no_values group.support p)) ts
forced-filled group name ts ascends inside equal =
    res-same _ _ ts (λ p e. λ i.
    around (λ q. both_states group.kind name (written no_values group.support q) (written no_values group.support p))
    (sym (picked-written group.support p no_values ascends inside (sym equal ∙ sym e)) i))
