-- The least delay of arcs, arc by arc.
use Rattle.std.proofs.Common.{◌≡◌, ℕ, true, false, List, [], ◌∷◌, map, refl, sym, ap, ◌∙◌, Option, Some, None, arith}
use Rattle.std.proofs.Common.{add-one, zero, suc, ◌+◌, ◌<◌, length, drop, slice_get, cond, if◌then◌else◌}
use Rattle.std.specs.Prelude.{filter}
use Rattle.trit_cubes.specs.declared.trits.Trit.{Trit}
use Rattle.cell_machine.specs.declared.pins.Pin.{Pin}
use Rattle.cell_machine.specs.declared.arcs.Arc.{Arc}
use Rattle.cell_machine.specs.Delay.{Path, lesser, least, path_delay}
use Rattle.cell_machine.specs.CellTrace.{is_active, path_of}
use Rattle.cell_machine.specs.ArcDelay.{arc_delay, least_of}
use Rattle.cell_machine.proofs.LeastLemmas.{lesser_assoc}

pub drop-at : {X : Type 0} (xs : List X) (i : ℕ) (x : X) → slice_get xs i ≡ Some x → drop i xs ≡ x ∷ drop (suc i) xs
drop-at [] i x e = absurd cc
drop-at (y ∷ ys) zero x e = let is : y ≡ x = cc in ap (λ z. z ∷ ys) is
drop-at (y ∷ ys) (suc i) x e = drop-at ys i x e

-- there is an element at each place inside
pub some_at : {X : Type 0} (xs : List X) (i : ℕ) → i < length xs → (x : X) × (slice_get xs i ≡ Some x)
some_at [] i h = absurd (omega arith)
some_at (x ∷ xs) zero h = (x, refl)
some_at (x ∷ xs) (suc i) h = some_at xs i (omega arith)

-- one arc and the rest
least_of-first :
    (pins : List Pin) (arcs : List Arc) (v : List Trit) (a b : Trit) (arc : Arc) (rest : List Arc)
    → least_of pins arcs v a b (arc ∷ rest) ≡ lesser (arc_delay pins arcs v a b arc) (least_of pins arcs v a b rest)
least_of-first pins arcs v a b arc rest =
    let own : Path = path_of pins arcs v arc in
    let paths : List Path = filter (λ (path : Path). path.active) (map (path_of pins arcs v) rest) in
    elim (is_active pins arcs v arc arc.condition) as (λ m.
    least (map (path_delay a b) (cond m (own ∷ paths) paths))
    ≡ lesser (if m then Some (path_delay a b own) else None) (least_of pins arcs v a b rest)) [ true ↦ refl | false ↦ refl ]

-- one more arc of a list
pub least_of-more :
    (pins : List Pin) (arcs : List Arc) (v : List Trit) (a b : Trit) (rest : List Arc) (i : ℕ) (arc : Arc) (best more : Option ℕ)
    → slice_get rest i ≡ Some arc → more ≡ arc_delay pins arcs v a b arc
    → lesser (lesser best more) (least_of pins arcs v a b (drop (i + 1) rest))
    ≡ lesser best (least_of pins arcs v a b (drop i rest))
least_of-more pins arcs v a b rest i arc best more e is =
    let tail : Option ℕ = least_of pins arcs v a b (drop (suc i) rest) in
    rw add-one
    (lesser_assoc best more tail
    ∙ ap (λ m. lesser best (lesser m tail)) is
    ∙ ap (lesser best) (sym (least_of-first pins arcs v a b arc (drop (suc i) rest)))
    ∙ ap (λ xs. lesser best (least_of pins arcs v a b xs)) (sym (drop-at rest i arc e)))
