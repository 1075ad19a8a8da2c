-- The least delay of paths, path by path.
use Rattle.std.proofs.Common.{◌≡◌, ℕ, suc, true, false, ◌&&◌, Bool, List, ◌∷◌, ◌+◌, map, drop, refl, sym, ap, ◌∙◌, Option, Some}
use Rattle.std.proofs.Common.{None, add-one, slice_get, cond, if◌then◌else◌}
use Rattle.std.specs.Prelude.{filter}
use Rattle.trit_cubes.specs.declared.trits.Trit.{Trit}
use Rattle.cell_machine.specs.Delay.{Path, lesser, least, path_delay, active_delays}
use Rattle.cell_machine.proofs.LeastLemmas.{lesser_assoc}
use Rattle.cell_machine.proofs.ArcDelays.{drop-at}
use Rattle.run_parts.specs.LeastPath.{path_delay_of, least_of}

-- one path and the rest
least_of-first :
    {X : Type 0} (leads : X → Bool) (path : X → Path) (a b : Trit) (x : X) (rest : List X)
    → least_of leads path a b (x ∷ rest) ≡ lesser (path_delay_of leads path a b x) (least_of leads path a b rest)
least_of-first {X} leads path a b x rest =
    let others : List X = filter leads rest in
    let least_rest : Option ℕ = least_of leads path a b rest in
    let own : Path = path x in
    let paths : List Path = filter (λ (p : Path). p.active) (map path others) in
    elim (leads x) as (λ m.
    least (active_delays a b (map path (cond m (x ∷ others) others)))
    ≡ lesser (if m && (path x).active then Some (path_delay a b own) else None) least_rest) [
      | true ↦ elim ((path x).active) as (λ m.
          least (map (path_delay a b) (cond m (own ∷ paths) paths))
          ≡ lesser (if m then Some (path_delay a b own) else None) least_rest) [ true ↦ refl | false ↦ refl ]
      | false ↦ refl
    ]

-- one more path of a list
pub least_of-step :
    {X : Type 0} (leads : X → Bool) (path : X → Path) (a b : Trit) (rest : List X) (i : ℕ) (x : X) (best more : Option ℕ)
    → slice_get rest i ≡ Some x → more ≡ path_delay_of leads path a b x
    → lesser (lesser best more) (least_of leads path a b (drop (i + 1) rest))
    ≡ lesser best (least_of leads path a b (drop i rest))
least_of-step leads path a b rest i x best more e is =
    let tail : Option ℕ = least_of leads path a b (drop (suc i) rest) in
    rw add-one
    (lesser_assoc best more tail
    ∙ ap (λ m. lesser best (lesser m tail)) is
    ∙ ap (lesser best) (sym (least_of-first leads path a b x (drop (suc i) rest)))
    ∙ ap (λ xs. lesser best (least_of leads path a b xs)) (sym (drop-at rest i x e)))
