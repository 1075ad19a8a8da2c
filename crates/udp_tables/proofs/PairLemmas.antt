-- Pairs of cubes that differ in their last place alone, and the rows of compact form.
use Rattle.std.proofs.Common.{◌≡◌, ◌≢◌, ◌≤◌, true, not, ◌⊎◌, inl, inr, List, [], ◌∷◌, map, length, refl, sym, ap, subst, arith}
use Rattle.std.specs.Prelude.{filter}
use Rattle.std.specs.List.{list_any}
use Rattle.std.proofs.lemmas.Bool.{cases_Bool, and_parts, and_from}
use Rattle.trit_cubes.specs.declared.trits.Trit.{Trit}
use Rattle.trit_cubes.specs.declared.trits.Trit.TheVariants.{Zero, One, Unknown}
use Rattle.trit_cubes.specs.Filling.{same}
use Rattle.trit_cubes.proofs.ListLemmas.{Among, among-append, among-map, among-filter}
use Rattle.cell_machine.specs.Machine.{init, last}
use Rattle.udp_tables.specs.Edges.{same_cube, with_last, is_paired, kept_or_one, compact_value_rows}
use Rattle.udp_tables.proofs.FirstLemmas.{any-found}
use Rattle.udp_tables.proofs.CubeLemmas.{same-self, same-is}

-- cubes that differ in their last place
pub same_cube-is : (c d : List Trit) → same_cube c d ≡ true → c ≡ d
same_cube-is [] [] h = refl
same_cube-is [] (t ∷ d) h = absurd cc
same_cube-is (s ∷ c) [] h = absurd cc
same_cube-is (s ∷ c) (t ∷ d) h =
    let both = and_parts (same s t) (same_cube c d) h in
    let first : t ≡ s = same-is s t both.0 in
    let rest : c ≡ d = same_cube-is c d both.1 in
    λ i. sym first i ∷ rest i

pub same_cube-self : (c : List Trit) → same_cube c c ≡ true
same_cube-self [] = refl
same_cube-self (t ∷ c) = and_from (same t t) (same_cube c c) (same-self t) (same_cube-self c)

pub last-with : (t d x : Trit) (xs : List Trit) → last d (with_last t (x ∷ xs)) ≡ t
last-with t d x [] = refl
last-with t d x (y ∷ []) = refl
last-with t d x (y ∷ z ∷ zs) = last-with t d y (z ∷ zs)

pub init-with : (t x : Trit) (xs : List Trit) → init (with_last t (x ∷ xs)) ≡ init (x ∷ xs)
init-with t x [] = refl
init-with t x (y ∷ []) = refl
init-with t x (y ∷ z ∷ zs) = ap (λ ys. x ∷ ys) (init-with t y (z ∷ zs))

pub with-again : (t u d x : Trit) (xs : List Trit) → last d (x ∷ xs) ≡ t → with_last t (with_last u (x ∷ xs)) ≡ x ∷ xs
with-again t u d x [] e = ap (λ v. v ∷ []) (sym e)
with-again t u d x (y ∷ []) e = ap (λ v. x ∷ v ∷ []) (sym e)
with-again t u d x (y ∷ z ∷ zs) e = ap (λ ys. x ∷ ys) (with-again t u d y (z ∷ zs) e)

-- the same of a cube that has places
pub last-of : (t : Trit) (c : List Trit) → 3 ≤ length c → last Unknown (with_last t c) ≡ t
last-of t [] l = absurd (omega arith)
last-of t (x ∷ xs) l = last-with t Unknown x xs

pub again-of : (t u : Trit) (c : List Trit) → 3 ≤ length c → last Unknown c ≡ t → with_last t (with_last u c) ≡ c
again-of t u [] l e = absurd (omega arith)
again-of t u (x ∷ xs) l e = with-again t u Unknown x xs e

-- the other cube of a pair
pub twin :
    (state other : Trit) (cubes : List (List Trit)) (c : List Trit)
    → is_paired state other cubes c ≡ true
    → (last Unknown c ≡ state) × Among (with_last other c) cubes
twin state other cubes c h =
    let both = and_parts (same state (last Unknown c)) (list_any (same_cube (with_last other c)) cubes) h in
    let r = any-found (same_cube (with_last other c)) cubes both.1 in
    (same-is state (last Unknown c) both.0, subst (λ d. Among d cubes) (sym (same_cube-is (with_last other c) r.0 r.2)) r.1)

-- rows of compact form
pub compact-among :
    {R : Type 0} (make : Trit → List Trit → R) (keep : List Trit → R) (cubes : Trit → List (List Trit)) (row : R)
    → Among row (compact_value_rows make keep (cubes One) (cubes Zero))
    → ((c : List Trit) × Among c (cubes One) × (is_paired One Zero (cubes Zero) c ≡ true) × (keep c ≡ row))
    ⊎ ((v : Trit) × (v ≢ Unknown) × (c : List Trit) × Among c (cubes v) × (make v c ≡ row))
compact-among make keep cubes row m =
    elim (among-append row (map (kept_or_one make keep (cubes Zero)) (cubes One))
    (map (make Zero) (filter (λ c. not (is_paired Zero One (cubes One) c)) (cubes Zero))) m) [
      | inl h ↦
          let r = among-map (kept_or_one make keep (cubes Zero)) row (cubes One) h in
          elim (cases_Bool (is_paired One Zero (cubes Zero) r.0)) [
            | inl e ↦ inl (r.0, r.2, e, rw e at r.1)
            | inr e ↦ inr (One, (λ k. cc), r.0, r.2, rw e at r.1)
          ]
      | inr h ↦
          let r = among-map (make Zero) row (filter (λ c. not (is_paired Zero One (cubes One) c)) (cubes Zero)) h in
          inr (Zero, (λ k. cc), r.0, (among-filter (λ c. not (is_paired Zero One (cubes One) c)) r.0 (cubes Zero) r.2).0, r.1)
    ]
