-- Rows of steps, of any kind of row: those of the forced points, and of which input a row of a change is.
use Rattle.std.proofs.Common.{◌≡◌, ◌≢◌, ℕ, suc, ◌<◌, ◌≤◌, Bool, true, false, inl, inr, List, length, get_or, refl, sym, ◌∙◌, ap}
use Rattle.std.proofs.Common.{subst, arith}
use Rattle.std.specs.List.{list_any}
use Rattle.std.proofs.lemmas.Bool.{cases_lt}
use Rattle.trit_cubes.specs.declared.trits.Trit.{Trit}
use Rattle.trit_cubes.specs.declared.trits.Trit.TheVariants.{Unknown}
use Rattle.trit_cubes.specs.Filling.{covers}
use Rattle.trit_cubes.specs.Sets.{gives}
use Rattle.trit_cubes.specs.Prime.{prime_list}
use Rattle.trit_cubes.proofs.ListLemmas.{Among}
use Rattle.trit_cubes.proofs.SplitLemmas.{prime_list-length}
use Rattle.cell_machine.specs.Machine.{Step, insert, forced_at, forced}
use Rattle.udp_tables.specs.Edges.{forced_rows, each_below}
use Rattle.udp_tables.proofs.FirstLemmas.{found-any}
use Rattle.udp_tables.proofs.ColumnLemmas.{at-other}
use Rattle.udp_tables.proofs.CubeLemmas.{prime-gives, prime-found, value_rows-among, among-value_rows, below-among}

-- How rows of forced points fit these inputs: the row of a cube is hit where the cube covers them, and gives the value that it is
-- made for.
pub record FitsForced (R : Type 0) (n : ℕ) (inputs : List Trit) (make : Trit → List Trit → R) (hit : R → Bool) (next : R → Trit) :
    Type 0 where
  pub long : length inputs ≡ n
  pub made : (v : Trit) (c : List Trit) → length c ≡ n → hit (make v c) ≡ covers c inputs
  pub gives : (v : Trit) (c : List Trit) → next (make v c) ≡ v

module _
    {R : Type 0} {n : ℕ} {inputs : List Trit} {make : Trit → List Trit → R} {hit : R → Bool} {next : R → Trit} (step : Step)
    (fits : FitsForced R n inputs make hit next) where
  -- a row that is hit gives the forced value
  pub forced-given :
      (row : R) → Among row (forced_rows make n step) → hit row ≡ true
      → (v : Trit) × (v ≢ Unknown) × (forced step inputs ≡ v) × (next row ≡ v)
  forced-given row m h =
      let r = value_rows-among make (λ (v : Trit). prime_list n (gives v (forced_at step))) row m in
      let long : length r.2 ≡ n = prime_list-length n (gives r.0 (forced_at step)) r.2 r.3 in
      let covered : covers r.2 inputs ≡ true = sym (fits.made r.0 r.2 long) ∙ ap hit r.4 ∙ h in
      (r.0, r.1, prime-gives n (forced_at step) r.0 r.2 inputs r.1 fits.long r.3 covered, ap next (sym r.4) ∙ fits.gives r.0 r.2)

  -- where the forced value is known, some row is hit
  pub forced-found : forced step inputs ≢ Unknown → list_any hit (forced_rows make n step) ≡ true
  forced-found known =
      let v : Trit = forced step inputs in
      let r = prime-found n (forced_at step) v inputs known fits.long refl in
      found-any hit (make v r.0) (forced_rows make n step)
      (among-value_rows make (λ (w : Trit). prime_list n (gives w (forced_at step))) v r.0 known r.1)
      (fits.made v r.0 (prime_list-length n (gives v (forced_at step)) r.0 r.1) ∙ r.2)

-- Where only input p changes, a row of a change that is hit is one of that input, since no other matches.
pub changed-own :
    {R : Type 0} (changes : ℕ → List R) (hit : R → Bool) (n p : ℕ) (a b : Trit) (others : List Trit)
    → p < n → suc (length others) ≡ n
    → ((q : ℕ) (row : R) → q < n → Among row (changes q)
    → get_or (insert p a others) q Unknown ≡ get_or (insert p b others) q Unknown → hit row ≡ false)
    → (row : R) → Among row (each_below changes n) → hit row ≡ true → Among row (changes p)
changed-own changes hit n p a b others l long still row m h =
    let r = below-among changes n row m in
    elim (cases_lt r.0 p) [
      | inl less ↦ absurd (apart r.0 r.1 r.2 (omega arith))
      | inr more ↦
          elim (cases_lt p r.0) [
            | inl less ↦ absurd (apart r.0 r.1 r.2 (omega arith))
            | inr same_place ↦ let e : r.0 ≡ p = omega arith in subst (λ i. Among row (changes i)) e r.2
          ]
    ]
  where
    apart : (q : ℕ) → q < n → Among row (changes q) → q ≢ p → ⊥
    apart q inside k differ =
        let within : p ≤ length others = omega arith in
        let clash : false ≡ true = sym (still q row inside k (at-other p q a b Unknown others differ within)) ∙ h in
        cc
