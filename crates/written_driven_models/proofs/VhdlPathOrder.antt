-- Paths in the order of the outputs to which they lead are those to the first output, those to the next one, and so on.
use Rattle.std.proofs.Common.{◌≡◌, ℕ, zero, suc, ◌+◌, ◌<◌, ◌≤◌, nat_eq, nat_le, IsTrue, List, [], ◌∷◌, ◌++◌, map, inl, inr, refl}
use Rattle.std.proofs.Common.{sym, ap, ◌∙◌, arith}
use Rattle.std.specs.List.{AllByRecursion}
use Rattle.std.proofs.lemmas.Bool.{and_parts, cases_Bool, eqb-true, eqb-false, eq-eqb, ne_eqb, leb-true}
use Rattle.written_modules.specs.cell_machine.CellRules.{is_in_order}
use Rattle.driven_traces.specs.declared.delays.DrivePath.{DrivePath}
use Rattle.vhdl_drivers.specs.DriverText.{paths_to}

abbrev drive_of : DrivePath → ℕ
drive_of path = path.drive

-- the paths to so many outputs, from the one with a number on
abbrev pub paths_from : List DrivePath → ℕ → ℕ → List DrivePath
paths_from paths k zero = []
paths_from paths k (suc n) = paths_to k paths ++ paths_from paths (k + 1) n

abbrev AreBehind : ℕ → List DrivePath → Type 0
AreBehind k paths = AllByRecursion (λ (path : DrivePath). k ≤ path.drive) paths

one_to : (k : ℕ) (path : DrivePath) (paths : List DrivePath) → path.drive ≡ k
    → paths_to k (path ∷ paths) ≡ path ∷ paths_to k paths
one_to k path paths e = rw (eq-eqb path.drive k e) refl

none_to : (k : ℕ) (path : DrivePath) (paths : List DrivePath) → (path.drive ≡ k → ⊥)
    → paths_to k (path ∷ paths) ≡ paths_to k paths
none_to k path paths e = rw (ne_eqb path.drive k e) refl

no_paths : (k : ℕ) (paths : List DrivePath) → AreBehind (k + 1) paths → paths_to k paths ≡ []
no_paths k [] h = refl
no_paths k (path ∷ paths) h = none_to k path paths (λ e. omega (arith, e, h.0)) ∙ no_paths k paths h.1

behind_less : (j k : ℕ) (paths : List DrivePath) → j ≤ k → AreBehind k paths → AreBehind j paths
behind_less j k [] l h = tt
behind_less j k (path ∷ paths) l h = (omega (arith, l, h.0), behind_less j k paths l h.1)

-- a path to an earlier output counts no more
passed : (n k : ℕ) (path : DrivePath) (paths : List DrivePath) → path.drive < k
    → paths_from (path ∷ paths) k n ≡ paths_from paths k n
passed zero k path paths l = refl
passed (suc n) k path paths l =
    ap (λ (q : List DrivePath). q ++ paths_from (path ∷ paths) (k + 1) n) (none_to k path paths (λ e. omega (arith, e, l)))
    ∙ ap (λ (q : List DrivePath). paths_to k paths ++ q) (passed n (k + 1) path paths (omega (arith, l)))

put_first : (n k : ℕ) (path : DrivePath) (paths : List DrivePath) → k ≤ path.drive → path.drive < k + n
    → AreBehind path.drive paths →
    paths_from (path ∷ paths) k n ≡ path ∷ paths_from paths k n
put_first zero k path paths low high h = absurd (omega (arith, low, high))
put_first (suc n) k path paths low high h = elim (cases_Bool (nat_eq path.drive k)) [
  | inl t ↦ (let same = eqb-true path.drive k t in
      ap (λ (q : List DrivePath). q ++ paths_from (path ∷ paths) (k + 1) n) (one_to k path paths same)
      ∙ ap (λ (q : List DrivePath). path ∷ (paths_to k paths ++ q)) (passed n (k + 1) path paths (omega (arith, same))))
  | inr f ↦ (let other = eqb-false path.drive k f in
      let none : paths_to k paths ≡ [] = no_paths k paths (behind_less (k + 1) path.drive paths (omega (arith, other, low)) h) in
      ap (λ (q : List DrivePath). q ++ paths_from (path ∷ paths) (k + 1) n) (none_to k path paths other ∙ none)
      ∙ put_first n (k + 1) path paths (omega (arith, other, low)) (omega (arith, high)) h
      ∙ ap (λ (q : List DrivePath). path ∷ (q ++ paths_from paths (k + 1) n)) (sym none))
]

none_from : (n k : ℕ) → paths_from [] k n ≡ []
none_from zero k = refl
none_from (suc n) k = none_from n (k + 1)

behind_first : (path : DrivePath) (paths : List DrivePath) → IsTrue (is_in_order (map drive_of (path ∷ paths)))
    → AreBehind path.drive paths
behind_first path [] h = tt
behind_first path (next ∷ paths) h =
    let parts = and_parts (nat_le path.drive next.drive) (is_in_order (map drive_of (next ∷ paths))) h in
    let low = leb-true path.drive next.drive parts.0 in
    (low, behind_less path.drive next.drive paths low (behind_first next paths parts.1))

order_behind : (path : DrivePath) (paths : List DrivePath) → IsTrue (is_in_order (map drive_of (path ∷ paths)))
    → IsTrue (is_in_order (map drive_of paths))
order_behind path [] h = refl
order_behind path (next ∷ paths) h = (and_parts (nat_le path.drive next.drive) (is_in_order (map drive_of (next ∷ paths))) h).1

-- paths in order, to so many outputs
pub all_from : (n : ℕ) (paths : List DrivePath) → IsTrue (is_in_order (map (λ (path : DrivePath). path.drive) paths))
    → AllByRecursion (λ (path : DrivePath). path.drive < n) paths → paths_from paths 0 n ≡ paths
all_from n [] h below = none_from n 0
all_from n (path ∷ paths) h below =
    put_first n 0 path paths (omega arith) (omega (arith, below.0)) (behind_first path paths h)
    ∙ ap (λ (q : List DrivePath). path ∷ q) (all_from n paths (order_behind path paths h) below.1)
