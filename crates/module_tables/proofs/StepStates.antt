-- Next states from each state, and at each value of the register.
use Rattle.std.proofs.Common.{◌≡◌, ◌≢◌, ℕ, zero, suc, Bool, true, false, List, [], ◌∷◌, ◌++◌, length, refl, ◌∙◌, ap, arith}
use Rattle.trit_cubes.specs.declared.trits.Trit.{Trit}
use Rattle.trit_cubes.specs.declared.trits.Trit.TheVariants.{Zero, One, Unknown}
use Rattle.trit_cubes.specs.Resolution.{agreed, res}
use Rattle.cell_machine.specs.Inputs.{numbered_value}
use Rattle.cell_machine.specs.CellData.{CellData}
use Rattle.cell_machine.specs.CellTrace.{support_at}
use Rattle.udp_tables.specs.Sequential.{noted}
use Rattle.udp_tables.specs.CellPrimitives.{has_notifier}
use Rattle.row_selection.specs.NextStates.{next_states}
use Rattle.module_tables.specs.declared.net_rows.NetRows.{NetRows}
use Rattle.module_tables.specs.LookUps.{looked_up, IgnoresNet, IgnoresNote}

-- what agrees in pairs
agreed-pairs : (a b c d : Trit) → agreed (agreed a b) (agreed c d) ≡ agreed (agreed a c) (agreed b d)
agreed-pairs a b c d = grind arith

-- an unknown last place is resolved by both of its values
pub res-unknown :
    (f : List Bool → Trit) (ts : List Trit)
    → agreed (res f (ts ++ Zero ∷ [])) (res f (ts ++ One ∷ [])) ≡ res f (ts ++ Unknown ∷ [])
res-unknown f [] = refl
res-unknown f (Zero ∷ ts) = res-unknown (λ p. f (false ∷ p)) ts
res-unknown f (One ∷ ts) = res-unknown (λ p. f (true ∷ p)) ts
res-unknown f (Unknown ∷ ts) =
    agreed-pairs (res (λ p. f (false ∷ p)) (ts ++ Zero ∷ [])) (res (λ p. f (true ∷ p)) (ts ++ Zero ∷ []))
    (res (λ p. f (false ∷ p)) (ts ++ One ∷ [])) (res (λ p. f (true ∷ p)) (ts ++ One ∷ []))
    ∙ (λ i. agreed (res-unknown (λ p. f (false ∷ p)) ts i) (res-unknown (λ p. f (true ∷ p)) ts i))

-- two functions of the state that give the same from each
pub states-same : (f g : Trit → Trit) → next_states f ≡ next_states g → (s : Trit) → f s ≡ g s
states-same f g e Zero = ap (λ n. n.zero) e
states-same f g e One = ap (λ n. n.one) e
states-same f g e Unknown = ap (λ n. n.unknown) e

-- lists with one more value at the end
apart-last :
    (values : List Trit) (s t : Trit) (k : ℕ) → k ≢ length values
    → numbered_value (values ++ s ∷ []) k ≡ numbered_value (values ++ t ∷ []) k
apart-last [] s t zero h = absurd (h refl)
apart-last [] s t (suc k) h = refl
apart-last (v ∷ values) s t zero h = refl
apart-last (v ∷ values) s t (suc k) h = apart-last values s t k (λ e. h (ap suc e))

pub note-ignored : (d : CellData) (g : ℕ) (r : NetRows) → IgnoresNet (length (support_at d g)) r → IgnoresNote d g r
note-ignored d g r h = record { same_next = λ note s values long. by (has_notifier d) note s values long }
  where
    by :
        (b : Bool) (note s : Trit) (values : List Trit) → length values ≡ length (support_at d g)
        → looked_up r (noted b note values) s ≡ looked_up r (noted b Unknown values) s
    by false note s values long = refl
    by true note s values long =
        h.same_next (values ++ note ∷ []) (values ++ Unknown ∷ []) s
        (λ k out. apart-last values note Unknown k (λ e. out (e ∙ long)))
