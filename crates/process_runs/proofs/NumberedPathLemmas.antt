-- The paths of an entity while each condition stays 0 or not 0.
use Rattle.std.proofs.Common.{◌≡◌, ℕ, zero, suc, not, List, [], ◌∷◌, map, refl, ap, sym, ◌∙◌, Some, slice_get}
use Rattle.std.specs.Prelude.{filter}
use Rattle.std.specs.List.{list_all}
use Rattle.std.specs.Option.{option_map_or}
use Rattle.trit_cubes.specs.declared.trits.Trit.{Trit}
use Rattle.cell_machine.specs.Inputs.{numbered_value}
use Rattle.cell_machine.specs.Outputs.{is_zero}
use Rattle.vital_models.specs.declared.model.HGate.{HGate}
use Rattle.vital_models.specs.declared.model.HGate.TheVariants as gate
use Rattle.vital_models.specs.declared.model.VOutput.{VOutput}
use Rattle.vital_models.specs.declared.model.VEntity.{VEntity}
use Rattle.model_traces.specs.ProcessValues.{truth_value, condition_value}
use Rattle.model_traces.specs.GatedPaths.{gate_holds, begins_at, paths_from}
use Rattle.run_parts.specs.KeptDelays.{zeros}
use Rattle.process_runs.specs.KeptConditions.{condition_values}
use Rattle.process_runs.specs.NumberedPaths.{numbered_paths}
use Rattle.process_runs.proofs.ConditionLemmas.{value-at}

zero-at :
    (xs ys : List Trit) (k : ℕ) → zeros xs ≡ zeros ys → is_zero (numbered_value xs k) ≡ is_zero (numbered_value ys k)
zero-at [] [] k same = refl
zero-at [] (y ∷ ys) k same = absurd cc
zero-at (x ∷ xs) [] k same = absurd cc
zero-at (x ∷ xs) (y ∷ ys) zero same = cc
zero-at (x ∷ xs) (y ∷ ys) (suc k) same = let rest : zeros xs ≡ zeros ys = cc in zero-at xs ys k rest

-- a gate holds where it held
same-gate :
    (e : VEntity) (v w : List Trit) → ((k : ℕ) → is_zero (condition_value e v k) ≡ is_zero (condition_value e w k))
    → (g : HGate) → gate_holds e v g ≡ gate_holds e w g
same-gate e v w same gate.Always = refl
same-gate e v w same (gate.NotZero k) = ap not (same k)
same-gate e v w same (gate.AllZero ks) = λ i. list_all (λ k. same k i) ks

pub same-paths :
    (e : VEntity) (v w : List Trit) → zeros (condition_values e v) ≡ zeros (condition_values e w)
    → (output input : ℕ) → numbered_paths e v output input ≡ numbered_paths e w output input
same-paths e v w same output input =
    let conditions : (k : ℕ) → is_zero (condition_value e v k) ≡ is_zero (condition_value e w k)
    = λ k.
    ap is_zero (sym (value-at (truth_value e.ports v) e.conditions k))
    ∙ zero-at (condition_values e v) (condition_values e w) k same
    ∙ ap is_zero (value-at (truth_value e.ports w) e.conditions k) in
    λ i.
    option_map_or
    (λ (o : VOutput).
    map (λ p. record { active = same-gate e v w conditions p.gate i; rise = p.rise; fall = p.fall })
    (filter (begins_at e.ports input) o.paths))
    (slice_get e.outputs output) []

-- the paths to the output with a number
pub paths-numbered :
    (e : VEntity) (inputs : List Trit) (number input : ℕ) (output : VOutput)
    → slice_get e.outputs number ≡ Some output → numbered_paths e inputs number input ≡ paths_from e inputs input output
paths-numbered e inputs number input output is = ap (λ o. option_map_or (paths_from e inputs input) o []) is
