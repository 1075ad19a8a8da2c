-- Values by where the nets of one list stand among those of another.
use Rattle.std.proofs.Common.{◌≡◌, ℕ, zero, suc, ◌≤◌, Bool, true, false, List, [], ◌∷◌, map, length, Option, None, Some}
use Rattle.std.proofs.Common.{unwrap_or, position, slice_index_or, refl, arith}
use Rattle.std.specs.Option.{option_map_or}
use Rattle.std.proofs.lemmas.List.{length-append}
use Rattle.trit_cubes.specs.declared.trits.Trit.{Trit}
use Rattle.trit_cubes.specs.declared.trits.Trit.TheVariants.{Unknown}
use Rattle.cell_machine.specs.Inputs.{numbered_value}
use Rattle.udp_tables.specs.Sequential.{noted}
use Rattle.specify_blocks.specs.declared.model.VNet.{VNet}
use Rattle.specify_blocks.specs.Nets.{same_net}
use Rattle.module_tables.specs.Tables.{arranged}
use Rattle.module_tables.specs.LookUps.{order_of}

-- behind its end a list has no value
past : (xs : List Trit) (k : ℕ) → length xs ≤ k → slice_index_or xs k Unknown ≡ Unknown
past [] zero h = refl
past [] (suc k) h = refl
past (x ∷ xs) zero h = absurd (omega arith)
past (x ∷ xs) (suc k) h = past xs k (omega arith)

-- the value of one net
at-place :
    (values : List Trit) (o : Option ℕ) → length values ≤ 10
    → numbered_value values (unwrap_or o 10) ≡ option_map_or (λ k. slice_index_or values k Unknown) o Unknown
at-place values None h = past values 10 h
at-place values (Some k) h = refl

pub in_order :
    (nets inputs : List VNet) (values : List Trit)
    → length values ≤ 10 → map (numbered_value values) (order_of nets inputs) ≡ arranged nets values inputs
in_order nets [] values h = refl
in_order nets (n ∷ inputs) values h = λ i. at-place values (position (same_net n) nets) h i ∷ in_order nets inputs values h i

-- the values of a support and of the register are at most ten
pub noted_few : (b : Bool) (note : Trit) (values : List Trit) → length values ≤ 8 → length (noted b note values) ≤ 10
noted_few false note values h = omega (arith, h)
noted_few true note values h = omega (arith, h, length-append values (note ∷ []))
