-- Free places in a row of their own.
use Rattle.std.proofs.Common.{◌≡◌, ℕ, zero, suc, ◌∷◌, map, replicate, refl, ap}
use Rattle.trit_cubes.specs.declared.trits.Trit.TheVariants.{Unknown}
use Rattle.vital_tables.specs.Rows.{level_symbol}

pub free-columns : (n : ℕ) → replicate n (level_symbol Unknown) ≡ map level_symbol (replicate n Unknown)
free-columns zero = refl
free-columns (suc n) = ap (λ es. level_symbol Unknown ∷ es) (free-columns n)
