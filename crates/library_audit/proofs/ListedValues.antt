-- Values of a list as a line has them.
use Rattle.std.proofs.Common.{◌≡◌, List, [], ◌∷◌, length, flat_map, codes, refl}
use Rattle.trit_cubes.specs.declared.trits.Trit.{Trit}
use Rattle.library_audit.specs.Lines.{listed_value, listed_text}

pub no_values : (values : List Trit) → length values ≡ 0 → listed_text values ≡ codes " -"
no_values [] e = refl
no_values (value ∷ values) e = absurd cc

pub some_values : (values : List Trit) → (length values ≡ 0 → ⊥) → listed_text values ≡ flat_map listed_value values
some_values [] e = absurd (e refl)
some_values (value ∷ values) e = refl
