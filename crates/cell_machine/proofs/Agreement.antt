-- What agrees with an unknown value is unknown.
use Rattle.std.proofs.Common.{◌≡◌, true, refl, subst}
use Rattle.trit_cubes.specs.declared.trits.Trit.{Trit}
use Rattle.trit_cubes.specs.declared.trits.Trit.TheVariants.{Zero, One, Unknown}
use Rattle.trit_cubes.specs.Filling.{is_unknown}
use Rattle.trit_cubes.specs.Resolution.{agreed}

unknown-first : (y : Trit) → Unknown ≡ agreed Unknown y
unknown-first Zero = refl
unknown-first One = refl
unknown-first Unknown = refl

-- the first of two values decides alone where it is unknown
pub agreed-unknown : (r x y : Trit) → r ≡ x → is_unknown r ≡ true → r ≡ agreed x y
agreed-unknown Zero x y e h = absurd (cc)
agreed-unknown One x y e h = absurd (cc)
agreed-unknown Unknown x y e h = subst (λ v. Unknown ≡ agreed v y) e (unknown-first y)
