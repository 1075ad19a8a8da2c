-- What the lemmas of this crate say of single values and of joined tests.
use Rattle.std.proofs.Common.{◌≡◌, ◌≢◌, Bool, true, false, ◌&&◌, refl}
use Rattle.trit_cubes.specs.declared.trits.Trit.TheVariants.{Zero, One, Unknown}

pub zero≢unknown : Zero ≢ Unknown
zero≢unknown e = cc

pub one≢unknown : One ≢ Unknown
one≢unknown e = cc

pub and_swap : (p q r s : Bool) → ((p && q) && (r && s)) ≡ ((p && r) && (q && s))
and_swap true true r s = refl
and_swap true false true s = refl
and_swap true false false s = refl
and_swap false q r s = refl
