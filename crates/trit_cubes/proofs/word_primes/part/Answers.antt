use Rattle.std.proofs.Common.{◌^◌, refl}
use Rattle.std.proofs.lemmas.Nat.{pow_pos}
use Rattle.trit_cubes.proofs.PackLemmas.{half-bits, half-small, half-fits}
use Rattle.trit_cubes.proofs.word_primes.part.Goals as goal

pub overflow_shl-zero : goal.overflow_shl-zero
overflow_shl-zero c = rw (half-bits c.args.places c.requires) (half-small c.args.places c.requires)

pub nonzero_rem-zero : goal.nonzero_rem-zero
nonzero_rem-zero c = rw (half-bits c.args.places c.requires, half-fits c.args.places c.requires) (pow_pos (2 ^ c.args.places))

pub overflow_shr-one : goal.overflow_shr-one
overflow_shr-one c = rw (half-bits c.args.places c.requires) (half-small c.args.places c.requires)

pub returns-in-Zero : goal.returns-in-Zero
returns-in-Zero c = rw (half-bits c.args.places c.requires, half-fits c.args.places c.requires, c.in-Zero.is) refl

pub returns-in-One : goal.returns-in-One
returns-in-One c = rw (half-bits c.args.places c.requires, c.in-One.is) refl

pub returns-in-Unknown : goal.returns-in-Unknown
returns-in-Unknown c = rw (half-bits c.args.places c.requires, half-fits c.args.places c.requires, c.in-Unknown.is) refl
