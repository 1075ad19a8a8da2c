use Rattle.std.proofs.Common.{◌-◌, Bool, List, refl, sym, ap, ◌∙◌, arith}
use Rattle.trit_cubes.specs.declared.trits.Trit.{Trit}
use Rattle.trit_cubes.specs.Sets.{has, common}
use Rattle.trit_cubes.specs.Prime.{prime_list}
use Rattle.trit_cubes.proofs.ConstantLemmas.{primes-of-entries, some-places}
use Rattle.trit_cubes.proofs.HalvesLemmas.{length-half, primes-short, primes-halves, primes-free}
use Rattle.trit_cubes.proofs.splitting.+primes.Goals as goal

pub primes-requires : goal.primes-requires
primes-requires m c =
    let some = some-places _ _ c.requires.entries (c.in_default.ensures.none refl) in
    let zero = length-half c.args.n _ _ some c.requires.entries c.in_ok-zero_half.ensures.entries in
    (omega (arith, c.decreases, some), (omega (arith, c.requires.short), c.deref-then-is_same.ensures.len ∙ zero.0))

pub merge-requires-clause-both_short : goal.merge-requires-clause-both_short
merge-requires-clause-both_short m c =
    primes-short (c.args.n - 1) (has c.deref-then-is_same.result.now) _ (c.deref-then-is_same-2.ensures.value ∙ c.in_ok-free.ensures)
    (omega (arith, c.requires.short, some-places _ _ c.requires.entries (c.in_default.ensures.none refl)))

pub returns-then-is_same : goal.returns-then-is_same
returns-then-is_same m c =
    let zero_long = (length-half c.args.n _ _ (some-places _ _ c.requires.entries (c.in_default.ensures.none refl)) c.requires.entries c.in_ok-zero_half.ensures.entries).1 in
    let one_long = (length-half c.args.n _ _ (some-places _ _ c.requires.entries (c.in_default.ensures.none refl)) c.requires.entries c.in_ok-one_half.ensures.entries).1 in
    let primes_of : List Bool → List (List Trit) = λ t. prime_list (c.args.n - 1) (has t) in
    primes-free c.args.n c.args.set.now c.in_ok-zero_half.zero_half.items c.in_ok-one_half.one_half.items _ _
    (some-places _ _ c.requires.entries (c.in_default.ensures.none refl))
    (λ p. c.in_ok-zero_half.ensures.values p zero_long)
    (λ p. c.in_ok-one_half.ensures.values p one_long)
    (sym c.deref.ensures.value ∙ c.is_same.ensures c.if-is_same.true ∙ c.deref-2.ensures.value)
    (c.deref-then-is_same-2.ensures.value ∙ c.in_ok-free.ensures ∙ ap primes_of c.deref-then-is_same.ensures.value)
    c.in_ok-found.ensures

pub primes-requires-2 : goal.primes-requires-2
primes-requires-2 m c =
    let zero = length-half c.args.n _ _ (some-places _ _ c.requires.entries (c.in_default.ensures.none refl)) c.requires.entries c.in_ok-zero_half.ensures.entries in
    (omega (arith, c.decreases, (some-places _ _ c.requires.entries (c.in_default.ensures.none refl))), (omega (arith, c.requires.short), c.deref-5.ensures.len ∙ zero.0))

pub primes-requires-3 : goal.primes-requires-3
primes-requires-3 m c =
    let one = length-half c.args.n _ _ (some-places _ _ c.requires.entries (c.in_default.ensures.none refl)) c.requires.entries c.in_ok-one_half.ensures.entries in
    (omega (arith, c.decreases, (some-places _ _ c.requires.entries (c.in_default.ensures.none refl))), (omega (arith, c.requires.short), c.deref-6.ensures.len ∙ one.0))

pub primes-requires-4 : goal.primes-requires-4
primes-requires-4 m c =
    let zero = length-half c.args.n _ _ (some-places _ _ c.requires.entries (c.in_default.ensures.none refl)) c.requires.entries c.in_ok-zero_half.ensures.entries in
    (omega (arith, c.decreases, (some-places _ _ c.requires.entries (c.in_default.ensures.none refl))), (omega (arith, c.requires.short), c.deref-7.ensures.len ∙ c.in_ok-both_halves.ensures.entries ∙ c.deref-3.ensures.len ∙ zero.0))

pub merge-requires-2-clause-zero_short : goal.merge-requires-2-clause-zero_short
merge-requires-2-clause-zero_short m c = primes-short (c.args.n - 1) (has c.deref-5.result.now) _ (c.deref-8.ensures.value ∙ c.in_ok-zero.ensures) (omega (arith, c.requires.short, (some-places _ _ c.requires.entries (c.in_default.ensures.none refl))))

pub merge-requires-2-clause-one_short : goal.merge-requires-2-clause-one_short
merge-requires-2-clause-one_short m c = primes-short (c.args.n - 1) (has c.deref-6.result.now) _ (c.deref-9.ensures.value ∙ c.in_ok-one.ensures) (omega (arith, c.requires.short, (some-places _ _ c.requires.entries (c.in_default.ensures.none refl))))

pub merge-requires-2-clause-both_short : goal.merge-requires-2-clause-both_short
merge-requires-2-clause-both_short m c = primes-short (c.args.n - 1) (has c.deref-7.result.now) _ (c.deref-10.ensures.value ∙ c.in_ok-both.ensures) (omega (arith, c.requires.short, (some-places _ _ c.requires.entries (c.in_default.ensures.none refl))))

pub returns : goal.returns
returns m c =
    let zero_half = c.in_ok-zero_half.zero_half.items in
    let one_half = c.in_ok-one_half.one_half.items in
    let both_half = c.in_ok-both_halves.both_halves.items in
    let zero_long = (length-half c.args.n _ _ (some-places _ _ c.requires.entries (c.in_default.ensures.none refl)) c.requires.entries c.in_ok-zero_half.ensures.entries).1 in
    let one_long = (length-half c.args.n _ _ (some-places _ _ c.requires.entries (c.in_default.ensures.none refl)) c.requires.entries c.in_ok-one_half.ensures.entries).1 in
    let primes_of : List Bool → List (List Trit) = λ t. prime_list (c.args.n - 1) (has t) in
    c.in_ok-found-2.ensures
    ∙ primes-halves c.args.n c.args.set.now zero_half one_half both_half _ _ _ (some-places _ _ c.requires.entries (c.in_default.ensures.none refl))
    (λ p. c.in_ok-zero_half.ensures.values p zero_long)
    (λ p. c.in_ok-one_half.ensures.values p one_long)
    (λ p. c.in_ok-both_halves.ensures.values p
    ∙ ap (λ t. common (has t) (has c.deref-4.result.now) p) c.deref-3.ensures.value
    ∙ ap (λ t. common (has zero_half) (has t) p) c.deref-4.ensures.value)
    (c.deref-8.ensures.value ∙ c.in_ok-zero.ensures ∙ ap primes_of c.deref-5.ensures.value)
    (c.deref-9.ensures.value ∙ c.in_ok-one.ensures ∙ ap primes_of c.deref-6.ensures.value)
    (c.deref-10.ensures.value ∙ c.in_ok-both.ensures ∙ ap primes_of c.deref-7.ensures.value)

pub returns-in-Some : goal.returns-in-Some
returns-in-Some m c =
    rw (← primes-of-entries c.args.n c.args.set.now c.in-Some.all c.requires.entries c.in-Some.ensures.some) c.of_all_or_none.ensures
