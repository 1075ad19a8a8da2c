use Rattle.std.proofs.Common.{◌≡◌, ℕ, ◌-◌, List, [], ◌∷◌, ◌++◌, map, refl, sym, ◌∙◌, arith}
use Rattle.trit_cubes.specs.declared.trits.Trit.{Trit}
use Rattle.trit_cubes.specs.declared.trits.Trit.TheVariants.{Zero, One, Unknown}
use Rattle.trit_cubes.specs.InWords.{word_part, primes_outside}
use Rattle.trit_cubes.proofs.InWordLemmas.{outside-none, outside-covered, added-none, added-last, added-same, added-halves}
use Rattle.trit_cubes.proofs.PackLemmas.{one-less, length-parts_and, length-parts, part-follows}
use Rattle.trit_cubes.proofs.word_primes.+add_primes.Goals as goal
use Rattle.trit_cubes.proofs.word_primes.+add_primes.Goals.{then-zero-both+in_ok-add_primes, else-zero-both}
use Rattle.trit_cubes.proofs.word_primes.+add_primes.Goals.{then-one-both+in_ok-add_primes-2, else-one-both}

pub returns-then-set-eq0 : goal.returns-then-set-eq0
returns-then-set-eq0 t c =
    added-none c.args.left c.args.set c.args.others.now c.args.front _ (outside-none c.args.left c.args.set c.args.others.now c.if-set-eq0.true)

pub returns-then-is_in_one : goal.returns-then-is_in_one
returns-then-is_in_one t c =
    added-none c.args.left c.args.set c.args.others.now c.args.front _
    (outside-covered c.args.left c.args.set c.args.others.now (sym c.is_in_one.ensures ∙ c.if-is_in_one.true))

pub returns-then-left-eq0 : goal.returns-then-left-eq0
returns-then-left-eq0 t c =
    added-last c.args.left c.args.set c.args.others.now c.args.front _ _ c.in_ok-push.ensures.items c.if-left-eq0.true c.if-set-eq0.false c.requires.below
    (sym c.is_in_one.ensures ∙ c.if-is_in_one.false)

pub add_primes-requires : goal.add_primes-requires
add_primes-requires t c =
    let more = one-less c.args.left c.if-left-eq0.false in
    let long = length-parts_and (word_part (c.args.left - 1) Zero) c.args.others.now _ _ c.parts_and.ensures.all in
    (omega (arith, c.decreases, more), part-follows c.args.left _ _ Zero c.args.set _ c.args.front _ more c.requires.few c.requires.front c.requires.below (omega (arith, long)) c.before-then-zero-both.ensures c.part-zero.ensures)

pub add_primes-requires-then-one-both : goal.add_primes-requires-then-one-both
add_primes-requires-then-one-both t c =
    let more = one-less c.args.left c.if-left-eq0.false in
    let long = length-parts_and (word_part (c.args.left - 1) One) c.args.others.now _ _ c.parts_and-then-one-both.ensures.all in
    (omega (arith, c.decreases, more), part-follows c.args.left _ _ One c.args.set _ c.args.front _ more c.requires.few c.requires.front c.requires.below (omega (arith, long)) c.before-then-one-both.ensures c.part-one.ensures)

pub add_primes-requires-2 : goal.add_primes-requires-2
add_primes-requires-2 t c =
    let more = one-less c.args.left c.if-left-eq0.false in
    let long = length-parts (word_part (c.args.left - 1) Unknown) c.args.others.now _ c.parts_and-2.ensures.front in
    (omega (arith, c.decreases, more), part-follows c.args.left _ _ Unknown c.args.set _ c.args.front _ more c.requires.few c.requires.front c.requires.below (omega (arith, long)) c.before-2.ensures c.part-both.ensures)

pub returns : goal.returns
returns t c =
    let n = c.args.left - 1 in
    let gs : List ℕ = c.args.others.now in
    let front : List Trit = c.args.front in
    let both = c.part-both.result in
    let zeros : c.if-zero-both.found.items
    ≡ c.args.found.now.items
    ++ map (λ d. (front ++ Zero ∷ []) ++ d) (primes_outside n c.part-zero.result (map (word_part n Zero) gs ++ both ∷ []))
    = elim c.if-zero-both.branch [
      | then-zero-both+in_ok-add_primes w ↦ (λ i. (w.found-is i).items) ∙ w.in_ok-add_primes.ensures
          ∙ (λ i. c.args.found.now.items
          ++ map (λ d. w.before-then-zero-both.ensures i ++ d) (primes_outside n c.part-zero.result (w.parts_and.ensures.all i)))
      | else-zero-both w ↦ (λ i. (w.found-is i).items)
          ∙ added-same n c.part-zero.result both (map (word_part n Zero) gs) (front ++ Zero ∷ []) c.args.found.now.items
          w.if-zero-both.false
    ] in
    let ones : c.if-one-both.found.items
    ≡ c.if-zero-both.found.items
    ++ map (λ d. (front ++ One ∷ []) ++ d) (primes_outside n c.part-one.result (map (word_part n One) gs ++ both ∷ []))
    = elim c.if-one-both.branch [
      | then-one-both+in_ok-add_primes-2 w ↦ (λ i. (w.found-is i).items) ∙ w.in_ok-add_primes-2.ensures
          ∙ (λ i. c.if-zero-both.found.items
          ++ map (λ d. w.before-then-one-both.ensures i ++ d)
          (primes_outside n c.part-one.result (w.parts_and-then-one-both.ensures.all i)))
      | else-one-both w ↦ (λ i. (w.found-is i).items)
          ∙ added-same n c.part-one.result both (map (word_part n One) gs) (front ++ One ∷ []) c.if-zero-both.found.items
          w.if-one-both.false
    ] in
    added-halves n c.args.left c.args.set c.part-zero.result c.part-one.result both gs _ _ _ front _ _ _ c.args.found.now.items _ _ _
    (one-less c.args.left c.if-left-eq0.false) c.part-zero.ensures c.part-one.ensures c.part-both.ensures
    refl refl c.parts_and-2.ensures.front refl refl c.before-2.ensures zeros ones c.in_ok-add_primes-3.ensures
