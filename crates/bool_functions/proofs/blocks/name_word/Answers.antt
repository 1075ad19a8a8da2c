use Rattle.std.proofs.Common.{◌≡◌, ◌<◌, ◌^◌, ℕ, Bool, arith}
use Rattle.bool_functions.specs.Point.{entry_of}
use Rattle.bool_functions.proofs.WordLemmas.{word_below, whole_word}
use Rattle.bool_functions.proofs.blocks.name_word.Goals as goal

pub overflow_mul-word : goal.overflow_mul-word
overflow_mul-word c =
    let f : ℕ → Bool = λ k. entry_of c.args.places.now k c.args.i in
    let below : c.loop-step.word < 2 ^ 63 = word_below f _ c.loop-step.step c.loop-step.word c.loop-step-test.true c.loop-step.invariant in omega arith

pub overflow_add-word : goal.overflow_add-word
overflow_add-word c =
    let f : ℕ → Bool = λ k. entry_of c.args.places.now k c.args.i in
    let below : c.loop-step.word < 2 ^ 63 = word_below f _ c.loop-step.step c.loop-step.word c.loop-step-test.true c.loop-step.invariant in omega arith

pub overflow_mul-word-else-entry_of : goal.overflow_mul-word-else-entry_of
overflow_mul-word-else-entry_of c =
    let f : ℕ → Bool = λ k. entry_of c.args.places.now k c.args.i in
    let below : c.loop-step.word < 2 ^ 63 = word_below f _ c.loop-step.step c.loop-step.word c.loop-step-test.true c.loop-step.invariant in omega arith

pub returns : goal.returns
returns c =
    let f : ℕ → Bool = λ k. entry_of c.args.places.now k c.args.i in
    let e : c.loop-step.step ≡ 64 = omega arith in
    whole_word f c.args.start c.loop-step.step c.loop-step.word e c.loop-step.invariant
