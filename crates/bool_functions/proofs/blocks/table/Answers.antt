use Rattle.std.proofs.Common.{◌≡◌, ℕ, Bool, subst, ◌<◌, length, ◌∙◌}
use Rattle.bool_functions.specs.Tree.{value_by}
use Rattle.bool_functions.specs.Point.{entry_of}
use Rattle.bool_functions.proofs.WordLemmas.{next_block, all_blocks, all_got, all_count}
use Rattle.bool_functions.proofs.blocks.table.Goals as goal

pub loop-block-preserved : goal.loop-block-preserved
loop-block-preserved c =
    let f : ℕ → Bool = λ k. value_by (entry_of c.args.places.now k) c.args.node.now in
    c.in_ok-add_block.ensures ∙ next_block f c.loop-block.values.items c.loop-block.block c.point_count-count.result c.loop-block.invariant

pub returns-clause-len : goal.returns-clause-len
returns-clause-len c =
    let f : ℕ → Bool = λ k. value_by (entry_of c.args.places.now k) c.args.node.now in
    let count : ℕ = c.point_count-count.result in
    let whole = all_blocks f c.loop-block.values.items c.loop-block.block count c.loop-block-test.false c.point_count-count.ensures.few c.loop-block.invariant in
    all_count f c.loop-block.values.items count whole ∙ c.point_count-count.ensures.count

pub returns-clause-entries : goal.returns-clause-entries
returns-clause-entries c k below =
    let f : ℕ → Bool = λ k. value_by (entry_of c.args.places.now k) c.args.node.now in
    let count : ℕ = c.point_count-count.result in
    let whole = all_blocks f c.loop-block.values.items c.loop-block.block count c.loop-block-test.false c.point_count-count.ensures.few c.loop-block.invariant in
    let len : length c.loop-block.values.items ≡ count = all_count f c.loop-block.values.items count whole in
    all_got f c.loop-block.values.items count k whole (subst (λ n. k < n) len below)
