use Rattle.std.proofs.Common.{◌+◌, ◌∙◌, ap, drop, sym}
use Rattle.std.proofs.lemmas.List.{drop_more}
use Rattle.bool_functions.specs.Support.{insert_all}
use Rattle.cell_functions.proofs.sources.insert_all.Goals as goal

pub loop-i-preserved : goal.loop-i-preserved
loop-i-preserved c =
    ap (λ found. insert_all found (drop (c.loop-i.i-index + 1) c.args.numbers.now)) c.in_ok-insert.ensures
    ∙ sym (ap (insert_all c.loop-i.found.items) (drop_more c.args.numbers.now c.loop-i.i-index 0 c.loop-i-test.true))
    ∙ c.loop-i.invariant
