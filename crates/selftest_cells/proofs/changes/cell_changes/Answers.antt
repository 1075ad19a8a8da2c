use Rattle.std.proofs.Common.{◌≡◌, ◌∙◌, ap, arith}
use Rattle.selftest_cells.specs.Changes.{first_changes, changes_of}
use Rattle.selftest_cells.proofs.changes.cell_changes.Goals as goal

pub returns : goal.returns
unfolding changes_of
returns c =
    let all : c.loop.counter ≡ 100 = omega arith in
    c.loop.invariant.3 ∙ ap (first_changes c.args.number c.args.inputs) all
