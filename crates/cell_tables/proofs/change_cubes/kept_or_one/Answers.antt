use Rattle.std.proofs.Common.{sym, ◌∙◌}
use Rattle.cell_tables.proofs.change_cubes.kept_or_one.Goals as goal

pub returns-then-pairs : goal.returns-then-pairs
returns-then-pairs c = λ cubes are. rw (sym (c.pairs.ensures cubes are) ∙ c.if-pairs.true) c.keeping_cube.ensures

pub returns-else-pairs : goal.returns-else-pairs
returns-else-pairs c = λ cubes are. rw (sym (c.pairs.ensures cubes are) ∙ c.if-pairs.false) c.giving_cube.ensures
