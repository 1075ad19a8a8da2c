use Rattle.std.proofs.Common.{◌∙◌, ap, drop}
use Rattle.selftest_cells.specs.Reading.{left_of}
use Rattle.selftest_cells.proofs.ReadingLemmas.{bound_took}
use Rattle.selftest_cells.proofs.own_library.OwnLibraryDesk.read.Goals as goal

pub returns-in-Ok-clause-ok : goal.returns-in-Ok-clause-ok
returns-in-Ok-clause-ok c =
    bound_took (left_of c.args.self.now) _ c.read_piece.result c.args.slot c.requires
    (c.read_piece.ensures.left ∙ ap (drop c.read_piece.result) c.refill.ensures.left)
