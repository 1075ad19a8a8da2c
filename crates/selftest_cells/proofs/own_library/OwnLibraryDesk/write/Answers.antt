use Rattle.selftest_cells.specs.Reading.{left_of}
use Rattle.selftest_cells.proofs.ReadingLemmas.{library_wrote}
use Rattle.selftest_cells.proofs.own_library.OwnLibraryDesk.write.Goals as goal

pub returns-then-is_empty-clause-ok : goal.returns-then-is_empty-clause-ok
returns-then-is_empty-clause-ok c = library_wrote (left_of c.args.self.now) c.args.slot
