use Rattle.cell_machine.specs.CellData.{data_of}
use Rattle.selftest_runs.proofs.NamesAlone.{numbered}
use Rattle.selftest_runs.proofs.numbered_cells.cell_is_numbered.Goals as goal

pub returns : goal.returns
returns c = numbered (data_of c.args.cell.now) c.args.cell.now.sound c.number_has_a_word.ensures
