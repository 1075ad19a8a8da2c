use Rattle.cell_machine.proofs.PlaceLemmas.{report_is_whole_list-lem}
use Rattle.cell_machine.proofs.laws.report_is_whole_list.Goals as goal

pub returns : goal.returns
returns c = report_is_whole_list-lem
