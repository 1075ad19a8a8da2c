use Rattle.three_state_cells.proofs.Members.{gathered_read}
use Rattle.three_state_cells.proofs.gathering.gathered_cells_are_read_as_expanded.Goals as goal

pub returns : goal.returns
returns c = gathered_read
