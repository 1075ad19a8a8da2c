use Rattle.cell_reader.proofs.Accepted.{accepted_cells_are_sound as law}
use Rattle.cell_reader.proofs.laws.accepted_cells_are_sound.Goals as goal

pub returns : goal.returns
returns c = law
