use Rattle.std.proofs.Common.{length}
use Rattle.module_tables.proofs.model_tables.+add_places.Given as goal

abbrev pub decreases-add_places : goal.decreases-add_places
decreases-add_places l = length l.inputs.now
