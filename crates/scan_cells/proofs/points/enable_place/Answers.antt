use Rattle.scan_cells.proofs.WeightLemmas.{few_place}
use Rattle.scan_cells.proofs.points.enable_place.Goals as goal

pub returns-clause-few : goal.returns-clause-few
returns-clause-few c = few_place c.place_of.result c.place_of.ensures.few
