use Rattle.cell_machine.proofs.RuleLemmas.{rules_of}
use Rattle.vital_models.proofs.Soundness.{entity_is_sound}
use Rattle.vital_models.proofs.laws.generated_is_sound.Goals as goal

pub returns : goal.returns
returns c = λ cell name h. entity_is_sound cell name (rules_of cell.name cell.pins cell.groups cell.outputs cell.checks cell.arcs h)
