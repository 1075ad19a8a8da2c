use Rattle.cell_machine.proofs.RuleLemmas.{rules_of}
use Rattle.specify_blocks.proofs.Soundness.{module_is_sound}
use Rattle.specify_blocks.proofs.laws.generated_is_sound.Goals as goal

pub returns : goal.returns
returns c = λ cell h. module_is_sound cell (rules_of cell.name cell.pins cell.groups cell.outputs cell.checks cell.arcs h)
