use Rattle.std.proofs.Common.{◌∙◌, List, IsTrue, sym, subst}
use Rattle.cell_machine.specs.declared.pins.Pin.{Pin}
use Rattle.cell_machine.specs.CellRules.{are_distinct}
use Rattle.cell_attributes.specs.Pins.{pin_names}
use Rattle.three_state_cells.proofs.Deciding.{early_names}
use Rattle.three_state_cells.proofs.read.subject_of.Goals as goal

pub names_of-requires : goal.names_of-requires
names_of-requires c =
    subst (λ (pins : List Pin). IsTrue (are_distinct (pin_names pins))) (sym (c.as_slice.ensures ∙ c.in_ok-pins.ensures))
    (early_names c.args.cell.now c.requires)
