use Rattle.std.proofs.Common.{subst}
use Rattle.cell_machine.specs.CellData.{data_of}
use Rattle.module_tables.specs.LookUps.{IgnoresNet}
use Rattle.module_tables.proofs.StepStates.{note-ignored}
use Rattle.module_tables.proofs.states.GroupTables.ignores_note.Goals as goal

pub returns-else-not-has_notifier : goal.returns-else-not-has_notifier
returns-else-not-has_notifier c h =
    note-ignored (data_of c.args.self.now.cell.now) c.args.self.now.group c.args.rows.now
    (subst (λ n. IgnoresNet n c.args.rows.now) c.pins.ensures.value (c.ignores.ensures h))
