use Rattle.std.proofs.Common.{sym}
use Rattle.module_terminals.proofs.SoundInstances.{sequential-stands}
use Rattle.module_tables.proofs.states.GroupTables.rows_at.Goals as goal

pub of-requires-clause-stands : goal.of-requires-clause-stands
of-requires-clause-stands c =
    sequential-stands c.args.self.now.model.now c.args.self.now.group c.in-Some.instance.now c.requires.sound (sym c.in-Some.ensures)
