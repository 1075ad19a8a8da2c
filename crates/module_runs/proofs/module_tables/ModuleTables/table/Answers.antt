use Rattle.module_runs.proofs.module_tables.ModuleTables.table.Goals as goal

pub invariant_of-result : goal.invariant_of-result
invariant_of-result c = record { keyed = c.keys_at.ensures c.args.udp.now c.requires; masked = c.masks_at.ensures c.args.udp.now c.requires }
