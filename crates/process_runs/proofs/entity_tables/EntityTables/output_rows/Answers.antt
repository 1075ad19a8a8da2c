use Rattle.std.proofs.Common.{ap}
use Rattle.process_runs.specs.declared.entity_rows.EntityRows.{EntityRows}
use Rattle.process_runs.proofs.entity_tables.EntityTables.output_rows.Goals as goal

pub rows_at-requires-clause-known : goal.rows_at-requires-clause-known
rows_at-requires-clause-known c = ap (λ (r : EntityRows). r.outputs) c.args.self.now.indexed.tabled
