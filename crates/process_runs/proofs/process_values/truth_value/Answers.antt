use Rattle.std.proofs.Common.{◌∙◌, ap, sym}
use Rattle.process_runs.specs.TableRows.{truth_rows}
use Rattle.process_runs.proofs.process_values.truth_value.Goals as goal

pub looked_up-requires-clause-known : goal.looked_up-requires-clause-known
looked_up-requires-clause-known c = c.requires.known ∙ ap (λ n. truth_rows n c.args.truth.now.table.rows) (sym c.len.ensures)
