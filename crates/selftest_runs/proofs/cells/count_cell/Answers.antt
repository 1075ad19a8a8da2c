use Rattle.std.proofs.Common.{◌≡◌, IfOk, ap, subst, ◌∙◌}
use Rattle.std.specs.Prelude.{count_by}
use Rattle.cell_machine.specs.CellData.{data_of}
use Rattle.cell_machine.specs.CellTrace.{inputs_of}
use Rattle.cell_machine.specs.Inputs.{is_input_at}
use Rattle.cell_machine.specs.Lines.{Machine, trace}
use Rattle.std.proofs.lemmas.Result.{IfOk-at_ok}
use Rattle.selftest_runs.specs.Counts.{known_in}
use Rattle.selftest_runs.specs.CellCounts.{changes_by, counts_on}
use Rattle.selftest_runs.proofs.cells.count_cell.Goals as goal

pub counts_on-requires-clause-known : goal.counts_on-requires-clause-known
counts_on-requires-clause-known c =
    let told = c.in_ok-known.ensures in
    subst (λ (m : Machine). c.in_ok-known.known ≡ known_in (trace m.line c.as_slice-changes.result.now))
    (IfOk-at_ok _ told.1 c.start.ensures.machine) told.2

pub returns : goal.returns
returns c =
    let inputs : c.input_count.result ≡ inputs_of (data_of c.args.cell.now) = c.input_count.ensures ∙ ap (count_by is_input_at) c.as_slice.ensures in
    subst (λ changes. IfOk c.counts_on.result (λ counts. counts ≡ counts_on changes (data_of c.args.cell.now) c.args.entity.now))
    (c.as_slice-changes.ensures ∙ c.in_ok-drawn.ensures.changes ∙ ap (changes_by c.args.cell.now.number) inputs) c.counts_on.ensures
