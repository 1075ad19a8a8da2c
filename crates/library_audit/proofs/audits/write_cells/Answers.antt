use Rattle.std.proofs.Common.{refl, sym, ◌∙◌}
use Rattle.text_io.proofs.Wrote.{wrote-nil, wrote_item_as}
use Rattle.library_audit.proofs.PrintedCells.{cell_text, lines_whole, lines_part, differs_more, differs_whole}
use Rattle.library_audit.proofs.audits.write_cells.Goals as goal

pub loop-cell-init : goal.loop-cell-init
loop-cell-init g c = record { written = sym (wrote-nil _ _); differ = refl; kept = refl }

pub returns-in_err-cell_differs-clause-text : goal.returns-in_err-cell_differs-clause-text
returns-in_err-cell_differs-clause-text g c =
    let files = c.args.files.now in
    let within = rw c.as_slice-cell-items.ensures at c.loop-cell-test.true in
    let is = rw c.as_slice-cell-items.ensures at c.cell-item.is in
    lines_part files.named.models files.cells c.loop-cell.cell-index _ _ _ _ _ _ within is c.loop-cell.invariant.written c.in_err-cell_differs.ensures.text c.from_residual.ensures.0

pub loop-cell-preserved : goal.loop-cell-preserved
loop-cell-preserved g c =
    let files = c.args.files.now in
    let within = rw c.as_slice-cell-items.ensures at c.loop-cell-test.true in
    let is = rw c.as_slice-cell-items.ensures at c.cell-item.is in
    record {
      written = wrote_item_as (cell_text files.named.models) files.cells c.loop-cell.cell-index _ _ _ _ _ within is c.loop-cell.invariant.written c.in_ok-cell_differs.ensures.text.whole;
      differ = differs_more files.named.models files.cells c.loop-cell.cell-index _ _ _ within is c.loop-cell.invariant.differ c.in_ok-cell_differs.ensures.differs;
      kept = c.in_ok-cell_differs.ensures.cause.kept ∙ c.loop-cell.invariant.kept;
    }

pub returns-clause-text : goal.returns-clause-text
returns-clause-text g c =
    let files = c.args.files.now in
    let over = rw c.as_slice-cell-items.ensures at c.loop-cell-test.false in
    record { whole = lines_whole files.named.models files.cells _ _ _ over c.loop-cell.invariant.written; part = tt }

pub returns-clause-differs : goal.returns-clause-differs
returns-clause-differs g c =
    let files = c.args.files.now in
    let over = rw c.as_slice-cell-items.ensures at c.loop-cell-test.false in
    differs_whole files.named.models files.cells _ _ over c.loop-cell.invariant.differ
