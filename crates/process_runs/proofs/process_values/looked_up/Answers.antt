use Rattle.std.proofs.Common.{◌∙◌, ap, sym}
use Rattle.vital_models.specs.LookUps.{lookup_truth}
use Rattle.vital_models.specs.RowWords.{truth_words}
use Rattle.row_masks.specs.Masks.{row_masks}
use Rattle.row_masks.specs.LookUps.{truth_passes}
use Rattle.row_masks.proofs.LookUpLemmas.{masks-are}
use Rattle.process_runs.specs.declared.table_rows.TableRows.{TableRows}
use Rattle.process_runs.proofs.TableRowLemmas.{words-are}
use Rattle.process_runs.proofs.process_values.looked_up.Goals as goal

pub masked_truth-requires-clause-few : goal.masked_truth-requires-clause-few
masked_truth-requires-clause-few g c =
    let rows = c.args.table.now.rows in
    let masks = masks-are truth_passes c.args.columns rows c.as_slice.result.now
    (c.as_slice.ensures ∙ ap (λ (k : TableRows). k.masks) c.requires.known) in
    (masks.found c.in-Some.masks.now (sym c.in-Some.ensures)).0

pub masked_truth-requires-clause-masks : goal.masked_truth-requires-clause-masks
masked_truth-requires-clause-masks g c =
    let rows = c.args.table.now.rows in
    let masks = masks-are truth_passes c.args.columns rows c.as_slice.result.now
    (c.as_slice.ensures ∙ ap (λ (k : TableRows). k.masks) c.requires.known) in
    (masks.found c.in-Some.masks.now (sym c.in-Some.ensures)).1 ∙ ap (λ n. row_masks truth_passes n rows) (sym c.requires.news)

pub keyed_truth-requires-clause-words : goal.keyed_truth-requires-clause-words
keyed_truth-requires-clause-words g c =
    words-are truth_words c.args.table.now.rows c.as_slice-2.result.now
    (c.as_slice-2.ensures ∙ ap (λ (k : TableRows). k.words) c.requires.known)

pub returns-clause-value : goal.returns-clause-value
returns-clause-value g c =
    rw c.as_slice-3.ensures at c.keyed_truth.ensures ∙ ap (lookup_truth c.args.table.now.rows) c.write_news.ensures.front
