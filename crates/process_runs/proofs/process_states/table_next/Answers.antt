use Rattle.std.proofs.Common.{sym, ap, ◌∙◌, length}
use Rattle.vital_models.specs.LookUps.{lookup_state}
use Rattle.vital_models.specs.RowWords.{state_words}
use Rattle.vital_models.specs.Sound.{columns_of}
use Rattle.row_masks.specs.Masks.{row_masks}
use Rattle.row_masks.specs.LookUps.{state_passes}
use Rattle.row_masks.proofs.LookUpLemmas.{masks-are}
use Rattle.process_runs.specs.declared.table_rows.TableRows.{TableRows}
use Rattle.process_runs.proofs.ColumnLemmas.{length-columns}
use Rattle.process_runs.proofs.TableRowLemmas.{words-are}
use Rattle.process_runs.proofs.process_states.table_next.Goals as goal

pub masked_state-requires-clause-rows : goal.masked_state-requires-clause-rows
masked_state-requires-clause-rows c =
    let s = c.args.seen.now in
    λ k d l. c.requires.rows k d l ∙ sym (length-columns s.state.now s.ports.list.now s.violation s.inputs.now)

pub masked_state-requires-clause-few : goal.masked_state-requires-clause-few
masked_state-requires-clause-few c =
    let s = c.args.seen.now.state.now in
    let masks = masks-are state_passes (columns_of s) s.table.rows c.as_slice.result.now
    (c.as_slice.ensures ∙ ap (λ (k : TableRows). k.masks) c.requires.known) in
    (masks.found c.in-Some.masks.now (sym c.in-Some.ensures)).0

pub masked_state-requires-clause-masks : goal.masked_state-requires-clause-masks
masked_state-requires-clause-masks c =
    let s = c.args.seen.now in
    let masks = masks-are state_passes (columns_of s.state.now) s.state.now.table.rows c.as_slice.result.now
    (c.as_slice.ensures ∙ ap (λ (k : TableRows). k.masks) c.requires.known) in
    (masks.found c.in-Some.masks.now (sym c.in-Some.ensures)).1
    ∙ ap (λ n. row_masks state_passes n s.state.now.table.rows) (sym (length-columns s.state.now s.ports.list.now s.violation s.inputs.now))

pub masked_state-requires-clause-olds : goal.masked_state-requires-clause-olds
masked_state-requires-clause-olds c =
    let s = c.args.seen.now in
    length-columns s.state.now s.ports.list.now s.was s.before.now
    ∙ sym (length-columns s.state.now s.ports.list.now s.violation s.inputs.now)

pub write_news-requires-clause-olds : goal.write_news-requires-clause-olds
write_news-requires-clause-olds c =
    let s = c.args.seen.now in
    ap length c.at_first.ensures.olds ∙ length-columns s.state.now s.ports.list.now s.was s.before.now ∙ sym c.columns_of-count.ensures

pub write_news-requires-clause-news : goal.write_news-requires-clause-news
write_news-requires-clause-news c =
    let s = c.args.seen.now in
    ap length c.at_first.ensures.news ∙ length-columns s.state.now s.ports.list.now s.was s.before.now ∙ sym c.columns_of-count.ensures

pub write_news-requires-2-clause-olds : goal.write_news-requires-2-clause-olds
write_news-requires-2-clause-olds c =
    let s = c.args.seen.now in
    length-columns s.state.now s.ports.list.now s.was s.before.now ∙ sym c.columns_of-count.ensures

pub write_news-requires-2-clause-news : goal.write_news-requires-2-clause-news
write_news-requires-2-clause-news c =
    let s = c.args.seen.now in
    length-columns s.state.now s.ports.list.now s.violation s.inputs.now ∙ sym c.columns_of-count.ensures

pub keyed_state-requires-clause-words : goal.keyed_state-requires-clause-words
keyed_state-requires-clause-words c =
    words-are state_words c.args.seen.now.state.now.table.rows c.as_slice-2.result.now
    (c.as_slice-2.ensures ∙ ap (λ (k : TableRows). k.words) c.requires.known)

pub returns-clause-next : goal.returns-clause-next
returns-clause-next c =
    rw (c.as_slice-3.ensures, c.as_slice-4.ensures) at c.keyed_state.ensures
    ∙ (λ i. lookup_state c.args.seen.now.state.now.table.rows ((c.write_news.ensures.front ∙ c.at_first.ensures.news) i)
    (c.write_news-2.ensures.front i) c.args.state)
