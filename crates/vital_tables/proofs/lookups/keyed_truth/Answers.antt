use Rattle.udp_tables.proofs.RowKeyLemmas.{kept_key}
use Rattle.vital_tables.specs.RowWords.{truth_words}
use Rattle.vital_tables.proofs.lookups.keyed_truth.Goals as goal

pub kept_words-asked-requires : goal.kept_words-asked-requires
kept_words-asked-requires c =
    kept_key truth_words c.args.words.now c.args.table.now.rows c.as_slice-row-items.result.now c.loop-i.i c.row-item.result
    c.requires.words c.as_slice-row-items.ensures c.loop-i-test.true c.row-item.is
