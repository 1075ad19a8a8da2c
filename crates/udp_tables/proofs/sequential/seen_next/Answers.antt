use Rattle.udp_tables.specs.RowKeys.{row_key}
use Rattle.udp_tables.proofs.RowKeyLemmas.{kept_key}
use Rattle.udp_tables.proofs.sequential.seen_next.Goals as goal

pub kept-key-requires : goal.kept-key-requires
kept-key-requires c =
    kept_key row_key c.args.keys.now c.args.udp.now.rows c.as_slice-row-items.result.now c.loop-i.i c.row-item.result
    c.requires.keys c.as_slice-row-items.ensures c.loop-i-test.true c.row-item.is
