use Rattle.std.proofs.Common.{ap, length, arith}
use Rattle.std.proofs.lemmas.List.{length-map}
use Rattle.process_runs.proofs.TableRowLemmas.{row-at}
use Rattle.process_runs.proofs.entity_rows.rows_at.Goals as goal

pub entry-requires : goal.entry-requires
entry-requires g c =
    omega (arith, c.requires.inside, ap length c.requires.known, length-map c.args.parts.now g.T.Tabled.rows)

pub returns : goal.returns
returns g c = λ part is.
    row-at g.T.Tabled.rows c.args.parts.now c.args.all.now c.args.i part c.entry.result.now c.requires.known c.entry.ensures.is is
