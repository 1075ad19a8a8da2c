use Rattle.std.proofs.Common.{subst}
use Rattle.first_names.specs.Places.{AddsPlace}
use Rattle.first_names.proofs.PlaceLemmas.{first_more}
use Rattle.verilog_reader.proofs.name_search.all_names.Goals as goal

pub loop-number-preserved : goal.loop-number-preserved
loop-number-preserved g c =
    first_more g.T.Named.name_of c.loop-number.found c.add.new.self c.args.things.now c.loop-number.number c.index-things-number.result c.loop-number-test.true c.index-things-number.is
    c.loop-number.invariant (subst (λ x. AddsPlace c.loop-number.found x c.loop-number.number c.add.new.self) c.name.ensures c.in_ok-add.ensures)
