use Rattle.std.proofs.Common.{◌≡◌, ◌∙◌, [], ap, arith, drop, flat_map, sym}
use Rattle.std.proofs.lemmas.List.{drop_all}
use Rattle.bool_functions.specs.Support.{insert_all}
use Rattle.cell_attributes.specs.Building.{stands_for}
use Rattle.cell_attributes.proofs.Turns.{insert_turn}
use Rattle.cell_functions.proofs.sources.behind.Goals as goal

pub loop-i-preserved : goal.loop-i-preserved
loop-i-preserved c =
    insert_turn (stands_for c.args.pins c.args.groups.now) c.args.names.now c.loop-i.i-index _ c.loop-i.found.items
    c.insert_behind.new.found.items c.loop-i-test.true c.in_ok-insert_behind.ensures
    ∙ c.loop-i.invariant

pub returns : goal.returns
returns c =
    let done : drop c.loop-i.i-index c.args.names.now ≡ [] = drop_all c.loop-i.i-index c.args.names.now (omega (arith, c.loop-i-test.false)) in
    ap (λ names. insert_all c.loop-i.found.items (flat_map (stands_for c.args.pins c.args.groups.now) names)) (sym done) ∙ c.loop-i.invariant
