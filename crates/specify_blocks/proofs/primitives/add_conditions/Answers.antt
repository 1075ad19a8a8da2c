use Rattle.std.proofs.Common.{◌≡◌, [], ◌∷◌, ◌++◌, ap, length, map, subst, arith}
use Rattle.std.proofs.lemmas.List.{length-map}
use Rattle.udp_tables.specs.Edges.{each_below}
use Rattle.cell_machine.specs.CellData.{data_of}
use Rattle.udp_tables.specs.Conditions.{conditions_of}
use Rattle.udp_tables.specs.CellPrimitives.{condition_primitive}
use Rattle.cell_tables.proofs.EachBelow.{below-more}
use Rattle.specify_blocks.proofs.primitives.add_conditions.Goals as goal

pub part_udp-requires : goal.part_udp-requires
part_udp-requires c =
    let all : length (map (λ x. x.now) c.args.from.now.conditions.now) ≡ length (conditions_of (data_of c.args.from.now.cell.now))
    = ap length c.args.from.now.are_conditions in
    omega (arith, all, length-map c.args.from.now.conditions.now (λ x. x.now))

pub loop-condition-preserved : goal.loop-condition-preserved
loop-condition-preserved c =
    below-more (condition_primitive (data_of c.args.from.now.cell.now)) c.loop-condition.condition _ _ _ c.in_ok-part_udp.field-0
    c.loop-condition.invariant c.in_ok-push.ensures.ok c.in_ok-part_udp.ensures

pub returns : goal.returns
returns c =
    let all : length (map (λ x. x.now) c.args.from.now.conditions.now) ≡ length (conditions_of (data_of c.args.from.now.cell.now))
    = ap length c.args.from.now.are_conditions in
    let last : c.loop-condition.condition ≡ length (conditions_of (data_of c.args.from.now.cell.now))
    = omega (arith, all, length-map c.args.from.now.conditions.now (λ x. x.now)) in
    subst (λ n. c.loop-condition.udps ≡ c.args.udps.now ++ each_below (λ i. condition_primitive (data_of c.args.from.now.cell.now) i ∷ []) n)
    last c.loop-condition.invariant
