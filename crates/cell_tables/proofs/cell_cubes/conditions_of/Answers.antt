use Rattle.std.proofs.Common.{◌≡◌, ◌<◌, [], ◌∷◌, length, map, sym, ◌∙◌, ap, subst, arith}
use Rattle.std.proofs.lemmas.List.{length-map}
use Rattle.trit_cubes.proofs.ListLemmas.{contains-among}
use Rattle.bool_functions.specs.declared.tree.Node.TheVariants as node
use Rattle.cell_machine.specs.CellData.{data_of}
use Rattle.udp_tables.specs.declared.parts.Part.TheVariants as part
use Rattle.udp_tables.specs.Edges.{each_below}
use Rattle.udp_tables.specs.Conditions.{conditions_of, support_of, condition_at}
use Rattle.cell_tables.specs.Cubes.{function_cubes, cubes_of_part}
use Rattle.cell_tables.proofs.OutputLemmas.{conditions-small, condition-item}
use Rattle.cell_tables.proofs.EachBelow.{below-more}
use Rattle.cell_tables.proofs.cell_cubes.conditions_of.Goals as goal

pub condition_cubes-requires : goal.condition_cubes-requires
condition_cubes-requires c =
    let cell = c.args.cell.now in
    let trees = conditions_of (data_of cell) in
    let f = c.index-conditions-i.result.now in
    let within : c.loop-i.i < length trees
    = omega (arith, c.loop-i-test.true, ap length c.requires, length-map c.args.conditions.now (λ f. f.now)) in
    conditions-small cell f
    (contains-among f trees
    (c.loop-i.i, within, condition-item c.args.conditions.now (λ f. f.now) trees c.loop-i.i c.index-conditions-i.result f c.requires within c.index-conditions-i.is))

pub loop-i-preserved : goal.loop-i-preserved
loop-i-preserved c =
    let cell = data_of c.args.cell.now in
    let trees = conditions_of cell in
    let within : c.loop-i.i < length trees
    = omega (arith, c.loop-i-test.true, ap length c.requires, length-map c.args.conditions.now (λ f. f.now)) in
    let tree = condition-item c.args.conditions.now (λ f. f.now) trees c.loop-i.i c.index-conditions-i.result node.Zero c.requires within c.index-conditions-i.is in
    below-more (λ i. cubes_of_part cell (part.Condition i)) c.loop-i.i [] c.loop-i.cubes c.push.new.self c.in_ok-condition_cubes.field-0
    c.loop-i.invariant c.in_ok-push.ensures.ok
    (c.in_ok-condition_cubes.ensures
    ∙ ap (λ f. function_cubes (length (support_of f)) (condition_at (support_of f) f)) (sym tree))

pub returns : goal.returns
returns c =
    let trees = conditions_of (data_of c.args.cell.now) in
    let all : length (map (λ f. f.now) c.args.conditions.now) ≡ length trees = ap length c.requires in
    let last : c.loop-i.i ≡ length trees = omega (arith, all, length-map c.args.conditions.now (λ f. f.now)) in
    subst (λ n. c.loop-i.cubes ≡ each_below (λ i. cubes_of_part (data_of c.args.cell.now) (part.Condition i) ∷ []) n) last c.loop-i.invariant
