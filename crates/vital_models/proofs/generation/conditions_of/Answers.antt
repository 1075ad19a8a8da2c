use Rattle.std.proofs.Common.{◌<◌, [], ◌∷◌, ◌++◌, length, ◌∙◌, ap, arith}
use Rattle.std.proofs.lemmas.List.{length-map}
use Rattle.bool_functions.specs.declared.tree.Node.TheVariants as node
use Rattle.cell_machine.specs.CellData.{data_of}
use Rattle.vital_tables.specs.udp_tables.Conditions.{conditions_of}
use Rattle.cell_tables.proofs.OutputLemmas.{condition-item}
use Rattle.vital_models.specs.Generated.{condition_of}
use Rattle.vital_models.proofs.ListLemmas.{map-map-more}
use Rattle.vital_models.proofs.generation.conditions_of.Goals as goal

pub loop-i-preserved : goal.loop-i-preserved
loop-i-preserved c =
    map-map-more (condition_of c.args.from.now.cell.now.pins) (λ f. f.now) c.args.from.now.conditions.now c.loop-i.i c.index-conditions-i.result c.loop-i.truths c.push.new.self
    c.loop-i-test.true c.index-conditions-i.is
    (c.in_ok-push.ensures.ok ∙ ap (λ truth. c.loop-i.truths ++ truth ∷ []) c.in_ok-condition_of.ensures)
    ∙ c.loop-i.invariant

pub condition_of-requires : goal.condition_of-requires
condition_of-requires c =
    let trees = conditions_of (data_of c.args.from.now.cell.now) in
    let within : c.loop-i.i < length trees
    = omega (arith, c.loop-i-test.true, ap length c.args.from.now.are_conditions, length-map c.args.from.now.conditions.now (λ f. f.now)) in
    record {
      number = within;
      is = condition-item c.args.from.now.conditions.now (λ f. f.now) trees c.loop-i.i c.index-conditions-i.result node.Zero c.args.from.now.are_conditions within c.index-conditions-i.is;
    }
