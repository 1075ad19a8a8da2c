use Rattle.std.proofs.Common.{◌∷◌, [], length, map, ap, ◌∙◌, arith}
use Rattle.std.proofs.lemmas.List.{length-append, take_all}
use Rattle.scan_cells.specs.Weights.{weight_of}
use Rattle.scan_cells.proofs.WeightLemmas.{weights_turn}
use Rattle.scan_cells.proofs.points.weights_of.Goals as goal

pub loop-source-preserved : goal.loop-source-preserved
loop-source-preserved c =
    let long = length-append c.loop-source.weights (c.source_weight.result ∷ []) in
    record {
      whole =
          weights_turn c.args.places.now c.args.support.now c.loop-source.source-index _ c.loop-source.weights c.push.new.self
          c.source_weight.result (omega (arith, c.loop-source-test.true)) c.source_weight.ensures c.push.ensures c.loop-source.invariant.whole;
      len = ap length c.push.ensures ∙ omega (arith, long, c.loop-source.invariant.len);
    }

pub returns-clause-is : goal.returns-clause-is
returns-clause-is c =
    c.loop-source.invariant.whole
    ∙ ap (map (weight_of c.args.places.now)) (take_all c.loop-source.source-index c.args.support.now (omega (arith, c.loop-source-test.false)))

pub returns-clause-few : goal.returns-clause-few
returns-clause-few c = omega (arith, c.loop-source.invariant.len, c.loop-source.auto.source-index-end, c.requires.support)
