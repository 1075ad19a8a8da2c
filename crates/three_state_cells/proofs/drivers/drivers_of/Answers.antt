use Rattle.std.proofs.Common.{◌+◌, ◌∙◌, List, map, drop}
use Rattle.core_groups.specs.Outputs.{ThreeStateOutput, shown}
use Rattle.core_groups.proofs.Turns.{map_turn}
use Rattle.three_state_cells.proofs.Turns.{driven_turn, paths_turn, left_out_turn, one_longer, same_turn}
use Rattle.three_state_cells.proofs.drivers.drivers_of.Goals as goal

pub loop-output-preserved : goal.loop-output-preserved
loop-output-preserved c =
    let output : ThreeStateOutput = shown c.output-item.result in
    let rest : List ThreeStateOutput = map shown (drop (c.loop-output.output-index + 1) c.args.outputs.now) in
    let turn = map_turn shown c.args.outputs.now c.loop-output.output-index c.output-item.result c.loop-output-test.true c.output-item.is in
    let same = c.loop-output.invariant.same in
    let added = c.in_ok-add.ensures in
    record {
      inputs = added.inputs ∙ c.loop-output.invariant.inputs;
      outputs = added.outputs ∙ c.loop-output.invariant.outputs;
      driven =
          driven_turn c.args.core.now c.loop-output.core output rest _ _ _ turn same added.drives ∙ c.loop-output.invariant.driven;
      paths =
          paths_turn c.args.core.now c.loop-output.core output rest _ _ _ _ _ turn same (one_longer _ _ _ added.drives) added.paths
          ∙ c.loop-output.invariant.paths;
      left_out =
          left_out_turn c.args.core.now c.loop-output.core output rest _ _ _ turn same added.left_out ∙ c.loop-output.invariant.left_out;
      same = same_turn c.args.core.now c.loop-output.core _ output.pin same added.core;
    }
