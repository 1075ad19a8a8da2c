use Rattle.std.proofs.Common.{◌≡◌, ℕ, Some, length, slice_get}
use Rattle.statetables.specs.declared.lanes.StepWords.{StepWords}
use Rattle.step_tables.specs.NodeSteps.{TellChange}
use Rattle.step_tables.proofs.changes.change_words.Given as goal

abbrev pub invariant-loop-number : goal.invariant-loop-number
invariant-loop-number l = record {
  len : length l.words ≡ l.number;
  each : (j : ℕ) (w : StepWords) → slice_get l.words j ≡ Some w
      → TellChange l.node.table.now l.node.node l.node.inputs.now l.node.support.now j w;
}
