use Rattle.std.proofs.Common.{◌≡◌, ◌++◌, List, drop}
use Rattle.cell_machine.specs.declared.changes.Change.{Change}
use Rattle.stimulus.specs.TraceLine.{outputs_text}
use Rattle.stimulus.proofs.trace.push_outputs.Given as goal

-- the text so far, with the outputs from here on, is the text with all outputs
abbrev pub invariant-loop-place : goal.invariant-loop-place
invariant-loop-place g l =
    (h : List Change) → g.S.TraceSim.stands l.sim h → (l.text.items ++ l.pieces) ++ outputs_text (drop l.place l.names) (drop l.place ((g.S.TraceSim.machine l.sim).line h).values) (drop l.place ((g.S.TraceSim.machine l.sim).line h).delays) ≡ (l.fn.text.items ++ l.fn.pieces) ++ outputs_text l.names ((g.S.TraceSim.machine l.sim).line h).values ((g.S.TraceSim.machine l.sim).line h).delays
