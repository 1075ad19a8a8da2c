use Rattle.std.proofs.Common.{◌≡◌, ◌++◌, drop}
use Rattle.std.specs.List.{filter_map}
use Rattle.timing_arcs.specs.RelatedPins.{input_of}
use Rattle.timing_arcs.proofs.related.inputs.Given as goal

-- the pins so far, with those among the others, are all
abbrev pub invariant-loop-pin : goal.invariant-loop-pin
invariant-loop-pin l = l.inputs ++ filter_map input_of (drop l.pin-index l.related) ≡ filter_map input_of l.related
