use Rattle.std.proofs.Common.{take}
use Rattle.bank_refusals.specs.InnerPins.{PutsPin}
use Rattle.bank_refusals.proofs.pins_by_name.put_names.Given as goal

abbrev pub invariant-loop-argument : goal.invariant-loop-argument
invariant-loop-argument l = PutsPin l.initial.places (take l.argument-index l.arguments) l.at l.places
