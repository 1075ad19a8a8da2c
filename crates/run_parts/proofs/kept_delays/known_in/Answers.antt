use Rattle.std.proofs.Common.{sym}
use Rattle.run_parts.proofs.KeptDelayLemmas.{found-delay}
use Rattle.run_parts.proofs.kept_delays.known_in.Goals as goal

pub returns-in-Some : goal.returns-in-Some
returns-in-Some c = λ a b paths delay are is.
    let found = c.in-Some.found.now in
    found-delay a b paths c.args.turn found c.args.output c.args.input delay (are c.args.place found (sym c.in-Some.ensures)) (c.delay_of.ensures.turn delay is)
    (c.delay_of.ensures.output delay is) (c.delay_of.ensures.input delay is) (c.delay_of.ensures.delay delay is)
