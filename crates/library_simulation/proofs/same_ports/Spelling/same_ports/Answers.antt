use Rattle.library_simulation.proofs.PortLemmas.{other_length}
use Rattle.library_simulation.proofs.same_ports.Spelling.same_ports.Goals as goal

pub returns-then-ports-others : goal.returns-then-ports-others
returns-then-ports-others c = other_length c.args.self c.args.ports.now c.args.others.now c.if-ports-others.true
