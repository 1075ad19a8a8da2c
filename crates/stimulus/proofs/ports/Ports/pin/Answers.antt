use Rattle.std.proofs.Common.{sym, ◌∙◌, position, bytes_eq}
use Rattle.stimulus.specs.PortPlaces.{port_at}
use Rattle.stimulus.proofs.Entries.{port_found}
use Rattle.stimulus.proofs.ports.Ports.pin.Goals as goal

pub returns-in-Some : goal.returns-in-Some
returns-in-Some c =
    (λ i. port_at (c.in-Some.ensures i) (position (bytes_eq c.args.name.now) c.args.self.now.outputs)) ∙ sym (port_found c.args.name.now c.args.self.now)

pub returns-in-None : goal.returns-in-None
returns-in-None c =
    c.no_input.ensures ∙ (λ i. port_at (c.in-None.ensures i) (c.number-in-None.ensures i)) ∙ sym (port_found c.args.name.now c.args.self.now)
