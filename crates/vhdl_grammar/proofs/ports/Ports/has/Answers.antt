use Rattle.std.proofs.Common.{ap, ◌∙◌}
use Rattle.std.specs.Option.{is_some}
use Rattle.vhdl_grammar.proofs.LoweredNames.{port_found}
use Rattle.vhdl_grammar.proofs.ports.Ports.has.Goals as goal

pub returns : goal.returns
returns c = c.is_some.ensures ∙ ap is_some (c.in_ok-found.ensures c.requires) ∙ port_found c.args.self.now c.args.name.now
