use Rattle.std.proofs.Common.{ℕ, List, Option, ap, ◌∙◌}
use Rattle.udp_tables.specs.Ports.{is_input_port}
use Rattle.verilog_grammar.specs.VerilogBlocks.{kept, port_of, an_input}
use Rattle.verilog_reader.proofs.paths.input_name.Goals as goal

pub returns : goal.returns
unfolding an_input
returns c =
    let find : List ℕ → Option ℕ = λ x. kept (is_input_port c.args.model.now.ports) (port_of c.args.model.now x) in
    c.known.ensures find (λ named. c.input_of-found.ensures ∙ ap find c.bytes.ensures)
