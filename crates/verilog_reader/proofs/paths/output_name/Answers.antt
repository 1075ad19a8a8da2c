use Rattle.std.proofs.Common.{ℕ, List, Option, ap, ◌∙◌}
use Rattle.verilog_grammar.specs.specify_blocks.Nets.{is_output_port}
use Rattle.verilog_grammar.specs.VerilogBlocks.{kept, port_of, an_output}
use Rattle.verilog_reader.proofs.paths.output_name.Goals as goal

pub returns : goal.returns
unfolding an_output
returns c =
    let find : List ℕ → Option ℕ = λ x. kept (is_output_port c.args.model.now.ports) (port_of c.args.model.now x) in
    c.known.ensures find (λ named. c.output_of-found.ensures ∙ ap find c.bytes.ensures)
