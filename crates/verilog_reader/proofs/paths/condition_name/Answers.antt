use Rattle.std.proofs.Common.{ℕ, List, Option, ap, ◌∙◌}
use Rattle.std.specs.List.{position}
use Rattle.std.specs.Str.{bytes_eq}
use Rattle.verilog_grammar.specs.specify_blocks.Nets.{is_value}
use Rattle.verilog_grammar.specs.VerilogBlocks.{kept, a_condition}
use Rattle.verilog_reader.proofs.paths.condition_name.Goals as goal

pub returns : goal.returns
unfolding a_condition
returns c =
    let find : List ℕ → Option ℕ = λ x. kept (is_value c.args.model.now c.args.model.now.instances) (position (bytes_eq x) c.args.model.now.wires) in
    c.known.ensures find (λ named. c.condition_of-found.ensures ∙ ap find c.bytes.ensures)
