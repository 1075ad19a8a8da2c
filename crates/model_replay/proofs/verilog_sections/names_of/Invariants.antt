use Rattle.std.proofs.Common.{◌≡◌, ◌++◌, drop}
use Rattle.verilog_grammar.specs.WellFormed.{udp_names}
use Rattle.model_replay.proofs.verilog_sections.names_of.Given as goal

abbrev pub invariant-loop-udp : goal.invariant-loop-udp
invariant-loop-udp l = l.names ++ udp_names (drop l.udp-index l.udp-items) ≡ udp_names l.udp-items
