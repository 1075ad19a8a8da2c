use Rattle.std.proofs.Common.{◌≡◌, ◌-◌}
use Rattle.grammar_rules.specs.Reading.{repeat, read}
use Rattle.verilog_grammar.specs.specify_blocks.declared.model.VModule.{VModule}
use Rattle.verilog_grammar.specs.VerilogModules.{begins_instance, one_instance}
use Rattle.verilog_reader.specs.NameSearch.{udp_name}
use Rattle.verilog_reader.specs.Netlist.{MayFind}
use Rattle.verilog_reader.proofs.instances.more_instances.Given as goal

abbrev pub invariant-loop-turn : goal.invariant-loop-turn
invariant-loop-turn l = record {
  reads : repeat (λ (m : VModule). begins_instance m.udps) (λ m p r. read (one_instance m p) r) (l._turn-end - l._turn) l.model l.cursor
      ≡ repeat (λ (m : VModule). begins_instance m.udps) (λ m p r. read (one_instance m p) r) l._turn-end l.initial.model l.initial.cursor;
  found : MayFind udp_name l.names l.model.udps;
  named : l.model.name ≡ l.initial.model.name;
}
