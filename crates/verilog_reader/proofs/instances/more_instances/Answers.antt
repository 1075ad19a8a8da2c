use Rattle.std.proofs.Common.{◌≡◌, sym, ap, subst, ◌∙◌}
use Rattle.verilog_grammar.specs.specify_blocks.declared.model.VModule.{VModule}
use Rattle.verilog_grammar.specs.VerilogModules.{instances}
use Rattle.verilog_reader.specs.NameSearch.{udp_name}
use Rattle.verilog_reader.specs.Netlist.{MayFind}
use Rattle.grammar_rules.specs.Reading.{read}
use Rattle.verilog_reader.proofs.Begun.{turns, preserved, undefined_exit, refused_exit}
use Rattle.verilog_reader.proofs.instances.more_instances.Goals as goal

pub returns-in_default-clause-reads : goal.returns-in_default-clause-reads
unfolding instances
returns-in_default-clause-reads c =
    let all : turns c.left-turn-end.result c.args.model.now c.args.cursor.now ≡ read (instances c.args.model.now) c.args.cursor.now = ap (λ n. turns n c.args.model.now c.args.cursor.now) c.left-turn-end.ensures in
    undefined_exit c.left-turn-end.result c.loop-turn._turn c.loop-turn.model c.loop-turn.cursor c.bytes.result.now c.bytes-in-loop-turn.result.now
    c.is_instance_start.result c.instance_primitive.result (read (instances c.args.model.now) c.args.cursor.now) c.loop-turn-test.true c.bytes.ensures c.is_instance_start.ensures
    c.if-not-is_instance_start.false c.bytes-in-loop-turn.ensures c.instance_primitive.ensures c.in_default.is (c.loop-turn.invariant.reads ∙ all)

pub returns-in_err-instance-clause-reads : goal.returns-in_err-instance-clause-reads
unfolding instances
returns-in_err-instance-clause-reads c =
    let all : turns c.left-turn-end.result c.args.model.now c.args.cursor.now ≡ read (instances c.args.model.now) c.args.cursor.now = ap (λ n. turns n c.args.model.now c.args.cursor.now) c.left-turn-end.ensures in
    refused_exit c.left-turn-end.result c.loop-turn._turn c.loop-turn.model c.loop-turn.cursor c.one_instance.new.cursor c.skip.new.self c.bytes.result.now
    c.bytes-in-loop-turn.result.now c.is_instance_start.result c.instance_primitive.result c.in-Some.udp (read (instances c.args.model.now) c.args.cursor.now) c.in_err-instance.field-0.0
    _ c.from_residual.result c.loop-turn-test.true c.bytes.ensures c.is_instance_start.ensures c.if-not-is_instance_start.false
    c.bytes-in-loop-turn.ensures c.instance_primitive.ensures c.in-Some.is c.skip.ensures c.in_err-instance.ensures
    (c.loop-turn.invariant.reads ∙ all) c.from_residual.ensures.1

pub loop-turn-preserved : goal.loop-turn-preserved
loop-turn-preserved c =
    record {
      reads = preserved c.left-turn-end.result c.loop-turn._turn c.loop-turn.model c.join.new.self c.loop-turn.cursor c.one_instance.new.cursor c.skip.new.self
          c.bytes.result.now c.bytes-in-loop-turn.result.now c.is_instance_start.result c.instance_primitive.result
          c.in-Some.udp c.in_ok-instance.instance _
          c.loop-turn-test.true c.bytes.ensures c.is_instance_start.ensures c.if-not-is_instance_start.false c.bytes-in-loop-turn.ensures
          c.instance_primitive.ensures c.in-Some.is c.skip.ensures c.in_ok-instance.ensures c.in_ok-join.ensures.joined
          c.loop-turn.invariant.reads;
      found = subst (λ (m : VModule). MayFind udp_name c.args.names.now m.udps) (sym c.in_ok-join.ensures.joined) c.loop-turn.invariant.found;
      named = ap (λ (m : VModule). m.name) c.in_ok-join.ensures.joined ∙ c.loop-turn.invariant.named;
    }
