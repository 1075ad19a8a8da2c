use Rattle.std.proofs.Common.{sym, ◌∙◌}
use Rattle.verilog_udp_reader.proofs.NewNames.{declared_read}
use Rattle.verilog_udp_reader.proofs.declared.declare.Goals as goal

pub returns-in-Ok-Some-clause-reads : goal.returns-in-Ok-Some-clause-reads
returns-in-Ok-Some-clause-reads c =
    declared_read c.args.names.now c.args.cursor.now c.skip.new.self c.bytes-name.result.now c.in-Ok-Some.field-0 c.in-Ok-Some.field-0-0 c.add.new.self
    c.bytes-name.ensures c.skip.ensures (sym c.is_name.ensures ∙ c.if-not-is_name.false) c.in-Ok-Some.ensures.added c.in-Ok-Some.field-0-is
