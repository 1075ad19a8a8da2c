use Rattle.std.proofs.Common.{arith, subst, Result}
use Rattle.std.proofs.lemmas.Grind.{common_steps}
use Rattle.grammar_rules.specs.Reading.{read}
use Rattle.grammar_reader.specs.declared.refusal.Stop.{Stop}
use Rattle.grammar_reader.specs.Reading.{ReadsAs}
use Rattle.udp_tables.specs.VerilogPrimitives as primitive
use Rattle.verilog_udp_reader.specs.declared.primitives.Header.{Header}
use Rattle.verilog_udp_reader.specs.Headers.{header_of}
use Rattle.verilog_udp_reader.proofs.Bodies.{header_read}
use Rattle.verilog_udp_reader.proofs.primitives.behind_name.Goals as goal

pub returns-in_err-name-2-clause-reads : goal.returns-in_err-name-2-clause-reads
returns-in_err-name-2-clause-reads c =
    let read_header = subst (λ (r : Result Header Stop). ReadsAs header_of (read primitive.header c.args.cursor.now) r c.primitive_header-header.new.cursor)
    c.in_ok-name.ensures.both.1 c.primitive_header-header.ensures in
    let whole = header_read c.args.name (header_of c.in_ok-name.header) c.args.cursor.now c.primitive_header-header.new.cursor read_header in
    grind (arith, common_steps, whole, c.behind_header-body.ensures c.args.name)

pub returns-clause-reads : goal.returns-clause-reads
returns-clause-reads c =
    let read_header = subst (λ (r : Result Header Stop). ReadsAs header_of (read primitive.header c.args.cursor.now) r c.primitive_header-header.new.cursor)
    c.in_ok-name.ensures.both.1 c.primitive_header-header.ensures in
    let whole = header_read c.args.name (header_of c.in_ok-name.header) c.args.cursor.now c.primitive_header-header.new.cursor read_header in
    grind (arith, common_steps, whole, c.behind_header-body.ensures c.args.name)
