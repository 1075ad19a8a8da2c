use Rattle.std.proofs.Common.{subst}
use Rattle.grammar_rules.specs.Reading.{read}
use Rattle.grammar_reader.specs.Reading.{Reads}
use Rattle.verilog_grammar.specs.specify_blocks.declared.model.VModule.{VModule}
use Rattle.verilog_reader.specs.File.{module_rest}
use Rattle.verilog_reader.proofs.file.behind_declarations.Goals as goal

pub returns-clause-reads : goal.returns-clause-reads
returns-clause-reads c =
    subst (λ (m : VModule). Reads (read (module_rest m) c.args.cursor.now) c.with_rest.result c.with_rest.new.cursor)
    c.in_ok-model.ensures.same c.with_rest.ensures.reads
