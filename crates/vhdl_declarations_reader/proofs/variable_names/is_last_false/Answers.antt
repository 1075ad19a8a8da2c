use Rattle.std.proofs.Common.{sym, ap, ◌∙◌}
use Rattle.vhdl_grammar.specs.VhdlDeclarations.{is_last_false}
use Rattle.vhdl_declarations_reader.proofs.NextVariable.{is_last_false_append}
use Rattle.vhdl_declarations_reader.proofs.variable_names.is_last_false.Goals as goal

pub returns-in-Some : goal.returns-in-Some
returns-in-Some c = sym (ap is_last_false c.in-Some.ensures.cases.0 ∙ is_last_false_append c.in-Some.field-0-1.now c.in-Some.last.now)
