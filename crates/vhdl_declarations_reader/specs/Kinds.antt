-- The kinds of declarations, as the grammar names them.
use Rattle.vhdl_grammar.specs.VhdlTables.{ConstantOf}
use Rattle.vhdl_grammar.specs.VhdlTables as tables
use Rattle.vhdl_grammar.specs.VhdlDeclarations.{VariableOf}
use Rattle.vhdl_grammar.specs.VhdlDeclarations as declarations
use Rattle.vhdl_declarations_reader.specs.declared.variable_names.VariableOf.{VariableOf as Variable}
use Rattle.vhdl_declarations_reader.specs.declared.variable_names.VariableOf.TheVariants as variable
use Rattle.vhdl_declarations_reader.specs.declared.constants.ConstantOf.{ConstantOf as Kind}
use Rattle.vhdl_declarations_reader.specs.declared.constants.ConstantOf.TheVariants as kind

abbrev pub constant_kind : Kind → ConstantOf
constant_kind kind.StateOrOutput = tables.StateOrOutput
constant_kind kind.Condition = tables.Condition

abbrev pub variable_kind : Variable → VariableOf
variable_kind variable.Check = declarations.Check
variable_kind variable.Violation = declarations.Violation
variable_kind variable.State = declarations.State
variable_kind variable.Output = declarations.Output
variable_kind variable.Glitch = declarations.Glitch
