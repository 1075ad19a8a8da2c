-- The entity of declarations and statements.
use Rattle.vhdl_declarations_reader.specs.vital_tables.declared.model.VEntity.{VEntity}
use Rattle.vhdl_declarations_reader.specs.vhdl_grammar.declared.scope.Scope.{Scope}
use Rattle.vhdl_declarations_reader.specs.vhdl_grammar.VhdlText.{entity_with}
use Rattle.vhdl_reader.specs.declared.statements.Statements.{Statements}

abbrev pub entity_of : Scope → Statements → VEntity
entity_of scope read = entity_with scope read.checks read.columns read.values (read.paths, read.uses)
