-- The rest of the grammar of statements from some places on, where another function reads on.
use Rattle.std.specs.Prelude.{List, length}
use Rattle.grammar_rules.specs.Rule as r
use Rattle.vhdl_declarations_reader.specs.vital_tables.declared.model.VEntity.{VEntity}
use Rattle.grammar_reader.specs.Words.{Grammar, ◌>>=◌}
use Rattle.vhdl_declarations_reader.specs.vhdl_grammar.declared.scope.Scope.{Scope}
use Rattle.vhdl_declarations_reader.specs.vhdl_grammar.declared.scope.Columns.{Columns}
use Rattle.vhdl_declarations_reader.specs.vhdl_grammar.declared.scope.Assigned.{Assigned}
use Rattle.vhdl_declarations_reader.specs.vhdl_grammar.VhdlChecks.{Checks, violation, state_calls}
use Rattle.vhdl_declarations_reader.specs.vhdl_grammar.VhdlOutputs.{values_of, output_lines}
use Rattle.vhdl_declarations_reader.specs.vhdl_grammar.VhdlText.{entity_end, entity_with}

-- the statements behind the values of the outputs
unfoldable pub behind_values : Scope → Checks → List Columns → List Assigned → Grammar VEntity
behind_values scope checked columns values = do
  lines ← output_lines scope checked.uses
  _ ← entity_end scope lines.1
  r.Gives (entity_with scope checked.checks columns values lines)

-- the statements behind the checks
unfoldable pub behind_checks : Scope → Checks → Grammar VEntity
behind_checks scope checked = do
  _ ← violation (length scope.variables.periods)
  columns ← state_calls scope
  values ← values_of scope
  behind_values scope checked columns values
