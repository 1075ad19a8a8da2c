-- The declarations of an entity with its architecture.
use Rattle.std.specs.Prelude.{ℕ, List}
use Rattle.udp_tables.specs.declared.models.VPort.{VPort}
use Rattle.vhdl_grammar.specs.declared.scope.Scope.{Scope}
use Rattle.vhdl_grammar.specs.declared.scope.Tables.{Tables}
use Rattle.vhdl_grammar.specs.declared.scope.Variables.{Variables}
use Rattle.vhdl_declarations_reader.specs.declared.scope.Architecture.{Architecture}

-- of an entity of this name, with these ports, tables and variables
abbrev pub scope_of_parts : List ℕ → List VPort → Tables → Variables → Scope
scope_of_parts entity ports tables v = record { name = entity; ports = ports; tables = tables; variables = v }

-- the same, where the tables and the variables are those of an architecture
abbrev pub scope_with : List ℕ → List VPort → Architecture → Scope
scope_with entity ports inner = scope_of_parts entity ports inner.tables inner.variables
