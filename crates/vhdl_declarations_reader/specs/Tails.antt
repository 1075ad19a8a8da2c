-- The rest of the grammar of declarations from some places on, where another function reads on.
use Rattle.std.specs.Prelude.{ℕ, List, [], ◌∷◌, Some, codes}
use Rattle.grammar_rules.specs.Rule as r
use Rattle.udp_tables.specs.declared.models.VPort.{VPort}
use Rattle.grammar_reader.specs.Words.{Grammar, ◌>>=◌}
use Rattle.vhdl_grammar.specs.declared.scope.Scope.{Scope}
use Rattle.vhdl_grammar.specs.declared.scope.Tables.{Tables}
use Rattle.vhdl_grammar.specs.VhdlRules.{expect, expect_all, this_name}
use Rattle.vhdl_grammar.specs.VhdlTables.{constants}
use Rattle.vhdl_grammar.specs.VhdlDeclarations.{architecture_header, input_names, sensitivity, variables}

-- ")" ";" behind these ports
unfoldable pub ports_end : {A : Type 0} → A → Grammar A
ports_end ports = do
  _ ← expect_all (codes ")" ∷ codes ";" ∷ [])
  r.Gives ports

-- "end" NAME ";" behind the ports of this entity
unfoldable pub header_end : {A : Type 0} → List ℕ → A → Grammar A
header_end entity ports = do
  _ ← expect (codes "end")
  _ ← this_name (Some entity)
  _ ← expect (codes ";")
  r.Gives ports

-- the declarations behind the tables of an entity
unfoldable pub behind_tables : List ℕ → List VPort → Tables → Grammar Scope
behind_tables entity ports tables = do
  _ ← expect_all (codes "begin" ∷ codes "process" ∷ [])
  _ ← sensitivity (input_names ports)
  v ← variables ports tables
  _ ← expect (codes "begin")
  r.Gives (record { name = entity; ports = ports; tables = tables; variables = v })

-- the declarations behind the header of an entity
unfoldable pub behind_header : List ℕ → List VPort → Grammar Scope
behind_header entity ports = do
  _ ← architecture_header entity
  tables ← constants
  behind_tables entity ports tables
