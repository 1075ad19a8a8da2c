-- What stands behind the name of a primitive, and behind its header. (IEEE 1364-2005, 8.1.)
use Rattle.std.specs.Prelude.{ℕ, Bool, List, length, codes}
use Rattle.grammar_rules.specs.Rule as r
use Rattle.grammar_reader.specs.Words.{Grammar, ◌>>=◌}
use Rattle.udp_tables.specs.declared.table.Udp.{Udp}
use Rattle.udp_tables.specs.VerilogRules.{expect}
use Rattle.udp_tables.specs.VerilogPrimitives.{header, declared_output, register, declared_inputs, table}
use Rattle.udp_tables.specs.VerilogPrimitives as primitive
use Rattle.verilog_udp_reader.specs.declared.primitives.Body.{Body}
use Rattle.verilog_udp_reader.specs.declared.primitives.Header.{Header}

-- the primitive of this name, header and body
abbrev pub udp_of : List ℕ → Header → Body → Udp
udp_of name h body =
    record { name = name; output = h.output; inputs = h.inputs; sequential = body.sequential; rows = body.rows }

-- behind the declaration of the state, if there is one
abbrev pub behind_register : List ℕ → primitive.Header → Bool → Grammar Udp
behind_register name h sequential = do
  _ ← declared_inputs h.inputs
  rows ← table sequential (length h.inputs)
  _ ← expect (codes "endprimitive")
  r.Gives (record { name = name; output = h.output; inputs = h.inputs; sequential = sequential; rows = rows })

unfoldable pub behind_header : List ℕ → primitive.Header → Grammar Udp
behind_header name h = do
  _ ← declared_output h.output
  sequential ← register h
  behind_register name h sequential

unfoldable pub behind_name : List ℕ → Grammar Udp
behind_name name = do
  h ← header
  behind_header name h
