-- The header of a primitive, as the grammar names it.
use Rattle.std.specs.Prelude.{ℕ, nat_le, List, [], length, codes}
use Rattle.grammar_rules.specs.Rule as r
use Rattle.grammar_reader.specs.declared.refusal.Refusal.TheVariants.{Width}
use Rattle.grammar_reader.specs.Words.{Grammar, ◌>>=◌}
use Rattle.udp_tables.specs.VerilogRules.{expect, expect_where}
use Rattle.udp_tables.specs.VerilogPrimitives.{most_inputs, next_input, more_inputs}
use Rattle.udp_tables.specs.VerilogPrimitives as primitive
use Rattle.verilog_udp_reader.specs.declared.primitives.Header.{Header}

abbrev pub header_of : Header → primitive.Header
header_of h = record { output = h.output; inputs = h.inputs }

-- the header of these
abbrev pub header_with : List ℕ → List (List ℕ) → primitive.Header
header_with output inputs = record { output = output; inputs = inputs }

-- a header behind its output and ","
unfoldable pub header_rest : List ℕ → Grammar primitive.Header
header_rest output = do
  first ← next_input output []
  inputs ← more_inputs output first
  _ ← expect_where (nat_le (length inputs) most_inputs) Width (codes ")")
  _ ← expect (codes ";")
  r.Gives (header_with output inputs)
