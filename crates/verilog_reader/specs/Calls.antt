-- The terminals of an instance of a primitive behind its output. (IEEE 1364-2005, 8.6.)
use Rattle.std.specs.Prelude.{ℕ, Bool, ◌==◌, [], length, codes}
use Rattle.grammar_rules.specs.Rule as r
use Rattle.grammar_reader.specs.declared.refusal.Refusal.TheVariants.{Width}
use Rattle.grammar_reader.specs.Words.{Grammar, ◌>>=◌}
use Rattle.udp_tables.specs.VerilogRules.{expect, expect_where}
use Rattle.verilog_grammar.specs.VerilogModules.{input_count, next_input, more_inputs, with_instance}
use Rattle.verilog_grammar.specs.specify_blocks.declared.model.VModule.{VModule}
use Rattle.verilog_grammar.specs.specify_blocks.declared.model.VNet.{VNet}
use Rattle.verilog_grammar.specs.specify_blocks.declared.model.Instance.TheVariants as instance

-- NAME { "," NAME } ")" ";" behind this output and ",", of an instance with a state or of one without
unfoldable pub call_inputs : VModule → Bool → ℕ → VNet → Grammar VModule
call_inputs m sequential j output = do
  first ← next_input m sequential output []
  inputs ← more_inputs m sequential output first
  _ ← expect_where (length inputs == input_count m.udps j) Width (codes ")")
  _ ← expect (codes ";")
  r.Gives (with_instance m (instance.Primitive j output inputs))
