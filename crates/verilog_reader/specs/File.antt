-- What stands before a place of a text, as the grammar names it.
use Rattle.std.specs.Prelude.{◌≡◌, ℕ, List, Err, codes}
use Rattle.grammar_rules.specs.Rule as r
use Rattle.grammar_reader.specs.Words.{Grammar, ◌>>=◌}
use Rattle.grammar_reader.specs.declared.refusal.Refusal.TheVariants.{Undriven}
use Rattle.udp_tables.specs.declared.models.ModelFault.{ModelFault}
use Rattle.udp_tables.specs.declared.models.ModelFault.TheVariants as fault
use Rattle.udp_tables.specs.VerilogRules.{expect_where}
use Rattle.verilog_grammar.specs.VerilogModules.{are_all_driven, instances}
use Rattle.verilog_grammar.specs.VerilogBlocks.{specify}
use Rattle.verilog_grammar.specs.VerilogText.{verilog_text}
use Rattle.verilog_grammar.specs.specify_blocks.declared.model.VModule.{VModule}
use Rattle.verilog_grammar.specs.VerilogText as spec
use Rattle.verilog_reader.specs.declared.file.Before.{Before}

abbrev pub before_of : Before → spec.Before
before_of b = record { modules = b.modules.items; names = b.names; udps = b.udps.items }

abbrev pub modules_of : Before → List VModule
modules_of b = b.modules.items

-- what stands behind the declarations of this module: its instances and its specify block. All its outputs and wires are driven.
unfoldable pub module_rest : VModule → Grammar VModule
module_rest m = do
  joined ← instances m
  whole ← specify joined
  _ ← expect_where (are_all_driven whole) Undriven (codes "endmodule")
  r.Gives whole

-- this is the fault of the text. Want of memory is told of no text.
abbrev pub IsFaultOf : List ℕ → ModelFault → Type 0
IsFaultOf text fault.Memory = Unit {0}
IsFaultOf text e = verilog_text text ≡ Err e
