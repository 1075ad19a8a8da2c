-- Parts of timing checks that several kinds have in common.
use Rattle.std.specs.Prelude.{ℕ, Option, codes}
use Rattle.grammar_rules.specs.Rule as r
use Rattle.grammar_reader.specs.Words.{Grammar, ◌>>=◌}
use Rattle.cell_machine.specs.declared.checks.CheckKind.{CheckKind}
use Rattle.cell_machine.specs.declared.checks.Event.{Event}
use Rattle.udp_tables.specs.declared.timing_checks.TimingCheck.{TimingCheck}
use Rattle.udp_tables.specs.VerilogRules.{expect}
use Rattle.verilog_grammar.specs.VerilogBlocks.{a_number, check_end}
use Rattle.verilog_grammar.specs.specify_blocks.declared.model.VModule.{VModule}

-- "," NUM "," NAME ")" ";" behind the events of a check of this kind and its condition
unfoldable pub limited : VModule → CheckKind → Event → Event → Option ℕ → Grammar TimingCheck
limited m kind first second when = do
  _ ← expect (codes ",")
  limit ← a_number
  _ ← check_end m
  r.Gives (record { kind = kind; first = first; second = second; limit = limit; condition = when })
