use Rattle.std.proofs.Common.{◌≡◌, drop}
use Rattle.std.specs.List.{list_any}
use Rattle.vhdl_grammar.specs.VhdlTables.{is_edge}
use Rattle.vhdl_declarations_reader.proofs.symbols.has_edge.Given as goal

abbrev pub invariant-loop-symbol : goal.invariant-loop-symbol
invariant-loop-symbol l = list_any is_edge (drop l.symbol-index l.symbols) ≡ list_any is_edge l.symbols
