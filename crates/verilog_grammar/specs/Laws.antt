-- Laws of Verilog text.
use Rattle.std.specs.Prelude.{ℕ, List}
use Rattle.specify_blocks.specs.declared.model.VModule.{VModule}
use Rattle.verilog_grammar.specs.VerilogText.{IsVerilogText}
use Rattle.verilog_grammar.specs.WellFormed.{AreWellFormed}

-- the modules of a text are well formed
abbrev pub TextsAreWellFormed : Type 0
TextsAreWellFormed = (bytes : List ℕ) (ms : List VModule) → IsVerilogText bytes ms → AreWellFormed ms
