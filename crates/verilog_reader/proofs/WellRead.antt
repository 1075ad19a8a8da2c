-- Modules that are read are well formed.
use Rattle.std.proofs.Common.{◌≡◌, ℕ, List, Result, Ok, Err, IfOk}
use Rattle.std.specs.Prelude.{Vec}
use Rattle.verilog_grammar.specs.specify_blocks.declared.model.VModule.{VModule}
use Rattle.verilog_grammar.specs.VerilogText.{verilog_text}
use Rattle.verilog_grammar.specs.WellFormed.{AreWellFormed}
use Rattle.verilog_grammar.proofs.ReadText.{text_modules}
use Rattle.verilog_grammar.proofs.VerilogAnswers.{is_answer}

pub well_formed : {A E : Type 0} (text : List ℕ) (r : Result (Vec VModule A) E)
    → IfOk r (λ found. verilog_text text ≡ Ok found.items) → IfOk r (λ found. AreWellFormed found.items)
unfolding verilog_text
well_formed text (Ok found) e = text_modules text found.items (((is_answer text).value found.items).1 e)
well_formed text (Err e) h = tt
