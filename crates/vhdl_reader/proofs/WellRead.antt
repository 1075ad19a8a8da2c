-- Entities that are read are well formed.
use Rattle.std.proofs.Common.{◌≡◌, ℕ, List, length, Result, Ok, Err, IfOk}
use Rattle.std.specs.Prelude.{Vec}
use Rattle.grammar_reader.specs.Texts.{HaveOneAnswer}
use Rattle.vhdl_declarations_reader.specs.vital_tables.declared.model.VEntity.{VEntity}
use Rattle.vhdl_declarations_reader.specs.vhdl_grammar.VhdlText.{vhdl_text, language}
use Rattle.vhdl_declarations_reader.specs.vhdl_grammar.WellFormed.{IsCount, AreWellFormed}
use Rattle.vhdl_declarations_reader.specs.vhdl_grammar.Laws.{TextsAreWellFormed}

pub well_formed : {A E : Type 0} → HaveOneAnswer language → TextsAreWellFormed → (text : List ℕ) (r : Result (Vec VEntity A) E) →
    IfOk r (λ found. vhdl_text text ≡ Ok found.items) → IsCount (length text) → IfOk r (λ found. AreWellFormed found.items)
unfolding vhdl_text
well_formed answer texts text (Ok found) e few = texts text found.items few (((answer text).value found.items).1 e)
well_formed answer texts text (Err e) h few = tt
