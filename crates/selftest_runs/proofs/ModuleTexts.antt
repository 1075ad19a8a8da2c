-- The text of a module reads as this module alone.
use Rattle.std.proofs.Common.{◌≡◌, ℕ, List, [], ◌∷◌, ◌++◌, refl, sym, ap, subst, ◌∙◌, IsTrue}
use Rattle.std.proofs.lemmas.List.{append-nil}
use Rattle.text_io.specs.declared.slots.OutSlot.TheVariants.{VerilogText}
use Rattle.text_io.specs.declared.slots.OutSlot.{OutSlot}
use Rattle.text_io.specs.declared.slots.Slot.TheVariants.{Output}
use Rattle.text_io.specs.Desk.{DeskState, is_bound, wrote}
use Rattle.cell_machine.specs.CellData.{CellData}
use Rattle.verilog_grammar.specs.specify_blocks.declared.model.VModule.{VModule}
use Rattle.verilog_grammar.specs.specify_blocks.Generated.{module_of}
use Rattle.verilog_grammar.specs.WellFormed.{AreWellFormed}
use Rattle.verilog_writer.specs.Model.{prelude_text, module_text}
use Rattle.written_modules.specs.Laws.{modules_text}
use Rattle.generated_modules.specs.Laws.{ModulesAreWellFormed}
use Rattle.generated_modules.specs.Cells.{IsNumberedCell}
use Rattle.selftest_runs.specs.KeptTexts.{keeps_text}
use Rattle.selftest_runs.proofs.KeptTextLemmas.{told}
use Rattle.selftest_runs.proofs.NamesAlone.{one_cell}

text_told : (kept : OutSlot) (text prelude more : List ℕ)
    → keeps_text kept text ≡ wrote (wrote (keeps_text VerilogText []) VerilogText prelude) VerilogText more
    → text ≡ prelude ++ more
unfolding keeps_text wrote
text_told kept text prelude more e = told text (prelude ++ more) _ (ap (λ (s : DeskState). s.written VerilogText) e)

-- a desk to which the first line was written is bound
pub prelude_bound : (empty first : DeskState) → empty ≡ keeps_text VerilogText [] → first ≡ wrote empty VerilogText prelude_text
    → IsTrue (is_bound first (Output VerilogText))
unfolding keeps_text wrote
prelude_bound empty first d e =
    subst (λ (s : DeskState). IsTrue (is_bound s (Output VerilogText)))
    (sym (e ∙ ap (λ (s : DeskState). wrote s VerilogText prelude_text) d)) refl

-- what a desk keeps that the first line and the module were written to
pub module_written : (kept : OutSlot) (text : List ℕ) (m : VModule) (empty first : DeskState)
    → empty ≡ keeps_text VerilogText [] → first ≡ wrote empty VerilogText prelude_text
    → keeps_text kept text ≡ wrote first VerilogText (module_text m)
    → text ≡ modules_text (m ∷ [])
unfolding modules_text
module_written kept text m empty first d e f =
    text_told kept text prelude_text (module_text m)
    (f ∙ ap (λ (s : DeskState). wrote s VerilogText (module_text m))
    (e ∙ ap (λ (s : DeskState). wrote s VerilogText prelude_text) d))
    ∙ ap (λ (more : List ℕ). prelude_text ++ more) (sym (append-nil (module_text m)))

-- the module of a cell stands alone in a text
pub generated_module : (cell : CellData) → ModulesAreWellFormed → IsNumberedCell cell → (m : VModule) → m ≡ module_of cell
    → AreWellFormed (m ∷ [])
generated_module cell law h m e = subst (λ (n : VModule). AreWellFormed (n ∷ [])) (sym e) (law (cell ∷ []) (one_cell cell h))
