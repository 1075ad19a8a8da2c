-- What is written reads back. (IEEE 1364-2005, A.1, source text, and A.5, primitives; the layout is this project's.)
use Rattle.std.specs.Prelude.{◌≡◌, ℕ, List, [], ◌∷◌, ◌++◌, None, codes}
use Rattle.std.specs.List.{flat_map}
use Rattle.grammar_rules.specs.Rule.{Takes}
use Rattle.udp_tables.specs.declared.table.Udp.{Udp}
use Rattle.udp_tables.specs.VerilogPrimitives.{primitive}
use Rattle.verilog_grammar.specs.specify_blocks.declared.model.VModule.{VModule}
use Rattle.verilog_tokens.specs.Tokens.{lexis}
use Rattle.grammar_reader.specs.Texts.{text_tokens, lexical_place}
use Rattle.verilog_grammar.specs.VerilogText.{IsVerilogText, verilog_text}
use Rattle.verilog_grammar.specs.WellFormed.{IsWellFormedUdp, AreWellFormed}
use Rattle.verilog_writer.specs.Primitive.{primitive_text}
use Rattle.verilog_writer.specs.Model.{prelude_text, module_text}
use Rattle.grammar_reader.specs.ReadBack.{ReadsBack}

-- The bytes are the text of this primitive alone: tokens, without a lexical fault, of which the first is `primitive` and the
-- grammar takes the others.
pub record IsPrimitiveText (bytes : List ℕ) (udp : Udp) : Type 0 where
  pub lexes : lexical_place lexis bytes ≡ None
  pub others : List (List ℕ)
  pub begins : text_tokens lexis bytes ≡ codes "primitive" ∷ others
  pub takes : Takes (primitive []) others udp []

-- The text of a primitive reads as this primitive, and as no other.
pub record PrimitiveReadBack (udp : Udp) : Type 0 where
  pub text : IsPrimitiveText (primitive_text udp) udp
  pub only : (other : Udp) → IsPrimitiveText (primitive_text udp) other → other ≡ udp

-- a primitive that is well formed reads back from what is written of it
abbrev pub WrittenPrimitivesReadBack : Type 0
WrittenPrimitivesReadBack = (udp : Udp) → IsWellFormedUdp udp → PrimitiveReadBack udp

-- the text of modules: the prelude, and each module behind its primitives
unfoldable pub modules_text : List VModule → List ℕ
modules_text ms = prelude_text ++ flat_map module_text ms

-- modules that are well formed read back from what is written of them
abbrev pub WrittenModulesReadBack : Type 0
WrittenModulesReadBack = (ms : List VModule) → AreWellFormed ms → ReadsBack verilog_text IsVerilogText (modules_text ms) ms
