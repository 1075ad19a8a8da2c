-- How the tokens of a Verilog text come from those of its pieces.
use Rattle.std.proofs.Common.{◌≡◌, ℕ, Bool, true, ◌||◌, List, [], ◌∷◌}
use Rattle.std.specs.Str.{bytes_eq}
use Rattle.lexer.proofs.Padding.{Found}
use Rattle.verilog_tokens.specs.Tokens.{is_blank, is_mark, lexis, scan}
use Rattle.verilog_tokens.specs.Separators.{spelled}
use Rattle.driver_sections.specs.Marks.{Vocabulary, vocabulary}
use Rattle.section_outlines.specs.Marked.{marked}
use Rattle.section_outlines.specs.VerilogMarks.{verilog_marks}
use Rattle.grammar_reader.proofs.Fronts.{Front}
use Rattle.grammar_reader.proofs.Spelling.{SpellsBy}

-- the tokens of Verilog, and which stand for a word
abbrev pub verilog : Vocabulary
verilog = vocabulary lexis bytes_eq

-- the tokens of bytes, in a table or outside
abbrev pub found : Bool → List ℕ → Found
found t text = spelled (scan t 0 0 text)

-- Before bytes that pass a test the text is these tokens, and no section begins or ends in it. The flags say whether a table is
-- open before and after it.
abbrev pub Spells : (List ℕ → Type 0) → Bool → List ℕ → Front → Bool → Type 0
Spells = SpellsBy lexis (marked verilog verilog_marks)

-- a blank or a mark follows, or nothing
abbrev pub Ends : List ℕ → Type 0
Ends [] = Unit {0}
Ends (c ∷ r) = (is_blank c || is_mark c) ≡ true
