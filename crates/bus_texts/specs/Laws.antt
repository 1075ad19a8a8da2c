-- Laws of texts over names of several bits.
use Rattle.std.specs.Prelude.{◌≡◌, ℕ, Bool, true, false, ◌&&◌, List, [], ◌∷◌, length, map, flat_map, unwrap_or, Contains}
use Rattle.std.specs.Prelude.{if◌then◌else◌}
use Rattle.std.specs.List.{list_any}
use Rattle.bool_functions.specs.declared.symbol.Symbol.{Symbol}
use Rattle.bool_functions.specs.declared.symbol.Symbol.TheVariants as symbol
use Rattle.bool_functions.specs.declared.tree.Node.{Node}
use Rattle.bool_functions.specs.Grammar.{IsText}
use Rattle.bool_functions.specs.NameList.{number_of}
use Rattle.bool_functions.specs.Token.{symbol_of, symbols}
use Rattle.bool_functions.specs.Tree.{renamed_by}
use Rattle.bool_functions.specs.Laws.{renamed_symbol, ends_in_word}
use Rattle.bus_texts.specs.declared.vectors.Vector.{Vector}
use Rattle.bus_texts.specs.Parts.{Part, parts_of}
use Rattle.bus_texts.specs.Texts.{Replacement, Stays, Becomes, Missing, replacement_for, rewritten, is_vector}

-- A number that a name follows at once: both are one token of a text, with which no function text goes on.
abbrev pub runs_into_name : Part → Bool
runs_into_name part = part.followed && ends_in_word part.written

abbrev pub runs_together : List ℕ → Bool
runs_together text = list_any runs_into_name (parts_of text)

-- The symbols of a part where its name is replaced: that of the member, or those of the part as it is written.
abbrev pub part_symbols : List (List ℕ) → Part → Replacement → List Symbol
part_symbols names part Stays = symbols names part.written
part_symbols names part (Becomes member) = symbol_of names member ∷ []
part_symbols names part Missing = symbols names part.written

abbrev pub replaced_symbols : List (List ℕ) → List Vector → ℕ → Part → List Symbol
replaced_symbols names vectors at part = part_symbols names part (replacement_for vectors at part)

-- The symbols of a rewritten text are those of the text with its names replaced.
abbrev pub RewrittenSymbols : Type 0
RewrittenSymbols =
    (names : List (List ℕ)) (vectors : List Vector) (at : ℕ) (text : List ℕ) → runs_together text ≡ false
    → symbols names (rewritten vectors at text) ≡ flat_map (replaced_symbols names vectors at) (parts_of text)

-- The symbols of a text before its names are replaced: each name of several bits, with the bit that is written behind it, has a
-- number of its own.
abbrev pub written_symbols : List (List ℕ) → List Vector → Part → List Symbol
written_symbols names vectors part =
    if is_vector vectors part then symbol.Name (unwrap_or (number_of names part.written) (length names)) ∷ []
    else symbols names part.written

abbrev pub symbols_over : List (List ℕ) → List Vector → List ℕ → List Symbol
symbols_over names vectors text = flat_map (written_symbols names vectors) (parts_of text)

-- The list gives for the number of each name in a text that of the name which it becomes.
abbrev pub Replaces : List ℕ → List (List ℕ) → List (List ℕ) → List Vector → ℕ → List ℕ → Type 0
Replaces to names others vectors at text =
    (part : Part) → Contains (parts_of text) part
    → map (renamed_symbol to) (written_symbols names vectors part) ≡ replaced_symbols others vectors at part

-- The tree of a rewritten text is that of the text, with its names replaced.
abbrev pub RewrittenTree : Type 0
RewrittenTree =
    (to : List ℕ) (names others : List (List ℕ)) (vectors : List Vector) (at : ℕ) (text : List ℕ) (f : Node)
    → runs_together text ≡ false → Replaces to names others vectors at text → IsText (symbols_over names vectors text) f
    → IsText (symbols others (rewritten vectors at text)) (renamed_by to f)

-- A text in which a number runs into a name, as `1A`, is no function text, whatever its names become.
abbrev pub RunningTexts : Type 0
RunningTexts =
    (names : List (List ℕ)) (vectors : List Vector) (at : ℕ) (text : List ℕ) (f : Node)
    → runs_together text ≡ true → IsText (symbols names (rewritten vectors at text)) f → ⊥
