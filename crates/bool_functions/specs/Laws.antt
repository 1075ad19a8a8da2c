-- Laws of the definitions.
use Rattle.std.specs.Prelude.{◌≡◌, ℕ, ◌<◌, ◌≤◌, ◌↔◌, Bool, false, true, ◌&&◌, List, [], ◌∷◌, ◌++◌, length, map, Ok, Err}
use Rattle.std.specs.Prelude.{slice_index, slice_index_or, Contains}
use Rattle.std.specs.List.{list_all}
use Rattle.bool_functions.specs.declared.symbol.Symbol.{Symbol}
use Rattle.bool_functions.specs.declared.symbol.Symbol.TheVariants as symbol
use Rattle.bool_functions.specs.declared.tree.Node.{Node}
use Rattle.bool_functions.specs.declared.faults.FunctionFault.{FunctionFault}
use Rattle.bool_functions.specs.Tree.{value_by, value_of, name_bound, Has, renamed_by}
use Rattle.bool_functions.specs.NameList.{AreDistinct}
use Rattle.bool_functions.specs.Grammar.{IsText}
use Rattle.bool_functions.specs.Token.{words, is_word_byte, begins_word, symbol_of, symbols}
use Rattle.bool_functions.specs.FunctionText.{FunctionText, HasFault, free_names, reading_of}

-- a text has one tree at most over a list of names
abbrev pub OneTree : Type 0
OneTree = (names : List (List ℕ)) (text : List ℕ) (f g : Node) → FunctionText names text f → FunctionText names text g → f ≡ g

-- reading gives a tree exactly where the text is a function text with it, and a fault exactly where the text has it
abbrev pub ReadByGrammar : Type 0
ReadByGrammar =
    (names : List (List ℕ)) (text : List ℕ) →
    ((f : Node) → (reading_of names text ≡ Ok f) ↔ FunctionText names text f)
    × ((e : FunctionFault) → (reading_of names text ≡ Err e) ↔ HasFault names text e)

-- the bound is above each written name, and at most any number that is
abbrev pub BoundIsLeast : Type 0
BoundIsLeast = (f : Node) → ((i : ℕ) → Has f i → i < name_bound f) × ((n : ℕ) → ((i : ℕ) → Has f i → i < n) → name_bound f ≤ n)

abbrev pub RenamedValues : Type 0
RenamedValues =
    (to : List ℕ) (bits : List Bool) (f : Node)
    → value_of bits (renamed_by to f) ≡ value_by (λ i. slice_index_or bits (slice_index to i) false) f

-- the names of a text by their first appearances are each there once, and are the text's names
abbrev pub OwnNames : Type 0
OwnNames = (text : List ℕ) → AreDistinct (free_names text)
    × ((w : List ℕ) → Contains (free_names text) w ↔ Contains (words text) w)

-- Entry i of the list stands for each name i.
abbrev pub renamed_symbol : List ℕ → Symbol → Symbol
renamed_symbol to (symbol.Name i) = symbol.Name (slice_index to i)
renamed_symbol to x = x

-- symbols whose names have other numbers are a function text with the renamed tree
abbrev pub RenamedTexts : Type 0
RenamedTexts = (to : List ℕ) (s : List Symbol) (f : Node) → IsText s f → IsText (map (renamed_symbol to) s) (renamed_by to f)

-- A run of letters, digits and `_` goes on from one text into another.
abbrev pub ends_in_word : List ℕ → Bool
ends_in_word [] = false
ends_in_word (b ∷ []) = is_word_byte b
ends_in_word (b ∷ c ∷ s) = ends_in_word (c ∷ s)

abbrev pub runs_on : List ℕ → List ℕ → Bool
runs_on a b = ends_in_word a && begins_word b

-- where it does not, the symbols of both texts together are those of each
abbrev pub JoinedTexts : Type 0
JoinedTexts =
    (names : List (List ℕ)) (a b : List ℕ) → runs_on a b ≡ false → symbols names (a ++ b) ≡ symbols names a ++ symbols names b

-- a text of letters, digits and `_` alone is one symbol
abbrev pub WordTexts : Type 0
WordTexts =
    (names : List (List ℕ)) (word : List ℕ) → list_all is_word_byte word ≡ true → 0 < length word
    → symbols names word ≡ symbol_of names word ∷ []
