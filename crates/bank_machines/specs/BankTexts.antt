-- The texts of a cell with buses, bundles and banks as they stand, read at a position (Liberty Reference Manual, `bus`, `bundle`,
-- `ff_bank` and `latch_bank` groups; `function` and the other function texts). No text is rewritten here: each name of a text has
-- the value of a name of the expanded cell. (How the bits of buses and banks are spelled is this project's rule.)
use Rattle.std.specs.Prelude.{ℕ, ◌+◌, Bool, false, not, ◌==◌, List, [], ◌∷◌, ◌++◌, length, map, filter, slice_get, slice_index}
use Rattle.std.specs.Prelude.{slice_index_or, unwrap_or}
use Rattle.std.specs.Prelude.{Option, Some, None, Result, Ok, Err, if◌then◌else◌}
use Rattle.liberty_groups.specs.Attributes.{Attribute}
use Rattle.bool_functions.specs.declared.symbol.Symbol.{Symbol}
use Rattle.bool_functions.specs.declared.symbol.Symbol.TheVariants as symbol
use Rattle.bool_functions.specs.declared.tree.Node.{Node}
use Rattle.bool_functions.specs.declared.tree.Node.TheVariants as tree
use Rattle.bool_functions.specs.NameList.{number_of}
use Rattle.bool_functions.specs.Token.{symbols}
use Rattle.bool_functions.specs.Machine.{run, start}
use Rattle.bool_functions.specs.Tree.{value_by, renamed_by}
use Rattle.bus_texts.specs.declared.vectors.Vector.{Vector}
use Rattle.bus_texts.specs.Vectors.{member_name, vector_named}
use Rattle.bus_texts.specs.Parts.{Part, parts_of}
use Rattle.bus_texts.specs.Texts.{is_vector}
use Rattle.bus_texts.specs.Laws.{runs_into_name}

-- The names that texts of the cell may have: those of several bits, and those of the expanded cell with their numbers, by which
-- functions know them.
pub record CellNames : Type 0 where
  pub vectors : List Vector
  pub names : List (List ℕ)
  pub numbers : List ℕ

-- the number of a name of the expanded cell. A text with another name refuses the cell, so its number does not matter.
abbrev pub number_in_cell : CellNames → List ℕ → ℕ
number_in_cell cell name = slice_index cell.numbers (unwrap_or (number_of cell.names name) (length cell.names))

-- The name of the expanded cell whose value a written name has at a position. A bus, bundle or variable of a bank with a bit
-- behind it, `NAME[bit]`, has that of `NAME_<bit>`; without one a bus or bundle has that of its member at the position, and a
-- variable of a bank, whose members are its bits, that of the position.
abbrev pub bit_name : Vector → ℕ → Option ℕ → List ℕ
bit_name vector at (Some bit) = member_name vector.name bit
bit_name vector at None = unwrap_or (slice_get vector.members at) []

-- Any other name has its own value.
abbrev pub name_as : Part → ℕ → Option Vector → List ℕ
name_as part at None = part.name
name_as part at (Some vector) = bit_name vector at part.bit

abbrev pub name_at : List Vector → ℕ → Part → List ℕ
name_at vectors at part = name_as part at (vector_named vectors part.name)

-- The names in a text as it stands, one behind another, each with the bit that is written behind it.
abbrev pub is_name_part : Part → Bool
is_name_part part = not (length part.name == 0)

abbrev pub names_written : List ℕ → List Part
names_written text = filter is_name_part (parts_of text)

-- A name is one symbol, with its place among them for its number; so it is with a bit behind it, where it is one of several bits.
-- Brackets behind any other name are nothing of a function text.
abbrev pub symbol_at : ℕ → Bool → Option ℕ → Symbol
symbol_at place is_many None = symbol.Name place
symbol_at place is_many (Some bit) = if is_many then symbol.Name place else symbol.Stray

-- What is no name is what it is in every function text. A number that a name follows at once, as in `1A`, is one token with it,
-- with which no function text goes on.
abbrev pub other_symbols : Part → List Symbol
other_symbols part = if runs_into_name part then symbol.Stray ∷ [] else symbols [] part.written

-- The symbols of the parts of a text, where the first name has this place.
abbrev pub symbols_from : List Vector → ℕ → List Part → List Symbol
symbols_from vectors place [] = []
symbols_from vectors place (part ∷ parts) =
    if is_name_part part then symbol_at place (is_vector vectors part) part.bit ∷ symbols_from vectors (place + 1) parts
    else other_symbols part ++ symbols_from vectors place parts

-- A text without a tree refuses the cell, so what stands here in its place does not matter.
abbrev pub tree_or : Result Node (List Symbol) → Node
tree_or (Ok f) = f
tree_or (Err others) = tree.Name 0

-- The tree of a text as it stands, over the names that are written in it.
abbrev pub text_tree : List Vector → List ℕ → Node
text_tree vectors text = tree_or (run start (symbols_from vectors 0 (parts_of text)))

-- For each of these names the number of the name of the expanded cell whose value it has at a position.
abbrev pub number_at : CellNames → ℕ → Part → ℕ
number_at cell at part = number_in_cell cell (name_at cell.vectors at part)

abbrev pub numbers_at : CellNames → ℕ → List ℕ → List ℕ
numbers_at cell at text = map (number_at cell at) (names_written text)

-- The function of a text at a position, over the names of the expanded cell. Where these have some values, it has the value of
-- the text's tree where each written name has the value that it has at the position.
abbrev pub function_at : CellNames → ℕ → List ℕ → Node
function_at cell at text = renamed_by (numbers_at cell at text) (text_tree cell.vectors text)

abbrev pub value_at : CellNames → ℕ → List ℕ → List Bool → Bool
value_at cell at text values =
    value_by (λ i. slice_index_or values (slice_index (numbers_at cell at text) i) false) (text_tree cell.vectors text)

-- the function of an attribute's text, where the attribute is written
abbrev pub function_if : CellNames → ℕ → Option Attribute → Option Node
function_if cell at None = None
function_if cell at (Some attribute) = Some (function_at cell at attribute.text)

-- A flip-flop or an output without its text refuses the cell, so what stands here in its place does not matter.
abbrev pub function_or : CellNames → ℕ → Option Attribute → Node
function_or cell at attribute = unwrap_or (function_if cell at attribute) (tree.Name 0)
