use Rattle.std.specs.Prelude.{◌≡◌, ℕ, Bool, true, false, ◌&&◌, List, [], ◌∷◌, length, find, slice_get, All, Option}
use Rattle.std.specs.Option.{option_and_then, option_map_or}
use Rattle.statetables.specs.declared.symbols.InSymbol.{InSymbol}
use Rattle.statetables.specs.declared.symbols.CurrentSymbol.{CurrentSymbol}
use Rattle.statetables.specs.declared.table.TableRow.{TableRow}
use Rattle.statetables.specs.declared.table.StateTable.{StateTable}
use Rattle.statetables.specs.Symbols.{matches_in, matches_now, next_value}

-- Whether each input, with its value before a change and after it, matches its symbol. Lists that are not of one
-- length do not match.
abbrev pub inputs_match : List InSymbol → List Bool → List Bool → Bool
inputs_match [] [] [] = true
inputs_match (symbol ∷ symbols) (b ∷ before) (a ∷ after) = matches_in symbol b a && inputs_match symbols before after
inputs_match _ _ _ = false

-- Whether the present state of a node matches the symbol at the node's place. The symbols at the other places speak
-- of other nodes and are not looked at.
abbrev pub current_matches : List CurrentSymbol → ℕ → Bool → Bool
current_matches symbols node state = option_map_or (λ symbol. matches_now symbol state) (slice_get symbols node) false

-- Whether a row matches for a node: each input symbol and the symbol of the node's present state.
abbrev pub row_matches : ℕ → List Bool → List Bool → Bool → TableRow → Bool
row_matches node before after state row = inputs_match row.inputs before after && current_matches row.current node state

-- The row that counts for a node: the first one that matches.
-- (Liberty Reference Manual, "statetable" group: rows are looked at in order.)
abbrev pub row_of : List TableRow → ℕ → List Bool → List Bool → Bool → Option TableRow
row_of rows node before after state = find (row_matches node before after state) rows

-- The next state that a row gives a node with this present state: none where it is not known.
abbrev pub row_gives : ℕ → Bool → TableRow → Option Bool
row_gives node state row = option_and_then (λ symbol. next_value symbol state) (slice_get row.next node)

-- The step of a table: the next state of a node, given the inputs before and after a change and the node's present
-- state. None where it is not known: where no row matches, or the first one that matches gives X or -.
abbrev pub table_step : StateTable → ℕ → List Bool → List Bool → Bool → Option Bool
table_step table node before after state = option_and_then (row_gives node state) (row_of table.rows node before after state)

-- A row with a symbol for each of so many inputs and, in both other parts, for each of so many nodes.
pub record HasWidths (inputs nodes : ℕ) (row : TableRow) : Type 0 where
  pub of_inputs : length row.inputs ≡ inputs
  pub of_current : length row.current ≡ nodes
  pub of_next : length row.next ≡ nodes

-- A table whose rows all have a symbol for each input and each node.
abbrev pub IsRectangular : StateTable → Type 0
IsRectangular table = All (HasWidths table.inputs table.nodes) table.rows
