use Rattle.std.specs.Prelude.{◌≡◌, ℕ, ◌+◌, Bool, ◌&&◌, ◌||◌, ◌==◌, true, false, List, [], ◌∷◌, ◌++◌, length, map, Option, Some}
use Rattle.std.specs.Prelude.{None, Result, Ok, Err, ok_or, if◌then◌else◌}
use Rattle.std.specs.List.{list_any}
use Rattle.statetables.specs.declared.fault.TableFault.{TableFault}
use Rattle.statetables.specs.declared.fault.TableFault.TheVariants as fault
use Rattle.statetables.specs.declared.written.Written.{Written}
use Rattle.statetables.specs.declared.written.Written.TheVariants as written
use Rattle.statetables.specs.declared.written.Half.{Half}
use Rattle.statetables.specs.declared.written.Half.TheVariants as side
use Rattle.statetables.specs.declared.written.WrittenRow.{WrittenRow}
use Rattle.statetables.specs.declared.table.TableRow.{TableRow}
use Rattle.statetables.specs.declared.table.StateTable.{StateTable}
use Rattle.statetables.specs.Text.{rows_of, parts_of, words_of}
use Rattle.statetables.specs.Written.{in_symbol, current_symbol, next_symbol}

-- The next step on what was read, or the fault that was met before it.
abbrev pub and_then : {A B : Type 0} → Result A TableFault → (A → Result B TableFault) → Result B TableFault
and_then (Ok a) next = next a
and_then (Err e) next = Err e

-- The symbols that the words of a part stand for, in a row of this number, where the first word stands in this column:
-- the fault is that of the first word that stands for none.
abbrev pub symbols_of : {S : Type 0} → (List ℕ → Option (Written S)) → ℕ → ℕ → List (List ℕ)
    → Result (List (Written S)) TableFault
symbols_of of_word row column [] = Ok []
symbols_of of_word row column (word ∷ words) =
    and_then (ok_or (of_word word) (fault.BadSymbol row column)) (λ symbol.
    and_then (symbols_of of_word row (column + 1) words) (λ symbols. Ok (symbol ∷ symbols)))

-- Whether a symbol is halved.
abbrev pub is_halved : {S : Type 0} → Written S → Bool
is_halved (written.Whole symbol) = false
is_halved (written.Halves first second) = true

-- The symbol that stands in the first or in the second of the rows that a row with a halved symbol stands for.
abbrev pub half_of : {S : Type 0} → Half → Written S → S
half_of half (written.Whole symbol) = symbol
half_of side.First (written.Halves first second) = first
half_of side.Second (written.Halves first second) = second

-- Whether a symbol of the row is halved.
abbrev pub has_halves : WrittenRow → Bool
has_halves row = list_any is_halved row.inputs || list_any is_halved row.current || list_any is_halved row.next

-- The row of all first halves, or of all second ones.
abbrev pub half_row : Half → WrittenRow → TableRow
half_row half row = record {
  inputs = map (half_of half) row.inputs;
  current = map (half_of half) row.current;
  next =
      map (half_of half) row.next;
}

-- The rows that a written row stands for: two where a symbol is halved, the first with each first half and the second
-- with each second half, else one. (This project's rule.)
abbrev pub split_rows : WrittenRow → List TableRow
split_rows row = if has_halves row then half_row side.First row ∷ half_row side.Second row ∷ [] else half_row side.First row ∷ []

-- The words of a row: those of its three parts.
pub record RowWords : Type 0 where
  pub inputs : List (List ℕ)
  pub current : List (List ℕ)
  pub next : List (List ℕ)

-- The words of a row with these parts: none where there are not three.
abbrev pub row_words : List (List ℕ) → Option RowWords
row_words (inputs ∷ current ∷ next ∷ []) =
    Some (record { inputs = words_of inputs; current = words_of current; next = words_of next })
row_words parts = None

-- Whether a row has a word for each of so many inputs and, in both other parts, for each of so many nodes.
abbrev pub has_widths : RowWords → ℕ → ℕ → Bool
has_widths words inputs nodes = length words.inputs == inputs && length words.current == nodes && length words.next == nodes

-- The symbols that the words of a row of this number stand for. The columns are counted from 1 over the three parts.
abbrev pub row_symbols : ℕ → RowWords → Result WrittenRow TableFault
row_symbols row words =
    and_then (symbols_of in_symbol row 1 words.inputs) (λ inputs.
    and_then (symbols_of current_symbol row (1 + length words.inputs) words.current) (λ current.
    and_then (symbols_of next_symbol row (1 + length words.inputs + length words.current) words.next) (λ next.
    Ok (record { inputs = inputs; current = current; next = next }))))

-- The rows that a row of this number with these words stands for. Its width is judged before its symbols.
abbrev pub rows_of_words : ℕ → ℕ → ℕ → Option RowWords → Result (List TableRow) TableFault
rows_of_words row inputs nodes None = Err (fault.RowWidth row)
rows_of_words row inputs nodes (Some words) =
    if has_widths words inputs nodes
    then and_then (row_symbols row words) (λ symbols. Ok (split_rows symbols))
    else Err (fault.RowWidth row)

-- The rows that the text of a row of this number stands for.
abbrev pub rows_of_row : ℕ → ℕ → ℕ → List ℕ → Result (List TableRow) TableFault
rows_of_row row inputs nodes text = rows_of_words row inputs nodes (row_words (parts_of text))

-- The rows that written rows stand for, where the first has this number. The first row with a fault decides.
abbrev pub read_rows : ℕ → ℕ → ℕ → List (List ℕ) → Result (List TableRow) TableFault
read_rows row inputs nodes [] = Ok []
read_rows row inputs nodes (text ∷ texts) =
    and_then (rows_of_row row inputs nodes text) (λ rows.
    and_then (read_rows (row + 1) inputs nodes texts) (λ more. Ok (rows ++ more)))

-- The table that a text stands for, over so many inputs and nodes, or its fault.
-- (Liberty Reference Manual, "statetable" group and its "table" attribute.)
abbrev pub table_of : List ℕ → ℕ → ℕ → Result StateTable TableFault
table_of text inputs nodes =
    and_then (read_rows 1 inputs nodes (rows_of text)) (λ rows. Ok (record { inputs = inputs; nodes = nodes; rows = rows }))

-- The answer of a call is this one, unless memory was not found.
abbrev pub Gives : {A : Type 0} → Result A TableFault → Result A TableFault → Type 0
Gives (Ok a) answer = answer ≡ Ok a
Gives (Err (fault.RowWidth row)) answer = answer ≡ Err (fault.RowWidth row)
Gives (Err (fault.BadSymbol row column)) answer = answer ≡ Err (fault.BadSymbol row column)
Gives (Err fault.Memory) answer = Unit {0}
