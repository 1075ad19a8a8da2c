use Rattle.std.proofs.Common.{◌≡◌, ◌+◌, ℕ, refl, sym, ◌∙◌, ap, suc, subst, List, [], ◌∷◌, ◌++◌, length, Bool, true, false, ◌&&◌}
use Rattle.std.proofs.Common.{◌==◌, if◌then◌else◌}
use Rattle.std.specs.Prelude.{Result, Ok, Err, Option, Some, None, All, ok_or}
use Rattle.std.proofs.lemmas.List.{length-map}
use Rattle.std.proofs.lemmas.List.Elements.{All-cons, All-nil, All-append}
use Rattle.std.proofs.lemmas.Bool.{and_parts, eqb-true}
use Rattle.statetables.specs.declared.fault.TableFault.{TableFault}
use Rattle.statetables.specs.declared.fault.TableFault.TheVariants as fault
use Rattle.statetables.specs.declared.table.TableRow.{TableRow}
use Rattle.statetables.specs.declared.table.StateTable.{StateTable}
use Rattle.statetables.specs.declared.written.Written.{Written}
use Rattle.statetables.specs.declared.written.WrittenRow.{WrittenRow}
use Rattle.statetables.specs.declared.written.Half.{Half}
use Rattle.statetables.specs.declared.written.Half.TheVariants as side
use Rattle.statetables.specs.Reading.{and_then, symbols_of, half_of, half_row, has_halves, split_rows, RowWords, row_words}
use Rattle.statetables.specs.Reading.{row_symbols, has_widths, rows_of_words, rows_of_row, read_rows}
use Rattle.statetables.specs.Step.{HasWidths, IsRectangular}
use Rattle.statetables.specs.Text.{rows_of, parts_of}
use Rattle.statetables.specs.Written.{in_symbol, current_symbol, next_symbol}
use Rattle.statetables.specs.Laws.{TablesReadAreRectangular}

-- what two steps give was given by the second, of what the first gave
both_given : {A B : Type 0} (first : Result A TableFault) (next : A → Result B TableFault) (b : B) → and_then first next ≡ Ok b
    → (a : A) × ((first ≡ Ok a) × (next a ≡ Ok b))
both_given (Ok a) next b e = (a, (refl, e))
both_given (Err f) next b e = absurd cc

-- there are as many symbols as words
length-symbols : {S : Type 0} (of_word : List ℕ → Option (Written S)) (row column : ℕ) (words : List (List ℕ))
    (symbols : List (Written S)) → symbols_of of_word row column words ≡ Ok symbols → length symbols ≡ length words
length-symbols of_word row column [] symbols e = let same : symbols ≡ [] = cc in ap length same
length-symbols {S} of_word row column (word ∷ words) symbols e =
    let (symbol, (_, then_more)) = both_given (ok_or (of_word word) (fault.BadSymbol row column)) _ symbols e in
    let (more, (rest, whole)) = both_given (symbols_of of_word row (column + 1) words) (λ more. Ok (symbol ∷ more)) symbols
    then_more in
    let same : symbols ≡ symbol ∷ more = cc in
    ap length same ∙ ap suc (length-symbols of_word row (column + 1) words more rest)

-- each half of a row has a symbol for each symbol of the row
HasWidths-half_row : (half : Half) (row : WrittenRow) (inputs nodes : ℕ) → length row.inputs ≡ inputs → length row.current ≡ nodes
    → length row.next ≡ nodes → HasWidths inputs nodes (half_row half row)
HasWidths-half_row half row inputs nodes i c n = record {
  of_inputs = length-map row.inputs (half_of half) ∙ i;
  of_current = length-map row.current (half_of half) ∙ c;
  of_next = length-map row.next (half_of half) ∙ n;
}

-- so do the rows that it stands for
All-split_rows : (row : WrittenRow) (inputs nodes : ℕ) → length row.inputs ≡ inputs → length row.current ≡ nodes
    → length row.next ≡ nodes → All (HasWidths inputs nodes) (split_rows row)
All-split_rows row inputs nodes i c n =
    let first : HasWidths inputs nodes (half_row side.First row) = HasWidths-half_row side.First row inputs nodes i c n in
    let second : HasWidths inputs nodes (half_row side.Second row) = HasWidths-half_row side.Second row inputs nodes i c n in
    let P : TableRow → Type 0 = HasWidths inputs nodes in
    elim (has_halves row) as (λ v. All P (if v then half_row side.First row ∷ half_row side.Second row ∷ []
    else half_row side.First row ∷ [])) [
      | true ↦ All-cons P (half_row side.First row) (half_row side.Second row ∷ []) first
          (All-cons P (half_row side.Second row) [] second (All-nil P))
      | false ↦ All-cons P (half_row side.First row) [] first (All-nil P)
    ]

-- the symbols of a row are as many as its words
length-row_symbols : (row : ℕ) (words : RowWords) (symbols : WrittenRow) → row_symbols row words ≡ Ok symbols
    → (length symbols.inputs ≡ length words.inputs) × (length symbols.current ≡ length words.current)
    × (length symbols.next ≡ length words.next)
length-row_symbols row words symbols e =
    let (inputs, (i, e1)) = both_given (symbols_of in_symbol row 1 words.inputs) _ symbols e in
    let (current, (c, e2)) = both_given (symbols_of current_symbol row (1 + length words.inputs) words.current) _ symbols e1 in
    let (next, (n, e3)) = both_given (symbols_of next_symbol row (1 + length words.inputs + length words.current) words.next) _
    symbols e2 in
    let whole : WrittenRow = record { inputs = inputs; current = current; next = next } in
    let same : symbols ≡ whole = cc in (
      ap (λ s. length s.inputs) same ∙ length-symbols in_symbol row 1 words.inputs inputs i,
      ap (λ s. length s.current) same ∙ length-symbols current_symbol row (1 + length words.inputs) words.current current c,
      ap (λ s. length s.next) same ∙ length-symbols next_symbol row (1 + length words.inputs + length words.current) words.next
          next n,
    )

-- the rows of words have, where their widths are judged to be right
All-judged : (row inputs nodes : ℕ) (words : RowWords) (rows : List TableRow) (v : Bool) → has_widths words inputs nodes ≡ v
    → (if v then and_then (row_symbols row words) (λ symbols. Ok (split_rows symbols)) else Err (fault.RowWidth row)) ≡ Ok rows
    → All (HasWidths inputs nodes) rows
All-judged row inputs nodes words rows false w e = absurd cc
All-judged row inputs nodes words rows true w e =
    let P : TableRow → Type 0 = HasWidths inputs nodes in
    let (symbols, (s, e1)) = both_given (row_symbols row words) (λ symbols. Ok (split_rows symbols)) rows e in
    let same : rows ≡ split_rows symbols = cc in
    let lengths = length-row_symbols row words symbols s in
    let (front, third) = and_parts (length words.inputs == inputs && length words.current == nodes) (length words.next == nodes) w
    in
    let (first, second) = and_parts (length words.inputs == inputs) (length words.current == nodes) front in
    subst (All P) (sym same) (All-split_rows symbols inputs nodes
    (lengths.0 ∙ eqb-true (length words.inputs) inputs first)
    (lengths.1 ∙ eqb-true (length words.current) nodes second)
    (lengths.2 ∙ eqb-true (length words.next) nodes third))

-- the rows of words that read have a symbol for each input and each node
All-rows_of_words : (row inputs nodes : ℕ) (words : Option RowWords) (rows : List TableRow)
    → rows_of_words row inputs nodes words ≡ Ok rows → All (HasWidths inputs nodes) rows
All-rows_of_words row inputs nodes None rows e = absurd cc
All-rows_of_words row inputs nodes (Some words) rows e =
    All-judged row inputs nodes words rows (has_widths words inputs nodes) refl e

-- the rows that written rows stand for do
pub All-read_rows : (row inputs nodes : ℕ) (texts : List (List ℕ)) (rows : List TableRow)
    → read_rows row inputs nodes texts ≡ Ok rows → All (HasWidths inputs nodes) rows
All-read_rows row inputs nodes [] rows e =
    let P : TableRow → Type 0 = HasWidths inputs nodes in
    let same : rows ≡ [] = cc in
    subst (All P) (sym same) (All-nil P)
All-read_rows row inputs nodes (text ∷ texts) rows e =
    let P : TableRow → Type 0 = HasWidths inputs nodes in
    let (here, (h, e1)) = both_given (rows_of_row row inputs nodes text) _ rows e in
    let (more, (m, e2)) = both_given (read_rows (row + 1) inputs nodes texts) (λ more. Ok (here ++ more)) rows e1 in
    let same : rows ≡ here ++ more = cc in
    subst (All P) (sym same) (All-append P here more (All-rows_of_words row inputs nodes (row_words (parts_of text)) here h)
    (All-read_rows (row + 1) inputs nodes texts more m))

pub tables_read : TablesReadAreRectangular
tables_read text inputs nodes table e =
    let (rows, (r, e1)) = both_given (read_rows 1 inputs nodes (rows_of text)) _ table e in
    let whole : StateTable = record { inputs = inputs; nodes = nodes; rows = rows } in
    let same : table ≡ whole = cc in
    let P : StateTable → Type 0 = λ t. (t.inputs ≡ inputs) × (t.nodes ≡ nodes) × IsRectangular t in
    subst P (sym same) (refl, refl, All-read_rows 1 inputs nodes (rows_of text) rows r)
