-- The tokens of written tables.
use Rattle.std.proofs.Common.{◌≡◌, ℕ, suc, ◌≤◌, false, nat_eq, List, [], ◌∷◌, ◌++◌, length, refl, arith, subst, sym, codes}
use Rattle.std.proofs.lemmas.Bool.Decides.{nat_tests}
use Rattle.trit_cubes.specs.declared.trits.Trit.{Trit}
use Rattle.trit_cubes.specs.declared.trits.Trit.TheVariants as trit
use Rattle.vital_models.specs.declared.table.Trits.{Trits}
use Rattle.vital_models.specs.declared.table.Trits.TheVariants as trits
use Rattle.vital_models.specs.declared.table.TruthRow.{TruthRow}
use Rattle.vital_models.specs.declared.table.VSymbol.{VSymbol}
use Rattle.vital_models.specs.declared.table.VSymbol.TheVariants as symbol
use Rattle.vital_models.specs.declared.table.VNext.{VNext}
use Rattle.vital_models.specs.declared.table.VNext.TheVariants as next
use Rattle.vital_models.specs.declared.table.VStateRow.{VStateRow}
use Rattle.vhdl_writer.specs.Joined.{numbered_texts}
use Rattle.vhdl_writer.specs.Tables.{level_text, symbol_text, next_text, value_text, row_start, symbol_apart_text}
use Rattle.vhdl_writer.specs.Tables.{level_apart_text, state_row_text, truth_row_text}
use Rattle.grammar_reader.proofs.Fronts.{Front, Anything, each}
use Rattle.grammar_reader.proofs.Spelling.{literal, behind}
use Rattle.written_entities.proofs.Spelling.{Spells, numbered_spelled}
use Rattle.written_entities.proofs.Elements.{is_several}

-- Symbols.

pub opened : Spells Anything false (codes "(") (λ s. codes "(" ∷ s) false
opened = literal (λ r. refl) refl

pub closed : Spells Anything false (codes ")") (λ s. codes ")" ∷ s) false
closed = literal (λ r. refl) refl

comma : Spells Anything false (codes ", ") (λ s. codes "," ∷ s) false
comma = literal (λ r. refl) refl

a_level : (l : Trits) → Spells Anything false (level_text l) (λ s. level_text l ∷ s) false
a_level trits.Zero = literal (λ r. refl) refl
a_level trits.One = literal (λ r. refl) refl
a_level trits.Unknown = literal (λ r. refl) refl
a_level trits.Any = literal (λ r. refl) refl
a_level trits.Binary = literal (λ r. refl) refl

a_symbol : (y : VSymbol) → Spells Anything false (symbol_text y) (λ s. symbol_text y ∷ s) false
a_symbol (symbol.Level l) = a_level l
a_symbol symbol.Steady = literal (λ r. refl) refl
a_symbol symbol.Rise = literal (λ r. refl) refl
a_symbol symbol.Fall = literal (λ r. refl) refl
a_symbol symbol.To1 = literal (λ r. refl) refl
a_symbol symbol.To0 = literal (λ r. refl) refl
a_symbol symbol.From0 = literal (λ r. refl) refl
a_symbol symbol.From1 = literal (λ r. refl) refl
a_symbol symbol.Change = literal (λ r. refl) refl

-- the symbol of what a row gives
abbrev pub next_symbol_of : VNext → VSymbol
next_symbol_of next.Zero = symbol.Level trits.Zero
next_symbol_of next.One = symbol.Level trits.One
next_symbol_of next.Unknown = symbol.Level trits.Unknown
next_symbol_of next.Keep = symbol.Steady

pub as_symbol : (n : VNext) → next_text n ≡ symbol_text (next_symbol_of n)
as_symbol next.Zero = refl
as_symbol next.One = refl
as_symbol next.Unknown = refl
as_symbol next.Keep = refl

-- the level that a value has
abbrev pub value_level : Trit → Trits
value_level trit.Zero = trits.Zero
value_level trit.One = trits.One
value_level trit.Unknown = trits.Unknown

pub as_level : (v : Trit) → value_text v ≡ level_text (value_level v)
as_level trit.Zero = refl
as_level trit.One = refl
as_level trit.Unknown = refl

-- text that is written as another one is
written_as : (x y : List ℕ) → x ≡ y → Spells Anything false y (λ s. y ∷ s) false → Spells Anything false x (λ s. x ∷ s) false
written_as x y e h = subst (λ (z : List ℕ). Spells Anything false z (λ s. z ∷ s) false) (sym e) h

a_next : (n : VNext) → Spells Anything false (next_text n) (λ s. next_text n ∷ s) false
a_next n = written_as (next_text n) (symbol_text (next_symbol_of n)) (as_symbol n) (a_symbol (next_symbol_of n))

a_value : (v : Trit) → Spells Anything false (value_text v) (λ s. value_text v ∷ s) false
a_value v = written_as (value_text v) (level_text (value_level v)) (as_level v) (a_level (value_level v))

-- a symbol before a comma
abbrev pub level_front : Trits → Front
level_front l s = level_text l ∷ codes "," ∷ s

abbrev pub symbol_front : VSymbol → Front
symbol_front y s = symbol_text y ∷ codes "," ∷ s

level_apart : (n : ℕ) (l : Trits) → 1 ≤ n → Spells Anything false (level_apart_text n l) (level_front l) false
unfolding level_apart_text
level_apart n l m = behind (a_level l) comma

symbol_apart : (n : ℕ) (y : VSymbol) → 1 ≤ n → Spells Anything false (symbol_apart_text n y) (symbol_front y) false
unfolding symbol_apart_text
symbol_apart n y m = behind (a_symbol y) comma

-- Rows.

-- a row behind its parenthesis
abbrev pub truth_row_front : TruthRow → Front
truth_row_front row s = each level_front row.inputs (value_text row.result ∷ codes ")" ∷ s)

abbrev pub state_row_front : VStateRow → Front
state_row_front row s = each symbol_front row.inputs (level_text row.state ∷ codes "," ∷ next_text row.result ∷ codes ")" ∷ s)

truth_row_more : (row : TruthRow)
    → Spells Anything false (numbered_texts level_apart_text 1 row.inputs ++ (value_text row.result ++ codes ")"))
    (truth_row_front row) false
truth_row_more row = behind (numbered_spelled level_apart_text level_front 1 level_apart 1 row.inputs (omega arith))
    (behind (a_value row.result) closed)

state_row_more : (row : VStateRow) → Spells Anything false
    (numbered_texts symbol_apart_text 1 row.inputs
    ++ (level_text row.state ++ (codes ", " ++ (next_text row.result ++ codes ")")))) (state_row_front row) false
state_row_more row =
    behind (numbered_spelled symbol_apart_text symbol_front 1 symbol_apart 1 row.inputs (omega arith))
    (behind (a_level row.state) (behind comma (behind (a_next row.result) closed)))

-- what stands before the only row, before the first of several, and before the others
only_start : Spells Anything false (codes "\n    0 => (") (λ s. codes "0" ∷ codes "=>" ∷ codes "(" ∷ s) false
only_start = literal (λ r. refl) refl

first_start : Spells Anything false (codes "\n    (") (λ s. codes "(" ∷ s) false
first_start = literal (λ r. refl) refl

later_start : Spells Anything false (codes ",\n    (") (λ s. codes "," ∷ codes "(" ∷ s) false
later_start = literal (λ r. refl) refl

-- the front of rows: the index before the only one, and commas between several
abbrev pub rows_front : {R : Type 0} → (R → Front) → List R → Front
rows_front f [] s = s
rows_front f (row ∷ []) s = codes "0" ∷ codes "=>" ∷ codes "(" ∷ f row s
rows_front f (row ∷ more ∷ rows) s = codes "(" ∷ f row (each (λ r q. codes "," ∷ codes "(" ∷ f r q) (more ∷ rows) s)

is_later : (n : ℕ) → 2 ≤ n → nat_eq n 1 ≡ false
is_later n h = grind (arith, nat_tests)

-- the row with this number behind the first of several
later_row : {R : Type 0} (more : R → List ℕ) (f : R → Front) → ((row : R) → Spells Anything false (more row) (f row) false)
    → (count : ℕ) (n : ℕ) (row : R) → 2 ≤ n
    → Spells Anything false (row_start (suc (suc count)) n ++ more row) (λ s. codes "," ∷ codes "(" ∷ f row s) false
later_row more f h count n row m = rw (is_several count, is_later n m) (behind later_start (h row))

-- rows that are written by their start and the rest
rows_spelled : {R : Type 0} (text : ℕ → ℕ → R → List ℕ) (more : R → List ℕ) (f : R → Front)
    → ((count n : ℕ) (row : R) → text count n row ≡ row_start count n ++ more row)
    → ((row : R) → Spells Anything false (more row) (f row) false)
    → (rows : List R) → Spells Anything false (numbered_texts (text (length rows)) 1 rows) (rows_front f rows) false
rows_spelled text more f e h [] = literal (λ r. refl) refl
rows_spelled text more f e h (row ∷ []) = rw (e 1 1 row) (behind (behind only_start (h row)) (literal (λ r. refl) refl))
rows_spelled text more f e h (row ∷ one ∷ rows) =
    let count : ℕ = length rows in
    let step : (n : ℕ) (x : _) → 2 ≤ n
    → Spells Anything false (text (suc (suc count)) n x) (λ s. codes "," ∷ codes "(" ∷ f x s) false =
    (λ n x m. subst (λ (y : List ℕ). Spells Anything false y (λ s. codes "," ∷ codes "(" ∷ f x s) false)
    (sym (e (suc (suc count)) n x)) (later_row more f h count n x m)) in
    rw (e (suc (suc count)) 1 row, is_several (length rows))
    (behind (behind first_start (h row))
    (numbered_spelled (text (suc (suc count))) (λ x s. codes "," ∷ codes "(" ∷ f x s) 2 step 2 (one ∷ rows) (omega arith)))

truth_row_is : (count n : ℕ) (row : TruthRow)
    → truth_row_text count n row ≡ row_start count n
    ++ (numbered_texts level_apart_text 1 row.inputs ++ (value_text row.result ++ codes ")"))
unfolding truth_row_text
truth_row_is count n row = refl

state_row_is : (count n : ℕ) (row : VStateRow) → state_row_text count n row
    ≡ row_start count n ++ (numbered_texts symbol_apart_text 1 row.inputs
    ++ (level_text row.state ++ (codes ", " ++ (next_text row.result ++ codes ")"))))
unfolding state_row_text
state_row_is count n row = refl

-- the tokens of the rows of a truth table
pub truth_rows : (rows : List TruthRow)
    → Spells Anything false (numbered_texts (truth_row_text (length rows)) 1 rows) (rows_front truth_row_front rows) false
truth_rows rows =
    rows_spelled truth_row_text (λ (row : TruthRow). numbered_texts level_apart_text 1 row.inputs
    ++ (value_text row.result ++ codes ")")) truth_row_front
    truth_row_is truth_row_more rows

-- the tokens of the rows of a state's table
pub state_rows : (rows : List VStateRow)
    → Spells Anything false (numbered_texts (state_row_text (length rows)) 1 rows) (rows_front state_row_front rows) false
state_rows rows =
    rows_spelled state_row_text
    (λ (row : VStateRow). numbered_texts symbol_apart_text 1 row.inputs
    ++ (level_text row.state ++ (codes ", " ++ (next_text row.result ++ codes ")")))) state_row_front
    state_row_is state_row_more rows
