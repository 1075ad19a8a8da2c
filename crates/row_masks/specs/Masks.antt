-- Masks of the rows of a table: bit i of a mask is set where row i passes a test. (This project's choice.)
use Rattle.std.specs.Prelude.{◌≡◌, ◌≤◌, ℕ, ◌+◌, ◌*◌, Bool, true, false, bit_and, nat_eq, nat_le, if◌then◌else◌, List, [], ◌∷◌}
use Rattle.std.specs.Prelude.{map, length}
use Rattle.std.specs.Prelude.{Option, Some, None, slice_get}
use Rattle.std.specs.Option.{option_map_or}
use Rattle.std.specs.Int.{w64, trailing_zeros}
use Rattle.std.specs.List.{range_with_len}
use Rattle.trit_cubes.specs.declared.trits.Trit.{Trit}
use Rattle.trit_cubes.specs.declared.trits.Trit.TheVariants.{Zero, One, Unknown}
use Rattle.row_masks.specs.declared.row_tests.RowTest.{RowTest}
use Rattle.row_masks.specs.declared.row_tests.RowTest.TheVariants as test
use Rattle.row_masks.specs.declared.value_masks.ValueMasks.{ValueMasks}
use Rattle.row_masks.specs.declared.value_masks.ChangeMasks.{ChangeMasks}
use Rattle.row_masks.specs.declared.rows.RowMasks.{RowMasks}

abbrev pub bit : Bool → ℕ
bit false = 0
bit true = 1

-- the mask of the rows that pass a test
abbrev pub row_mask : {R : Type 0} → (R → Bool) → List R → ℕ
row_mask passes [] = 0
row_mask passes (row ∷ rows) = bit (passes row) + 2 * row_mask passes rows

-- the mask for a value
abbrev pub mask_at : ValueMasks → Trit → ℕ
mask_at masks Zero = masks.zero
mask_at masks One = masks.one
mask_at masks Unknown = masks.unknown

-- the mask for a column that goes from one value to another
abbrev pub masks_at : ChangeMasks → Trit → Trit → ℕ
masks_at masks Zero new = mask_at masks.from_zero new
masks_at masks One new = mask_at masks.from_one new
masks_at masks Unknown new = mask_at masks.from_unknown new

-- a mask for each value
abbrev pub value_masks : {R : Type 0} → (R → RowTest → Bool) → List R → (Trit → RowTest) → ValueMasks
value_masks passes rows test_of =
    record {
      zero = row_mask (λ row. passes row (test_of Zero)) rows;
      one = row_mask (λ row. passes row (test_of One)) rows;
      unknown = row_mask (λ row. passes row (test_of Unknown)) rows;
    }

-- the masks by the state
abbrev pub state_masks : {R : Type 0} → (R → RowTest → Bool) → List R → ValueMasks
state_masks passes rows = value_masks passes rows test.State

-- the masks by the values of a column, of which it has the first before a change
abbrev pub column_masks : {R : Type 0} → (R → RowTest → Bool) → List R → ℕ → Trit → ValueMasks
column_masks passes rows place old = value_masks passes rows (test.Column place old)

abbrev pub change_masks : {R : Type 0} → (R → RowTest → Bool) → List R → ℕ → ChangeMasks
change_masks passes rows place =
    record {
      from_zero = column_masks passes rows place Zero;
      from_one = column_masks passes rows place One;
      from_unknown = column_masks passes rows place Unknown;
    }

-- the masks of rows of so many columns
abbrev pub row_masks : {R : Type 0} → (R → RowTest → Bool) → ℕ → List R → RowMasks
row_masks passes columns rows =
    record {
      columns = map (change_masks passes rows) (range_with_len 0 columns);
      states = state_masks passes rows;
      first = row_mask (λ row. passes row test.First) rows;
      all = row_mask (λ row. passes row test.Nothing) rows;
    }

-- the masks of the rows of a table of so many columns, none where there are more rows than a word has bits
abbrev pub table_masks : {R : Type 0} → (R → RowTest → Bool) → ℕ → List R → List RowMasks
table_masks passes columns rows = if nat_le (length rows) 64 then row_masks passes columns rows ∷ [] else []

-- the rows, of those of a mask, that the columns let match where they have these values before a change and those after it
abbrev pub matching : ℕ → List ChangeMasks → List Trit → List Trit → ℕ
matching mask (masks ∷ columns) (old ∷ olds) (new ∷ news) = matching (bit_and mask (masks_at masks old new)) columns olds news
matching mask _ _ _ = mask

-- the rows of a mask that are among those that decide first, where some are, else the rows of the mask
abbrev pub deciding : ℕ → ℕ → ℕ
deciding mask first = if nat_eq (bit_and mask first) 0 then mask else bit_and mask first

-- the number of the first row of a mask
abbrev pub first_row : ℕ → Option ℕ
first_row mask = if nat_eq mask 0 then None else Some (trailing_zeros w64 mask)

-- the number of the row that decides, where one matches
abbrev pub decisive : RowMasks → Trit → List Trit → List Trit → Option ℕ
decisive masks state olds news =
    first_row (deciding (matching (mask_at masks.states state) masks.columns olds news) masks.first)

-- what the row with this number gives, where there is one
abbrev pub by_number : {R V : Type 0} → (R → V) → List R → V → Option ℕ → V
by_number value rows otherwise None = otherwise
by_number value rows otherwise (Some k) = option_map_or value (slice_get rows k) otherwise

-- where masks are there, they are those of rows of so many columns, of which there are few enough
pub record AreMasks {R : Type 0} (passes : R → RowTest → Bool) (columns : ℕ) (rows : List R) (masks : List RowMasks) :
    Type 0 where
  pub found : (m : RowMasks) → slice_get masks 0 ≡ Some m → (length rows ≤ 64) × (m ≡ row_masks passes columns rows)
