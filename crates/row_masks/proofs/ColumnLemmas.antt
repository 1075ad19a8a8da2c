-- The masks of columns let those rows match whose symbols do.
use Rattle.std.proofs.Common.{◌≡◌, ℕ, zero, suc, ◌+◌, ◌<◌, Bool, true, false, ◌&&◌, bit_and, List, [], ◌∷◌, length, map, drop}
use Rattle.std.proofs.Common.{get_or, slice_get, Some, refl, sym, ◌∙◌, ap, arith}
use Rattle.std.specs.Prelude.{All}
use Rattle.std.specs.Option.{option_map_or}
use Rattle.std.specs.List.{range_with_len}
use Rattle.trit_cubes.specs.declared.trits.Trit.{Trit}
use Rattle.trit_cubes.specs.declared.trits.Trit.TheVariants.{Zero, One, Unknown}
use Rattle.udp_tables.specs.Tables.{columns_match}
use Rattle.udp_tables.proofs.ColumnLemmas.{and-true, and-assoc}
use Rattle.row_masks.specs.declared.row_tests.RowTest.{RowTest}
use Rattle.row_masks.specs.declared.row_tests.RowTest.TheVariants as test
use Rattle.row_masks.specs.declared.value_masks.ChangeMasks.{ChangeMasks}
use Rattle.row_masks.specs.Masks.{row_mask, masks_at, change_masks, matching}
use Rattle.row_masks.proofs.MaskLemmas.{mask-and, mask-same}

-- the mask for a change of a column is that of the rows that pass its test
change-mask : {R : Type 0} (passes : R → RowTest → Bool) (rows : List R) (place : ℕ) (old new : Trit)
    → masks_at (change_masks passes rows place) old new ≡ row_mask (λ row. passes row (test.Column place old new)) rows
change-mask passes rows place Zero Zero = refl
change-mask passes rows place Zero One = refl
change-mask passes rows place Zero Unknown = refl
change-mask passes rows place One Zero = refl
change-mask passes rows place One One = refl
change-mask passes rows place One Unknown = refl
change-mask passes rows place Unknown Zero = refl
change-mask passes rows place Unknown One = refl
change-mask passes rows place Unknown Unknown = refl

-- the symbol of a column, and those behind it
column-apart : {E : Type 0} (m : E → Trit → Trit → Bool) (es : List E) (i : ℕ) (o n : Trit) (os ns : List Trit) → i < length es
    → columns_match m (drop i es) (o ∷ os) (n ∷ ns)
    ≡ (option_map_or (λ e. m e o n) (slice_get es i) false && columns_match m (drop (suc i) es) os ns)
column-apart m [] i o n os ns inside = absurd (omega arith)
column-apart m (e ∷ es) zero o n os ns inside = refl
column-apart m (e ∷ es) (suc i) o n os ns inside = column-apart m es i o n os ns (omega arith)

no-columns : {E : Type 0} (m : E → Trit → Trit → Bool) (es : List E) (i : ℕ) → length es ≡ i
    → columns_match m (drop i es) [] [] ≡ true
no-columns m [] zero all = refl
no-columns m [] (suc i) all = absurd (omega arith)
no-columns m (e ∷ es) zero all = absurd (omega arith)
no-columns m (e ∷ es) (suc i) all = no-columns m es i (omega arith)

module _ {R E : Type 0} (passes : R → RowTest → Bool) (columns : R → List E) (m : E → Trit → Trit → Bool)
    (asks : (row : R) (place : ℕ) (old new : Trit)
    → passes row (test.Column place old new) ≡ option_map_or (λ e. m e old new) (slice_get (columns row) place) false) where
  -- the rows of a mask that the columns from one on let match
  matching-is : (n i : ℕ) (f : R → Bool) (rows : List R) (olds news : List Trit)
      → All (λ row. length (columns row) ≡ i + n) rows → length olds ≡ n → length news ≡ n
      → matching (row_mask f rows) (map (change_masks passes rows) (range_with_len i n)) olds news
      ≡ row_mask (λ row. f row && columns_match m (drop i (columns row)) olds news) rows
  matching-is zero i f rows (o ∷ olds) news all lo ln = absurd (omega arith)
  matching-is zero i f rows [] (n ∷ news) all lo ln = absurd (omega arith)
  matching-is zero i f rows [] [] all lo ln =
      mask-same f (λ row. f row && columns_match m (drop i (columns row)) [] []) rows
      (λ k d l. let row = get_or rows k d in
      sym (and-true (f row)) ∙ ap (λ b. f row && b) (sym (no-columns m (columns row) i (let len = all k d l in omega arith))))
  matching-is (suc n) i f rows [] news all lo ln = absurd (omega arith)
  matching-is (suc n) i f rows (o ∷ olds) [] all lo ln = absurd (omega arith)
  matching-is (suc n) i f rows (o ∷ olds) (w ∷ news) all lo ln =
      let asked : R → Bool = λ row. passes row (test.Column i o w) in
      let rest : R → Bool = λ row. columns_match m (drop (i + 1) (columns row)) olds news in
      let next : suc i ≡ i + 1 = omega arith in
      ap (λ x. matching x (map (change_masks passes rows) (range_with_len (i + 1) n)) olds news)
      (ap (bit_and (row_mask f rows)) (change-mask passes rows i o w) ∙ mask-and f asked rows)
      ∙ matching-is n (i + 1) (λ row. f row && asked row) rows olds news
      (λ k d l. let len = all k d l in omega arith) (omega arith) (omega arith)
      ∙ mask-same (λ row. (f row && asked row) && rest row)
      (λ row. f row && columns_match m (drop i (columns row)) (o ∷ olds) (w ∷ news)) rows
      (λ k d l.
      let row = get_or rows k d in
      let inside : i < length (columns row) = (let len = all k d l in omega arith) in
      sym (and-assoc (f row) (asked row) (rest row))
      ∙ ap (λ b. f row && b)
      (ap (λ b. b && rest row) (asks row i o w)
      ∙ sym (column-apart m (columns row) i o w olds news inside
      ∙ ap (λ k. option_map_or (λ e. m e o w) (slice_get (columns row) i) false && columns_match m (drop k (columns row)) olds news) next)))

  -- the rows of a mask that all columns let match
  pub all-matching : (n : ℕ) (f : R → Bool) (rows : List R) (olds news : List Trit)
      → All (λ row. length (columns row) ≡ n) rows → length olds ≡ n → length news ≡ n
      → matching (row_mask f rows) (map (change_masks passes rows) (range_with_len 0 n)) olds news
      ≡ row_mask (λ row. f row && columns_match m (columns row) olds news) rows
  all-matching n f rows olds news all lo ln =
      matching-is n 0 f rows olds news (λ k d l. let len = all k d l in omega arith) lo ln

-- the first of the columns that are left
pub matching-step : (mask : ℕ) (columns : List ChangeMasks) (olds news : List Trit) (i : ℕ) (c : ChangeMasks) (o n : Trit)
    → slice_get columns i ≡ Some c → slice_get olds i ≡ Some o → slice_get news i ≡ Some n
    → matching mask (drop i columns) (drop i olds) (drop i news)
    ≡ matching (bit_and mask (masks_at c o n)) (drop (suc i) columns) (drop (suc i) olds) (drop (suc i) news)
matching-step mask [] olds news i c o n found old new = absurd cc
matching-step mask (x ∷ columns) [] news i c o n found old new = absurd cc
matching-step mask (x ∷ columns) (y ∷ olds) [] i c o n found old new = absurd cc
matching-step mask (x ∷ columns) (y ∷ olds) (z ∷ news) zero c o n found old new =
    let column : x ≡ c = cc in
    let before : y ≡ o = cc in
    let after : z ≡ n = cc in
    (λ i. matching (bit_and mask (masks_at (column i) (before i) (after i))) columns olds news)
matching-step mask (x ∷ columns) (y ∷ olds) (z ∷ news) (suc i) c o n found old new =
    matching-step mask columns olds news i c o n found old new
