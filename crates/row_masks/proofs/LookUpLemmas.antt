-- The masks of rows decide as the rows do, in each kind of table.
use Rattle.std.proofs.lemmas.Bool.{cases_Bool, leb-true}
use Rattle.std.proofs.Common.{[], ◌∷◌, None, Some, cond, inl, inr, nat_le, slice_get}
use Rattle.std.proofs.Common.{◌≡◌, ℕ, zero, suc, ◌+◌, ◌≤◌, Bool, true, List, length, map}
use Rattle.std.proofs.Common.{refl, sym, ◌∙◌, ap}
use Rattle.std.specs.Prelude.{All, unwrap_or, option_map}
use Rattle.std.proofs.lemmas.Option.{slice_get-map}
use Rattle.std.specs.List.{range_with_len}
use Rattle.trit_cubes.specs.declared.trits.Trit.{Trit}
use Rattle.trit_cubes.specs.declared.trits.Trit.TheVariants.{Zero, One, Unknown}
use Rattle.udp_tables.specs.declared.table.UdpRow.{UdpRow}
use Rattle.udp_tables.specs.Tables.{columns_match}
use Rattle.udp_tables.specs.Primitive.{entry_matches, level_matches, level_output}
use Rattle.udp_tables.specs.Sequential.{is_level_row, row_matches, row_next, udp_next}
use Rattle.vital_tables.specs.declared.table.TruthRow.{TruthRow}
use Rattle.vital_tables.specs.declared.table.VStateRow.{VStateRow}
use Rattle.vital_tables.specs.Symbols.{trits_match, symbol_matches}
use Rattle.vital_tables.specs.Symbols.{level_matches as truth_level_matches}
use Rattle.vital_tables.specs.LookUps.{lookup_truth, lookup_state, state_matches}
use Rattle.vital_tables.specs.LookUps.{row_next as state_next}
use Rattle.row_masks.specs.declared.row_tests.RowTest.{RowTest}
use Rattle.row_masks.specs.declared.row_tests.RowTest.TheVariants as test
use Rattle.row_masks.specs.declared.rows.RowMasks.{RowMasks}
use Rattle.row_masks.specs.Masks.{row_mask, mask_at, state_masks, change_masks, row_masks, table_masks, matching, first_row}
use Rattle.row_masks.specs.Masks.{deciding, decisive, by_number, AreMasks}
use Rattle.row_masks.specs.LookUps.{udp_passes, truth_passes, state_passes}
use Rattle.row_masks.proofs.MaskLemmas.{and-swapped, first-by, deciding-first}
use Rattle.row_masks.proofs.ColumnLemmas.{all-matching}

-- the mask for a state is that of the rows that pass its test
state-mask : {R : Type 0} (passes : R → RowTest → Bool) (rows : List R) (state : Trit)
    → mask_at (state_masks passes rows) state ≡ row_mask (λ row. passes row (test.State state)) rows
state-mask passes rows Zero = refl
state-mask passes rows One = refl
state-mask passes rows Unknown = refl

-- masks have each column
columns-counted : {R : Type 0} (passes : R → RowTest → Bool) (rows : List R) (i n : ℕ)
    → length (map (change_masks passes rows) (range_with_len i n)) ≡ n
columns-counted passes rows i zero = refl
columns-counted passes rows i (suc n) = ap suc (columns-counted passes rows (i + 1) n)

pub columns-are : {R : Type 0} (passes : R → RowTest → Bool) (rows : List R) {n count : ℕ} {masks : RowMasks}
    → masks ≡ row_masks passes n rows → count ≡ n → length masks.columns ≡ count
columns-are passes rows {n = n} masks-is counted =
    ap (λ (m : RowMasks). length m.columns) masks-is ∙ columns-counted passes rows 0 n ∙ sym counted

-- the next state of a primitive
pub next-decided : (rows : List UdpRow) (n : ℕ) (masks : RowMasks) (state : Trit) (olds news : List Trit)
    → All (λ row. length row.inputs ≡ n) rows → length rows ≤ 64 → masks ≡ row_masks udp_passes n rows
    → length olds ≡ n → length news ≡ n
    → by_number (row_next state) rows Unknown (decisive masks state olds news) ≡ udp_next rows olds news state
next-decided rows n masks state olds news all few masks-is lo ln =
    let fits : UdpRow → Bool = λ row. level_matches row.state state in
    let columns = map (change_masks udp_passes rows) (range_with_len 0 n) in
    let firsts = row_mask is_level_row rows in
    let found : matching (mask_at (state_masks udp_passes rows) state) columns olds news ≡ row_mask (row_matches olds news state) rows
    = ap (λ x. matching x columns olds news) (state-mask udp_passes rows state)
    ∙ all-matching udp_passes (λ row. row.inputs) entry_matches (λ row place old new. refl) n fits rows olds news all lo ln
    ∙ (λ i. row_mask (λ row. and-swapped (fits row) (columns_match entry_matches row.inputs olds news) i) rows) in
    (λ i. by_number (row_next state) rows Unknown (decisive (masks-is i) state olds news))
    ∙ ap (λ m. by_number (row_next state) rows Unknown (first_row (deciding m firsts))) found
    ∙ sym (deciding-first is_level_row (row_matches olds news state) (row_next state) rows Unknown few)

-- the output of a combinational primitive
pub level-decided : (rows : List UdpRow) (n : ℕ) (masks : RowMasks) (olds news : List Trit)
    → All (λ row. length row.inputs ≡ n) rows → length rows ≤ 64 → masks ≡ row_masks udp_passes n rows
    → olds ≡ news → length news ≡ n
    → by_number (row_next Unknown) rows Unknown (first_row (matching masks.all masks.columns olds news)) ≡ level_output rows news
level-decided rows n masks olds news all few masks-is still ln =
    let columns = map (change_masks udp_passes rows) (range_with_len 0 n) in
    (λ i. let given = masks-is i in
    by_number (row_next Unknown) rows Unknown (first_row (matching given.all given.columns (still i) news)))
    ∙ ap (λ m. by_number (row_next Unknown) rows Unknown (first_row m))
    (all-matching udp_passes (λ row. row.inputs) entry_matches (λ row place old new. refl) n (λ row. true) rows news news all ln ln)
    ∙ sym (first-by (λ row. columns_match entry_matches row.inputs news news) (row_next Unknown) rows Unknown few)

-- what a truth table gives
pub truth-decided : (rows : List TruthRow) (masks : RowMasks) (olds news : List Trit)
    → All (λ row. length row.inputs ≡ length news) rows → length rows ≤ 64
    → masks ≡ row_masks truth_passes (length news) rows → olds ≡ news
    → by_number (λ row. row.result) rows Unknown (first_row (matching masks.all masks.columns olds news)) ≡ lookup_truth rows news
truth-decided rows masks olds news all few masks-is still =
    (λ i. let given = masks-is i in
    by_number (λ row. row.result) rows Unknown (first_row (matching given.all given.columns (still i) news)))
    ∙ ap (λ m. by_number (λ row. row.result) rows Unknown (first_row m))
    (all-matching truth_passes (λ row. row.inputs) truth_level_matches (λ row place old new. refl) (length news) (λ row. true) rows news
    news all refl refl)
    ∙ sym (first-by (λ row. columns_match truth_level_matches row.inputs news news) (λ row. row.result) rows Unknown few)

-- the next state that a state table gives
pub state-decided : (rows : List VStateRow) (masks : RowMasks) (state : Trit) (olds news : List Trit)
    → All (λ row. length row.inputs ≡ length news) rows → length rows ≤ 64
    → masks ≡ row_masks state_passes (length news) rows → length olds ≡ length news
    → by_number (state_next state) rows Unknown (first_row (matching (mask_at masks.states state) masks.columns olds news))
    ≡ lookup_state rows olds news state
state-decided rows masks state olds news all few masks-is lo =
    let fits : VStateRow → Bool = λ row. trits_match row.state state in
    let columns = map (change_masks state_passes rows) (range_with_len 0 (length news)) in
    (λ i. let given = masks-is i in
    by_number (state_next state) rows Unknown (first_row (matching (mask_at given.states state) given.columns olds news)))
    ∙ ap (λ m. by_number (state_next state) rows Unknown (first_row m))
    (ap (λ x. matching x columns olds news) (state-mask state_passes rows state)
    ∙ all-matching state_passes (λ row. row.inputs) symbol_matches (λ row place old new. refl) (length news) fits rows olds news all
    lo refl
    ∙ (λ i. row_mask (λ row. and-swapped (fits row) (columns_match symbol_matches row.inputs olds news) i) rows))
    ∙ sym (first-by (state_matches olds news state) (state_next state) rows Unknown few)

-- masks that are there are those of the rows, of which there are few
masks-found : {R : Type 0} (passes : R → RowTest → Bool) (n : ℕ) (rows : List R) (masks : RowMasks)
    → slice_get (table_masks passes n rows) 0 ≡ Some masks → (length rows ≤ 64) × (masks ≡ row_masks passes n rows)
masks-found passes n rows masks found =
    elim (cases_Bool (nat_le (length rows) 64)) [
      | inl few ↦
          let same : Some (row_masks passes n rows) ≡ Some masks
          = ap (λ b. slice_get (cond b (row_masks passes n rows ∷ []) []) 0) (sym few) ∙ found in
          let is : row_masks passes n rows ≡ masks = cc in
          (leb-true (length rows) 64 few, sym is)
      | inr many ↦
          let none : None ≡ Some masks
          = ap (λ b. slice_get (cond b (row_masks passes n rows ∷ []) []) 0) (sym many) ∙ found in
          absurd cc
    ]

-- the masks of a table
pub masks-are : {R : Type 0} (passes : R → RowTest → Bool) (n : ℕ) (rows : List R) (masks : List RowMasks)
    → masks ≡ table_masks passes n rows → AreMasks passes n rows masks
masks-are passes n rows masks are =
    record { found = λ m there. masks-found passes n rows m (ap (λ ms. slice_get ms 0) (sym are) ∙ there) }

-- the masks of one table among those of many
pub masks-kept : {T R : Type 0} (passes : R → RowTest → Bool) (columns : T → ℕ) (rows : T → List R) (parts : List T) (i : ℕ) (part : T)
    (masks : List RowMasks) → masks ≡ unwrap_or (slice_get (map (λ p. table_masks passes (columns p) (rows p)) parts) i) []
    → slice_get parts i ≡ Some part → AreMasks passes (columns part) (rows part) masks
masks-kept {T = T} passes columns rows parts i part masks are is =
    let own : T → List RowMasks = λ p. table_masks passes (columns p) (rows p) in
    let all : masks ≡ own part
    = are ∙ ap (λ o. unwrap_or o []) (slice_get-map own parts i ∙ ap (option_map own) is) in
    masks-are passes (columns part) (rows part) masks all
