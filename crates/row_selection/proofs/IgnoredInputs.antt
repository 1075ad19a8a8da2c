-- Inputs of which no row that may match asks anything may have any values.
use Rattle.std.proofs.Common.{◌≡◌, ◌≢◌, ℕ, zero, suc, ◌<◌, ◌≤◌, Bool, true, false, not, cond, ◌&&◌, ◌||◌, nat_eq, List, [], ◌∷◌}
use Rattle.std.proofs.Common.{length, map, refl, sym, ◌∙◌, ap, inl, inr, arith}
use Rattle.std.specs.Prelude.{All, slice_set, slice_index_or}
use Rattle.std.specs.List.{list_all}
use Rattle.std.proofs.lemmas.Bool.{cases_Bool, cases_eq, false≢true, eq-eqb, and_parts, not-true}
use Rattle.std.proofs.lemmas.List.{length-map}
use Rattle.trit_cubes.specs.declared.trits.Trit.{Trit}
use Rattle.trit_cubes.specs.declared.trits.Trit.TheVariants.{Unknown}
use Rattle.cell_machine.specs.Inputs.{numbered_value}
use Rattle.udp_tables.specs.declared.table.Level.TheVariants as level
use Rattle.udp_tables.specs.declared.table.Entry.{Entry}
use Rattle.udp_tables.specs.declared.table.Entry.TheVariants as entry
use Rattle.udp_tables.specs.declared.table.UdpRow.{UdpRow}
use Rattle.udp_tables.specs.Tables.{first, columns_match}
use Rattle.udp_tables.specs.Primitive.{level_matches, entry_matches}
use Rattle.udp_tables.specs.Sequential.{is_level_row, row_matches, level_hit, edge_hit, row_next}
use Rattle.udp_tables.specs.RowWords.{value_word}
use Rattle.row_selection.specs.Selection.{selects, selected_row, selected_hit, is_any, asks_nothing, ignored_by}
use Rattle.row_selection.specs.Laws.{IgnoredInputsAreFree}
use Rattle.row_selection.proofs.SelectionLemmas.{row-hit}

-- `?` matches every change
any-matches : (e : Entry) → is_any e ≡ true → (a b : Trit) → entry_matches e a b ≡ true
any-matches (entry.Level level.Any) h a b = refl
any-matches (entry.Level level.Zero) h a b = absurd (false≢true h)
any-matches (entry.Level level.One) h a b = absurd (false≢true h)
any-matches (entry.Level level.Unknown) h a b = absurd (false≢true h)
any-matches (entry.Level level.Binary) h a b = absurd (false≢true h)
any-matches (entry.Pair v w) h a b = absurd (false≢true h)
any-matches entry.R h a b = absurd (false≢true h)
any-matches entry.F h a b = absurd (false≢true h)
any-matches entry.P h a b = absurd (false≢true h)
any-matches entry.N h a b = absurd (false≢true h)
any-matches entry.Star h a b = absurd (false≢true h)

either : (a b : Bool) → (not a || b) ≡ true → a ≡ true → b ≡ true
either true b h e = h
either false b h e = absurd (false≢true e)

-- an entry of which nothing is asked where the values are not the same
entry-same :
    (n k : ℕ) (e : Entry) (values others : List Trit)
    → (not (nat_eq k n) || is_any e) ≡ true → ((j : ℕ) → j ≢ n → numbered_value values j ≡ numbered_value others j)
    → entry_matches e (numbered_value values k) (numbered_value values k) ≡ entry_matches e (numbered_value others k)
    (numbered_value others k)
entry-same n k e values others h same =
    elim (cases_eq k n) [
      | inl at ↦
          let any = either (nat_eq k n) (is_any e) h (eq-eqb k n at) in
          any-matches e any (numbered_value values k) (numbered_value values k)
          ∙ sym (any-matches e any (numbered_value others k) (numbered_value others k))
      | inr apart ↦ (λ i. entry_matches e (same k apart i) (same k apart i))
    ]

entry-changes :
    (n k : ℕ) (e : Entry) (old : Trit) (values others : List Trit)
    → (not (nat_eq k n) || is_any e) ≡ true → ((j : ℕ) → j ≢ n → numbered_value values j ≡ numbered_value others j)
    → entry_matches e old (numbered_value values k) ≡ entry_matches e old (numbered_value others k)
entry-changes n k e old values others h same =
    elim (cases_eq k n) [
      | inl at ↦
          let any = either (nat_eq k n) (is_any e) h (eq-eqb k n at) in
          any-matches e any old (numbered_value values k) ∙ sym (any-matches e any old (numbered_value others k))
      | inr apart ↦ ap (entry_matches e old) (same k apart)
    ]

-- entries match both where nothing is asked of the values that are not the same
still :
    (n : ℕ) (order : List ℕ) (es : List Entry) (values others : List Trit)
    → asks_nothing n order es ≡ true → ((j : ℕ) → j ≢ n → numbered_value values j ≡ numbered_value others j)
    → columns_match entry_matches es (map (numbered_value values) order) (map (numbered_value values) order)
    ≡ columns_match entry_matches es (map (numbered_value others) order) (map (numbered_value others) order)
still n [] [] values others h same = refl
still n [] (e ∷ es) values others h same = refl
still n (k ∷ ks) [] values others h same = refl
still n (k ∷ ks) (e ∷ es) values others h same =
    let parts = and_parts (not (nat_eq k n) || is_any e) (asks_nothing n ks es) h in
    λ i. entry-same n k e values others parts.0 same i && still n ks es values others parts.1 same i

changing :
    (p : ℕ) (old : Trit) (n : ℕ) (order : List ℕ) (es : List Entry) (values others : List Trit)
    → asks_nothing n order es ≡ true → ((j : ℕ) → j ≢ n → numbered_value values j ≡ numbered_value others j)
    → columns_match entry_matches es (slice_set (map (numbered_value values) order) p old) (map (numbered_value values) order)
    ≡ columns_match entry_matches es (slice_set (map (numbered_value others) order) p old) (map (numbered_value others) order)
changing p old n [] [] values others h same = refl
changing p old n [] (e ∷ es) values others h same = refl
changing zero old n (k ∷ ks) [] values others h same = refl
changing (suc p) old n (k ∷ ks) [] values others h same = refl
changing zero old n (k ∷ ks) (e ∷ es) values others h same =
    let parts = and_parts (not (nat_eq k n) || is_any e) (asks_nothing n ks es) h in
    λ i. entry-changes n k e old values others parts.0 same i && still n ks es values others parts.1 same i
changing (suc p) old n (k ∷ ks) (e ∷ es) values others h same =
    let parts = and_parts (not (nat_eq k n) || is_any e) (asks_nothing n ks es) h in
    λ i. entry-same n k e values others parts.0 same i && changing p old n ks es values others parts.1 same i

-- a row matches both where it asks nothing of them, or may not match
not-selected :
    (p : ℕ) (old : Trit) (row : UdpRow) (values : List Trit) (state : Trit)
    → selects p old row ≡ false → length row.inputs ≡ length values → p < length values → length values ≤ 32
    → row_matches (slice_set values p old) values state row ≡ false
not-selected p old row values state h wide inside few =
    row-hit p old row values state wide inside few
    ∙ ap (λ b. b && selected_hit (value_word values) old (slice_index_or values p Unknown) state (selected_row p row)) h

row-free :
    (p : ℕ) (old : Trit) (n : ℕ) (order : List ℕ) (row : UdpRow) (values others : List Trit) (state : Trit)
    → ignored_by p old n order row ≡ true → length row.inputs ≡ length order → p < length order → length order ≤ 32
    → ((j : ℕ) → j ≢ n → numbered_value values j ≡ numbered_value others j)
    → row_matches (slice_set (map (numbered_value values) order) p old) (map (numbered_value values) order) state row
    ≡ row_matches (slice_set (map (numbered_value others) order) p old) (map (numbered_value others) order) state row
row-free p old n order row values others state h wide inside few same =
    let one = map (numbered_value values) order in
    let other = map (numbered_value others) order in
    let one-long : length one ≡ length order = length-map order (numbered_value values) in
    let other-long : length other ≡ length order = length-map order (numbered_value others) in
    elim (cases_Bool (asks_nothing n order row.inputs)) [
      | inl asks ↦ ap (λ b. b && level_matches row.state state) (changing p old n order row.inputs values others asks same)
      | inr asks ↦
          let out = not-true (selects p old row) (sym (ap (λ b. b || not (selects p old row)) asks) ∙ h) in
          not-selected p old row one state out (wide ∙ sym one-long) (omega (arith, inside, one-long))
          (omega (arith, few, one-long))
          ∙ sym (not-selected p old row other state out (wide ∙ sym other-long) (omega (arith, inside, other-long))
          (omega (arith, few, other-long)))
    ]

-- the first row that is hit, by two tests that are the same
first-same :
    (one other : UdpRow → Bool) (value : UdpRow → Trit) (keep : UdpRow → Bool) (P : UdpRow → Type 0) (rows : List UdpRow)
    (o r : Trit)
    → list_all keep rows ≡ true → All P rows → ((row : UdpRow) → keep row ≡ true → P row → one row ≡ other row) → o ≡ r
    → first one value rows o ≡ first other value rows r
first-same one other value keep P [] o r k all same e = e
first-same one other value keep P (row ∷ rows) o r k all same e =
    let parts = and_parts (keep row) (list_all keep rows) k in
    let rest = first-same one other value keep P rows o r parts.1 (λ j d l. all (suc j) d (omega (arith, l))) same e in
    λ i. cond (same row parts.0 (all 0 row (omega arith)) i) (value row) (rest i)

pub ignored-free : IgnoredInputsAreFree
ignored-free p old n order rows values others state h wide inside few same =
    let one = map (numbered_value values) order in
    let other = map (numbered_value others) order in
    let alike : (row : UdpRow) → ignored_by p old n order row ≡ true → length row.inputs ≡ length order
    → row_matches (slice_set one p old) one state row ≡ row_matches (slice_set other p old) other state row
    = λ row k long. row-free p old n order row values others state k long inside few same in
    first-same (level_hit (slice_set one p old) one state) (level_hit (slice_set other p old) other state) (row_next state)
    (ignored_by p old n order) (λ (row : UdpRow). length row.inputs ≡ length order) rows _ _ h wide
    (λ row k long. ap (λ b. is_level_row row && b) (alike row k long))
    (first-same (edge_hit (slice_set one p old) one state) (edge_hit (slice_set other p old) other state) (row_next state)
    (ignored_by p old n order) (λ (row : UdpRow). length row.inputs ≡ length order) rows Unknown Unknown h wide
    (λ row k long. ap (λ b. not (is_level_row row) && b) (alike row k long)) refl)
