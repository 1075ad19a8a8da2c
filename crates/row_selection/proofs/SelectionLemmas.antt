-- Selected rows: their words tell exactly whether their levels match, and they decide as all rows do.
use Rattle.std.proofs.Common.{◌≡◌, ℕ, zero, suc, ◌+◌, ◌*◌, ◌<◌, ◌≤◌, Bool, true, false, cond, ◌&&◌, ◌||◌, nat_eq, bit_and, List}
use Rattle.std.proofs.Common.{[], ◌∷◌, length, map, take, refl, sym, ◌∙◌, ap, subst, inl, inr, arith, length-set}
use Rattle.std.specs.Prelude.{All, filter, slice_set, slice_index_or}
use Rattle.std.specs.List.{list_all}
use Rattle.std.proofs.lemmas.Bool.{cases_Bool, false≢true, or_left, or_right}
use Rattle.std.proofs.lemmas.List.{take_all}
use Rattle.std.proofs.lemmas.Nat.{and_le_l}
use Rattle.trit_cubes.specs.declared.trits.Trit.{Trit}
use Rattle.trit_cubes.specs.declared.trits.Trit.TheVariants.{Zero, One, Unknown}
use Rattle.trit_cubes.proofs.ListLemmas.{Among}
use Rattle.trit_cubes.proofs.NumberTests.{same_parts}
use Rattle.trit_cubes.proofs.WordLemmas.{and-blocks}
use Rattle.udp_tables.specs.declared.table.Level.{Level}
use Rattle.udp_tables.specs.declared.table.Level.TheVariants as level
use Rattle.udp_tables.specs.declared.table.Entry.{Entry}
use Rattle.udp_tables.specs.declared.table.Entry.TheVariants as entry
use Rattle.udp_tables.specs.declared.table.UdpRow.{UdpRow}
use Rattle.udp_tables.specs.Tables.{first, columns_match}
use Rattle.udp_tables.specs.Primitive.{level_matches, entry_matches, is_level, next_of}
use Rattle.udp_tables.specs.Sequential.{row_matches, row_next}
use Rattle.udp_tables.specs.RowWords.{level_of, asked_bits, value_bits, words_of, row_words, value_word, may_match}
use Rattle.udp_tables.specs.RowKeys.{level_after}
use Rattle.udp_tables.proofs.ColumnLemmas.{and-false, and-assoc, and-swap}
use Rattle.udp_tables.proofs.FirstLemmas.{first-append}
use Rattle.udp_tables.proofs.RowWordLemmas.{asked_bits-below, value_bits-below}
use Rattle.row_selection.specs.declared.selected_rows.SelectedRow.{SelectedRow}
use Rattle.row_selection.specs.Selection.{any, settled, may_go, selects, is_of, selected_row, selected_of, selected_hit}
use Rattle.row_selection.specs.Laws.{SelectedRowsDecide}

-- the two bits of a value are those for which a level asks exactly where the level matches it
bits-exact : (l : Level) (t : Trit) → nat_eq (bit_and (value_bits (level_of t)) (asked_bits l)) (value_bits l) ≡ level_matches l t
bits-exact level.Zero Zero = refl
bits-exact level.Zero One = refl
bits-exact level.Zero Unknown = refl
bits-exact level.One Zero = refl
bits-exact level.One One = refl
bits-exact level.One Unknown = refl
bits-exact level.Unknown Zero = refl
bits-exact level.Unknown One = refl
bits-exact level.Unknown Unknown = refl
bits-exact level.Any Zero = refl
bits-exact level.Any One = refl
bits-exact level.Any Unknown = refl
bits-exact level.Binary Zero = refl
bits-exact level.Binary One = refl
bits-exact level.Binary Unknown = refl

-- at an input that does not change, no entry matches that is no level
entry-exact : (e : Entry) (t : Trit)
    → (is_level e && nat_eq (bit_and (value_bits (level_of t)) (asked_bits (level_after e)))
    (value_bits (level_after e))) ≡ entry_matches e t t
entry-exact (entry.Level l) t = bits-exact l t
entry-exact (entry.Pair v w) Zero = refl
entry-exact (entry.Pair v w) One = refl
entry-exact (entry.Pair v w) Unknown = refl
entry-exact entry.R Zero = refl
entry-exact entry.R One = refl
entry-exact entry.R Unknown = refl
entry-exact entry.F Zero = refl
entry-exact entry.F One = refl
entry-exact entry.F Unknown = refl
entry-exact entry.P Zero = refl
entry-exact entry.P One = refl
entry-exact entry.P Unknown = refl
entry-exact entry.N Zero = refl
entry-exact entry.N One = refl
entry-exact entry.N Unknown = refl
entry-exact entry.Star Zero = refl
entry-exact entry.Star One = refl
entry-exact entry.Star Unknown = refl

nat_eq-blocks : (b d m n : ℕ) → b < 4 → d < 4 → nat_eq (b + 4 * m) (d + 4 * n) ≡ (nat_eq b d && nat_eq m n)
nat_eq-blocks b d m n p q =
    same_parts (b + 4 * m) (d + 4 * n) b d m n (λ e h. omega arith) (λ g. (omega arith, omega arith))

and-pairs : (a b c d : Bool) → ((a && b) && (c && d)) ≡ ((a && c) && (b && d))
and-pairs true true c d = refl
and-pairs true false true d = refl
and-pairs true false false d = refl
and-pairs false b c d = refl

-- levels match exactly where the words do
words-exact : (es : List Entry) (ts : List Trit) → length ts ≡ length es
    → (list_all is_level es && nat_eq (bit_and (words_of (map level_of ts)).values (words_of (map level_after es)).asked)
    (words_of (map level_after es)).values)
    ≡ columns_match entry_matches es ts ts
words-exact [] [] f = refl
words-exact [] (t ∷ ts) f = absurd (omega arith)
words-exact (e ∷ es) [] f = absurd (omega arith)
words-exact (e ∷ es) (t ∷ ts) f =
    let v = value_bits (level_of t) in
    let a = asked_bits (level_after e) in
    let b = value_bits (level_after e) in
    let w = (words_of (map level_of ts)).values in
    let x = (words_of (map level_after es)).asked in
    let y = (words_of (map level_after es)).values in
    let levels = is_level e && list_all is_level es in
    let below : bit_and v a < 4 = omega (arith, and_le_l v a, value_bits-below (level_of t)) in
    ap (λ n. levels && nat_eq n (b + 4 * y))
    (and-blocks 2 v a w x (value_bits-below (level_of t)) (asked_bits-below (level_after e)))
    ∙ ap (λ r. levels && r) (nat_eq-blocks (bit_and v a) b (bit_and w x) y below (value_bits-below (level_after e)))
    ∙ and-pairs (is_level e) (list_all is_level es) (nat_eq (bit_and v a) b) (nat_eq (bit_and w x) y)
    ∙ (λ i. entry-exact e t i && words-exact es ts (omega arith) i)

-- the entry of the input that changes apart
at-change :
    (p : ℕ) (old : Trit) (es : List Entry) (ts : List Trit) → p < length es → length ts ≡ length es
    → columns_match entry_matches es (slice_set ts p old) ts
    ≡ (entry_matches (slice_index_or es p any) old (slice_index_or ts p Unknown)
    && columns_match entry_matches (slice_set es p any) ts ts)
at-change p old [] ts l f = absurd (omega arith)
at-change p old (e ∷ es) [] l f = absurd (omega arith)
at-change zero old (e ∷ es) (t ∷ ts) l f = refl
at-change (suc p) old (e ∷ es) (t ∷ ts) l f =
    ap (λ r. entry_matches e t t && r) (at-change p old es ts (omega arith) (omega arith))
    ∙ and-swap (entry_matches e t t) (entry_matches (slice_index_or es p any) old (slice_index_or ts p Unknown))
    (columns_match entry_matches (slice_set es p any) ts ts)

settled-exact :
    (p : ℕ) (row : UdpRow) (values : List Trit) → length row.inputs ≡ length values → length values ≤ 32
    → (list_all is_level (settled p row) && may_match (row_words level_after (settled p row)) (value_word values))
    ≡ columns_match entry_matches (settled p row) values values
settled-exact p row values f few =
    let es = settled p row in
    let wide : length es ≡ length row.inputs = length-set row.inputs p any in
    let short : take 32 es ≡ es = take_all 32 es (omega (arith, wide, f, few)) in
    let whole : take 32 values ≡ values = take_all 32 values few in
    (λ i. list_all is_level es && nat_eq
    (bit_and (words_of (map level_of (whole i))).values (words_of (map level_after (short i))).asked)
    (words_of (map level_after (short i))).values)
    ∙ words-exact es values (omega (arith, wide, f))

may-go : (e : Entry) (old new : Trit) → entry_matches e old new ≡ true → may_go e old ≡ true
may-go e old Zero h = or_left (entry_matches e old Zero) (entry_matches e old One || entry_matches e old Unknown) h
may-go e old One h =
    or_right (entry_matches e old Zero) (entry_matches e old One || entry_matches e old Unknown)
    (or_left (entry_matches e old One) (entry_matches e old Unknown) h)
may-go e old Unknown h =
    or_right (entry_matches e old Zero) (entry_matches e old One || entry_matches e old Unknown)
    (or_right (entry_matches e old One) (entry_matches e old Unknown) h)

in-order : (e a m s g : Bool) → (e ≡ true → g ≡ true) → ((e && (a && m)) && s) ≡ ((g && a) && (m && (e && s)))
in-order true a m s true h = sym (and-assoc a m s)
in-order true a m s false h = absurd (false≢true (h refl))
in-order false a m s g h = sym (ap (λ b. (g && a) && b) (and-false m) ∙ and-false (g && a))

-- a row matches exactly where it is selected and then matches
pub row-hit :
    (p : ℕ) (old : Trit) (row : UdpRow) (values : List Trit) (state : Trit)
    → length row.inputs ≡ length values → p < length values → length values ≤ 32
    → row_matches (slice_set values p old) values state row
    ≡ (selects p old row && selected_hit (value_word values) old (slice_index_or values p Unknown) state (selected_row p row))
row-hit p old row values state f l few =
    let e = slice_index_or row.inputs p any in
    let new = slice_index_or values p Unknown in
    ap (λ b. b && level_matches row.state state)
    (at-change p old row.inputs values (omega (arith, f, l)) (sym f)
    ∙ ap (λ b. entry_matches e old new && b) (sym (settled-exact p row values f few)))
    ∙ in-order (entry_matches e old new) (list_all is_level (settled p row))
    (may_match (row_words level_after (settled p row)) (value_word values))
    (level_matches row.state state) (may_go e old) (may-go e old new)

all-among : {X : Type 0} (P : X → Type 0) (xs : List X) → All P xs → (x : X) → Among x xs → P x
all-among P [] h x a = absurd a
all-among P (y ∷ ys) h x (inl e) = subst P e (h 0 y (omega arith))
all-among P (y ∷ ys) h x (inr a) = all-among P ys (λ k d l. h (suc k) d (omega arith)) x a

-- the first of all rows, where those that are passed over are not hit
first-selected :
    {R S V : Type 0} (hit : R → Bool) (value : R → V) (keep : R → Bool) (f : R → S) (shit : S → Bool) (svalue : S
    → V) (rows : List R) (o : V)
    → ((row : R) → Among row rows → hit row ≡ (keep row && shit (f row))) → ((row : R) → value row ≡ svalue (f row))
    → first hit value rows o ≡ first shit svalue (map f (filter keep rows)) o
first-selected hit value keep f shit svalue [] o is same = refl
first-selected hit value keep f shit svalue (row ∷ rows) o is same =
    let rest = first-selected hit value keep f shit svalue rows o (λ r a. is r (inr a)) same in
    elim (cases_Bool (keep row)) [
      | inl k ↦ rw (is row (inl refl), k, same row) (ap (cond (shit (f row)) (svalue (f row))) rest)
      | inr k ↦ rw (is row (inl refl), k) rest
    ]

of-kind :
    (levels : Bool) (p : ℕ) (old : Trit) (rows : List UdpRow) (values : List Trit) (state o : Trit)
    → All (λ row. length row.inputs ≡ length values) rows → p < length values → length values ≤ 32
    → first (λ row. is_of levels row && row_matches (slice_set values p old) values state row) (row_next state) rows o
    ≡ first (selected_hit (value_word values) old (slice_index_or values p Unknown) state) (λ row. next_of state row.next)
    (selected_of levels p old rows) o
of-kind levels p old rows values state o wide inside few =
    let hit = selected_hit (value_word values) old (slice_index_or values p Unknown) state in
    first-selected (λ row. is_of levels row && row_matches (slice_set values p old) values state row) (row_next state)
    (λ row. is_of levels row && selects p old row) (selected_row p) hit (λ (row : SelectedRow). next_of state row.next) rows o
    (λ row a.
    ap (λ b. is_of levels row && b) (row-hit p old row values state
    (all-among (λ (r : UdpRow). length r.inputs ≡ length values) rows wide row a) inside few)
    ∙ and-assoc (is_of levels row) (selects p old row) (hit (selected_row p row)))
    (λ row. refl)

pub selected-decide : SelectedRowsDecide
selected-decide p old rows values state wide inside few =
    let hit = selected_hit (value_word values) old (slice_index_or values p Unknown) state in
    let value : SelectedRow → Trit = λ row. next_of state row.next in
    let changes = first hit value (selected_of false p old rows) Unknown in
    first-append hit value (selected_of true p old rows) (selected_of false p old rows) Unknown
    ∙ sym (of-kind true p old rows values state changes wide inside few)
    ∙ ap (first (λ row. is_of true row && row_matches (slice_set values p old) values state row) (row_next state) rows)
    (sym (of-kind false p old rows values state Unknown wide inside few))
