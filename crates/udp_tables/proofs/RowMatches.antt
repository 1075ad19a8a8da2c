-- Rows that words decide: levels match where their words let them, and a row with a change entry only where that input made it.
use Rattle.std.proofs.Common.{◌≡◌, ℕ, zero, suc, ◌+◌, ◌*◌, ◌<◌, ◌≤◌, Bool, true, false, not, ◌&&◌, bit_and, List, [], ◌∷◌}
use Rattle.std.proofs.Common.{length, map, take, slice_get, Some, refl, sym, ◌∙◌, ap, inl, inr, arith}
use Rattle.std.specs.Prelude.{slice_set}
use Rattle.std.specs.List.{list_all}
use Rattle.std.proofs.lemmas.Bool.{cases_Bool, false≢true, and_parts, and_from, eqb-true}
use Rattle.std.proofs.lemmas.List.{length-set}
use Rattle.std.proofs.lemmas.Nat.{and_le_l}
use Rattle.trit_cubes.specs.declared.trits.Trit.{Trit}
use Rattle.trit_cubes.proofs.WordLemmas.{and-blocks}
use Rattle.udp_tables.specs.declared.table.Level.{Level}
use Rattle.udp_tables.specs.declared.table.Entry.{Entry}
use Rattle.udp_tables.specs.declared.table.Entry.TheVariants as entry
use Rattle.udp_tables.specs.Tables.{columns_match}
use Rattle.udp_tables.specs.Primitive.{level_matches, entry_matches, is_level}
use Rattle.udp_tables.specs.RowWords.{level_of, asked_bits, value_bits, words_of, row_words, value_word, may_match}
use Rattle.udp_tables.specs.RowKeys.{level_after}
use Rattle.udp_tables.proofs.ColumnLemmas.{and-false}
use Rattle.udp_tables.proofs.RowWordLemmas.{asked_bits-below, value_bits-below}

-- a value that has the bits that a level asks for is one that the level matches
bits-tell : (l : Level) (t : Trit) → bit_and (value_bits (level_of t)) (asked_bits l) ≡ value_bits l → level_matches l t ≡ true
bits-tell l t h = grind arith

-- the same of an entry that is a level
level-entry : (e : Entry) (old new : Trit) → is_level e ≡ true
    → bit_and (value_bits (level_of new)) (asked_bits (level_after e)) ≡ value_bits (level_after e) → entry_matches e old new ≡ true
level-entry (entry.Level l) old new is h = bits-tell l new h
level-entry (entry.Pair v w) old new is h = absurd (false≢true is)
level-entry entry.R old new is h = absurd (false≢true is)
level-entry entry.F old new is h = absurd (false≢true is)
level-entry entry.P old new is h = absurd (false≢true is)
level-entry entry.N old new is h = absurd (false≢true is)
level-entry entry.Star old new is h = absurd (false≢true is)

-- two numbers in digits of base four are equal digit by digit
digits : (p q more rest : ℕ) → p < 4 → q < 4 → p + 4 * more ≡ q + 4 * rest → (p ≡ q) × (more ≡ rest)
digits p q more rest below least h = (omega arith, omega arith)

-- the values have the bits that these entries ask for
abbrev HaveBits : ℕ → List Entry → List Trit → Type 0
HaveBits n es ts =
    bit_and (words_of (map level_of (take n ts))).values (words_of (map level_after (take n es))).asked
    ≡ (words_of (map level_after (take n es))).values

-- the first value has its bits, and the others have theirs
split : (n : ℕ) (e : Entry) (es : List Entry) (t : Trit) (ts : List Trit) → HaveBits (suc n) (e ∷ es) (t ∷ ts)
    → (bit_and (value_bits (level_of t)) (asked_bits (level_after e)) ≡ value_bits (level_after e)) × HaveBits n es ts
split n e es t ts h =
    let value = value_bits (level_of t) in
    let asked = asked_bits (level_after e) in
    let low : bit_and value asked < 4 = omega (arith, and_le_l value asked, value_bits-below (level_of t)) in
    digits (bit_and value asked) (value_bits (level_after e)) _ _ low (value_bits-below (level_after e))
    (sym
    (and-blocks 2 value asked (words_of (map level_of (take n ts))).values (words_of (map level_after (take n es))).asked
    (value_bits-below (level_of t)) (asked_bits-below (level_after e)))
    ∙ h)

-- levels match values that have the bits that they ask for
bits-decide : (n : ℕ) (es : List Entry) (os ts : List Trit) → list_all is_level es ≡ true → length es ≡ length ts
    → length os ≡ length ts → length ts ≤ n → HaveBits n es ts → columns_match entry_matches es os ts ≡ true
bits-decide n [] [] [] all l lo short h = refl
bits-decide n [] os (t ∷ ts) all l lo short h = absurd (omega arith)
bits-decide n [] (o ∷ os) [] all l lo short h = absurd (omega arith)
bits-decide n (e ∷ es) os [] all l lo short h = absurd (omega arith)
bits-decide n (e ∷ es) [] (t ∷ ts) all l lo short h = absurd (omega arith)
bits-decide zero (e ∷ es) (o ∷ os) (t ∷ ts) all l lo short h = absurd (omega arith)
bits-decide (suc n) (e ∷ es) (o ∷ os) (t ∷ ts) all l lo short h =
    let levels = and_parts (is_level e) (list_all is_level es) all in
    let bits = split n e es t ts h in
    and_from (entry_matches e o t) (columns_match entry_matches es os ts) (level-entry e o t levels.0 bits.0)
    (bits-decide n es os ts levels.1 (omega arith) (omega arith) (omega arith) bits.1)

-- levels whose words let them match do match, where there are no more than the words speak of
pub levels_decide : (es : List Entry) (ts : List Trit) (p : ℕ) (old : Trit) → list_all is_level es ≡ true
    → length es ≡ length ts → length es ≤ 32 → may_match (row_words level_after es) (value_word ts) ≡ true
    → columns_match entry_matches es (slice_set ts p old) ts ≡ true
levels_decide es ts p old all l short h =
    bits-decide 32 es (slice_set ts p old) ts all l (length-set ts p old) (omega arith)
    (eqb-true (bit_and (value_word ts) (row_words level_after es).asked) (row_words level_after es).values h)

-- the same where no input changes
pub same_levels_decide : (es : List Entry) (ts : List Trit) → list_all is_level es ≡ true
    → length es ≡ length ts → length es ≤ 32 → may_match (row_words level_after es) (value_word ts) ≡ true
    → columns_match entry_matches es ts ts ≡ true
same_levels_decide es ts all l short h =
    bits-decide 32 es ts ts all l refl (omega arith)
    (eqb-true (bit_and (value_word ts) (row_words level_after es).asked) (row_words level_after es).values h)

-- a change entry does not match an input that stays
unmoved : (e : Entry) (t : Trit) → is_level e ≡ false → entry_matches e t t ≡ false
unmoved e t h = grind arith

-- entries of which one is a change match no values that all stay
none-moved : (es : List Entry) (ts : List Trit) → list_all is_level es ≡ false → columns_match entry_matches es ts ts ≡ false
none-moved [] ts h = absurd (false≢true (sym h))
none-moved (e ∷ es) [] h = refl
none-moved (e ∷ es) (t ∷ ts) h =
    elim (cases_Bool (is_level e)) [
      | inl is ↦
          ap (λ b. entry_matches e t t && b) (none-moved es ts (ap (λ b. b && list_all is_level es) (sym is) ∙ h))
          ∙ and-false (entry_matches e t t)
      | inr change ↦ ap (λ b. b && columns_match entry_matches es ts ts) (unmoved e t change)
    ]

-- a fact whose contrary holds does not
pub not-holds : (b : Bool) → not b ≡ true → b ≡ false
not-holds true h = sym h
not-holds false h = refl

-- The entry of the changed input is a level, and so another one asks for a change.
pub other_change : (es : List Entry) (ts : List Trit) (p : ℕ) (e : Entry) (old : Trit) → slice_get es p ≡ Some e
    → is_level e ≡ true → list_all is_level es ≡ false → columns_match entry_matches es (slice_set ts p old) ts ≡ false
other_change [] ts p e old found is h = absurd cc
other_change (x ∷ es) [] p e old found is h = refl
other_change (x ∷ es) (t ∷ ts) zero e old found is h =
    let same : x ≡ e = cc in
    let level : is_level x ≡ true = ap is_level same ∙ is in
    ap (λ b. entry_matches x old t && b) (none-moved es ts (ap (λ b. b && list_all is_level es) (sym level) ∙ h))
    ∙ and-false (entry_matches x old t)
other_change (x ∷ es) (t ∷ ts) (suc p) e old found is h =
    elim (cases_Bool (is_level x)) [
      | inl level ↦
          ap (λ b. entry_matches x t t && b)
          (other_change es ts p e old found is (ap (λ b. b && list_all is_level es) (sym level) ∙ h))
          ∙ and-false (entry_matches x t t)
      | inr change ↦ ap (λ b. b && columns_match entry_matches es (slice_set ts p old) ts) (unmoved x t change)
    ]

-- the entry of the changed input does not match its change
pub wrong_change : (es : List Entry) (ts : List Trit) (p : ℕ) (e : Entry) (old t : Trit) → slice_get es p ≡ Some e
    → slice_get ts p ≡ Some t → entry_matches e old t ≡ false → columns_match entry_matches es (slice_set ts p old) ts ≡ false
wrong_change [] ts p e old t found is h = absurd cc
wrong_change (x ∷ es) [] p e old t found is h = refl
wrong_change (x ∷ es) (y ∷ ts) zero e old t found is h =
    let entry-is : x ≡ e = cc in
    let value-is : y ≡ t = cc in
    ap (λ b. b && columns_match entry_matches es ts ts) ((λ i. entry_matches (entry-is i) old (value-is i)) ∙ h)
wrong_change (x ∷ es) (y ∷ ts) (suc p) e old t found is h =
    ap (λ b. entry_matches x y y && b) (wrong_change es ts p e old t found is h) ∙ and-false (entry_matches x y y)
