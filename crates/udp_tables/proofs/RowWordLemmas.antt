-- What the words of a row tell: they are words of 64 bits, and a row that matches is not ruled out by them.
use Rattle.std.proofs.Common.{◌≡◌, ℕ, zero, suc, ◌+◌, ◌*◌, ◌^◌, ◌<◌, ◌≤◌, Bool, true, false, bit_and, List, [], ◌∷◌, length, map}
use Rattle.std.proofs.Common.{take, drop, slice_get, Some, refl, sym, ◌∙◌, ap, subst, inl, inr, arith, pow-suc, length-drop, ◌-◌}
use Rattle.std.proofs.lemmas.Bool.{cases_Bool, false≢true, and_parts, eq-eqb}
use Rattle.std.proofs.lemmas.List.{length-map}
use Rattle.trit_cubes.specs.declared.trits.Trit.{Trit}
use Rattle.trit_cubes.proofs.WordLemmas.{and-blocks}
use Rattle.udp_tables.specs.declared.table.Level.{Level}
use Rattle.udp_tables.specs.declared.row_words.RowWords.{RowWords}
use Rattle.udp_tables.specs.Tables.{columns_match}
use Rattle.udp_tables.specs.Primitive.{level_matches}
use Rattle.udp_tables.specs.RowWords.{level_of, asked_bits, value_bits, words_of, row_words, value_word, may_match}

pub asked_bits-below : (l : Level) → asked_bits l < 4
asked_bits-below l = grind arith

pub value_bits-below : (l : Level) → value_bits l < 4
value_bits-below l = grind arith

pub asked-below : (ls : List Level) (k : ℕ) → length ls ≤ k → (words_of ls).asked < 4 ^ k
asked-below [] zero h = omega arith
asked-below [] (suc k) h = rw pow-suc (omega (arith, asked-below [] k (omega arith)))
asked-below (l ∷ ls) zero h = absurd (omega arith)
asked-below (l ∷ ls) (suc k) h = rw pow-suc (omega (arith, asked_bits-below l, asked-below ls k (omega arith)))

pub values-below : (ls : List Level) (k : ℕ) → length ls ≤ k → (words_of ls).values < 4 ^ k
values-below [] zero h = omega arith
values-below [] (suc k) h = rw pow-suc (omega (arith, values-below [] k (omega arith)))
values-below (l ∷ ls) zero h = absurd (omega arith)
values-below (l ∷ ls) (suc k) h = rw pow-suc (omega (arith, value_bits-below l, values-below ls k (omega arith)))

-- the words of the columns from one on, that column apart
pub words-step : {E : Type 0} (f : E → Level) (es : List E) (i : ℕ) (e : E) → slice_get es i ≡ Some e
    → words_of (map f (drop i es))
    ≡ record {
      asked = asked_bits (f e) + 4 * (words_of (map f (drop (suc i) es))).asked;
      values =
          value_bits (f e) + 4 * (words_of (map f (drop (suc i) es))).values;
    }
words-step f [] i e is = absurd cc
words-step f (x ∷ es) zero e is = let same : x ≡ e = cc in ap (λ y. words_of (map f (y ∷ es))) same
words-step f (x ∷ es) (suc i) e is = words-step f es i e is

-- a value that a level matches has the bits that the level asks for
bits-match : (l : Level) (t : Trit) → level_matches l t ≡ true → bit_and (value_bits (level_of t)) (asked_bits l) ≡ value_bits l
bits-match l t h = grind arith

-- an entry of any language matches only where its level matches the value after the change
abbrev pub Fits : {E : Type 0} → (E → Trit → Trit → Bool) → (E → Level) → Type 0
Fits {E} matches f = (e : E) (old new : Trit) → matches e old new ≡ true → level_matches (f e) new ≡ true

module _ {E : Type 0} (matches : E → Trit → Trit → Bool) (f : E → Level) (fits : Fits matches f) where
  columns-fit : (n : ℕ) (es : List E) (os ts : List Trit) → columns_match matches es os ts ≡ true
      → bit_and (words_of (map level_of (take n ts))).values
      (words_of (map f (take n es))).asked ≡ (words_of (map f (take n es))).values
  columns-fit zero es os ts h = refl
  columns-fit (suc n) [] [] [] h = refl
  columns-fit (suc n) [] [] (t ∷ ts) h = absurd (false≢true h)
  columns-fit (suc n) [] (o ∷ os) ts h = absurd (false≢true h)
  columns-fit (suc n) (e ∷ es) [] ts h = absurd (false≢true h)
  columns-fit (suc n) (e ∷ es) (o ∷ os) [] h = absurd (false≢true h)
  columns-fit (suc n) (e ∷ es) (o ∷ os) (t ∷ ts) h =
      let parts = and_parts (matches e o t) (columns_match matches es os ts) h in
      and-blocks 2 (value_bits (level_of t)) (asked_bits (f e)) (words_of (map level_of (take n ts))).values
      (words_of (map f (take n es))).asked
      (value_bits-below (level_of t)) (asked_bits-below (f e))
      ∙ (λ i. bits-match (f e) t (fits e o t parts.0) i + 4 * columns-fit n es os ts parts.1 i)

  -- a row that matches may match by its words
  pub columns-may_match : (es : List E) (os ts : List Trit) → columns_match matches es os ts ≡ true
      → may_match (row_words f es) (value_word ts) ≡ true
  columns-may_match es os ts h =
      eq-eqb (bit_and (value_word ts) (row_words f es).asked) (row_words f es).values (columns-fit 32 es os ts h)

  -- a row that may not match by its words does not match
  pub columns-ruled_out : (es : List E) (os ts : List Trit) → may_match (row_words f es) (value_word ts) ≡ false
      → columns_match matches es os ts ≡ false
  columns-ruled_out es os ts h =
      elim (cases_Bool (columns_match matches es os ts)) [
        | inl e ↦ absurd (false≢true (sym h ∙ columns-may_match es os ts e))
        | inr e ↦ e
      ]

-- the words of one column more
pub words-more :
    {E : Type 0} (f : E → Level) (es : List E) (left : ℕ) (e : E) (l : Level) (w x : RowWords)
    → 0 < left → slice_get es (left - 1) ≡ Some e → l ≡ f e → w ≡ words_of (map f (drop left es))
    → x ≡ record { asked = asked_bits l + 4 * w.asked; values = value_bits l + 4 * w.values }
    → x ≡ words_of (map f (drop (left - 1) es))
words-more f es left e l w x some is level_is w-is x-is =
    let next : left ≡ suc (left - 1) = omega arith in
    let words = w-is ∙ ap (λ n. words_of (map f (drop n es))) next in
    x-is
    ∙ (λ i. record {
      asked = asked_bits (level_is i) + 4 * (words i).asked;
      values =
          value_bits (level_is i) + 4 * (words i).values;
    })
    ∙ sym (words-step f es (left - 1) e is)

-- there is room for one column more
pub words-room :
    {E : Type 0} (f : E → Level) (es : List E) (left : ℕ) (w : RowWords)
    → 0 < left → length es ≤ 32 → w ≡ words_of (map f (drop left es)) → (w.asked < 2 ^ 62) × (w.values < 2 ^ 62)
words-room f es left w some short w-is =
    let few : length (map f (drop left es)) ≤ 31 = omega (arith, length-map (drop left es) f, length-drop left es) in
    let room : (v : RowWords) → Type 0 = λ v. (v.asked < 2 ^ 62) × (v.values < 2 ^ 62) in
    subst room (sym w-is) (asked-below (map f (drop left es)) 31 few, values-below (map f (drop left es)) 31 few)

-- the word of one value more
pub word-more :
    (ts : List Trit) (left : ℕ) (t : Trit) (b w : ℕ)
    → 0 < left → slice_get ts (left - 1) ≡ Some t → b ≡ value_bits (level_of t)
    → w ≡ (words_of (map level_of (drop left ts))).values
    → b + 4 * w ≡ (words_of (map level_of (drop (left - 1) ts))).values
word-more ts left t b w some is b-is w-is =
    let next : left ≡ suc (left - 1) = omega arith in
    let words = w-is ∙ ap (λ n. (words_of (map level_of (drop n ts))).values) next in
    (λ i. b-is i + 4 * words i) ∙ ap (λ (x : RowWords). x.values) (sym (words-step level_of ts (left - 1) t is))

-- there is room for one value more
pub word-room : (ts : List Trit) (left w : ℕ) → 0 < left → length ts ≤ 32
    → w ≡ (words_of (map level_of (drop left ts))).values → w < 2 ^ 62
word-room ts left w some short w-is =
    let few : length (map level_of (drop left ts)) ≤ 31 = omega (arith, length-map (drop left ts) level_of, length-drop left ts) in
    subst (λ v. v < 2 ^ 62) (sym w-is) (values-below (map level_of (drop left ts)) 31 few)
