-- Names that are a word with a number behind it.
use Rattle.std.proofs.Common.{◌≡◌, ℕ, zero, suc, ◌^◌, ◌<◌, ◌≤◌, Bool, true, false, not, ◌&&◌, ◌||◌, ◌==◌, IsTrue, List, [], ◌∷◌}
use Rattle.std.proofs.Common.{◌++◌, length, inl, inr, refl, sym, ap, ◌∙◌, subst, arith, codes, decimal}
use Rattle.std.specs.Char.{is_ascii_digit, is_ascii_alphabetic, is_ascii_uppercase, is_ascii_lowercase}
use Rattle.std.specs.List.{list_any, list_all}
use Rattle.std.specs.Str.{bytes_eq}
use Rattle.std.specs.Str.Parse.{AllDigits}
use Rattle.std.proofs.lemmas.Bool.{and_parts, and_from, le-leb, or_from as neither}
use Rattle.std.proofs.lemmas.Fmt.{decimal_is_IsNumeral, decimal_injective}
use Rattle.std.proofs.lemmas.List.{append_cancel_left}
use Rattle.std.proofs.lemmas.List.Folds.{list_any-append, list_all-append}
use Rattle.std.proofs.lemmas.Slice.Eq.{bytes_eq-Decides}
use Rattle.std.proofs.lemmas.Str.Parse.{digit_from_value}
use Rattle.trit_cubes.proofs.ListLemmas.{Among, among-append}
use Rattle.udp_tables.proofs.FirstLemmas.{any-found}
use Rattle.verilog_tokens.specs.Numbers.{is_number}
use Rattle.verilog_tokens.specs.Words.{verilog_words, is_verilog_word}
use Rattle.verilog_tokens.specs.Kept.{is_name_byte, is_identifier}
use Rattle.verilog_grammar.specs.specify_blocks.Names.{numbered}
use Rattle.verilog_grammar.specs.WellFormed.{IsName}
use Rattle.verilog_grammar.proofs.ReadNames.{AreNames, no_names, push_name}
use Rattle.generated_modules.proofs.NameLists.{unlike, all_weaker}

-- the digits of a number

digit_is : (d : ℕ) → 48 ≤ d → d ≤ 57 → IsTrue (is_ascii_digit d)
digit_is d low high = and_from _ _ (le-leb 48 d low) (le-leb d 57 high)

all_digits : (ds : List ℕ) → AllDigits 10 ds → IsTrue (list_all is_ascii_digit ds)
all_digits [] h = refl
all_digits (d ∷ ds) h =
    let bounds = digit_from_value d h.0 in
    and_from (is_ascii_digit d) (list_all is_ascii_digit ds) (digit_is d (omega (arith, bounds)) (omega (arith, bounds)))
    (all_digits ds h.1)

some_digits : (ds : List ℕ) → 0 < length ds → IsTrue (list_all is_ascii_digit ds) → IsTrue (is_number ds)
some_digits [] h k = absurd (omega arith)
some_digits (d ∷ ds) h k = k

pub decimal_digits : (n : ℕ) → n < 2 ^ 64 → IsTrue (is_number (decimal n))
decimal_digits n h =
    let numeral = (decimal_is_IsNumeral n h).0 in
    some_digits (decimal n) numeral.0 (all_digits (decimal n) numeral.1)

pub number_digits : (ds : List ℕ) → IsTrue (is_number ds) → IsTrue (list_all is_ascii_digit ds)
number_digits [] h = absurd cc
number_digits (d ∷ ds) h = h

digit_in_name : (d : ℕ) → IsTrue (is_ascii_digit d) → IsTrue (is_name_byte d)
digit_in_name d h = by (is_ascii_digit d) (is_ascii_uppercase d) (is_ascii_lowercase d) h
  where
    by : (b upper lower : Bool) → IsTrue b → IsTrue (((b || upper) || lower) || d == 95)
    by true upper lower h = refl
    by false upper lower h = absurd cc

pub number_in_name : (ds : List ℕ) → IsTrue (is_number ds) → IsTrue (list_all is_name_byte ds)
number_in_name ds h = all_weaker is_ascii_digit is_name_byte digit_in_name ds (number_digits ds h)

-- words

-- what all words of Verilog pass, each does
pub word_passes : (t : List ℕ → Bool) → IsTrue (list_all t verilog_words) → (x : List ℕ) → is_verilog_word x ≡ true → t x ≡ true
unfolding is_verilog_word
word_passes t h x e =
    let found = any-found (bytes_eq x) verilog_words e in
    let same : x ≡ found.0 = (bytes_eq-Decides x found.0).0 found.2 in
    subst (λ y. t y ≡ true) (sym same) (at verilog_words h found.0 found.1)
  where
    at : (ws : List (List ℕ)) → IsTrue (list_all t ws) → (w : List ℕ) → Among w ws → t w ≡ true
    at [] h w m = absurd m
    at (v ∷ ws) h w (inl e) = subst (λ y. t y ≡ true) e (and_parts (t v) (list_all t ws) h).0
    at (v ∷ ws) h w (inr m) = at ws (and_parts (t v) (list_all t ws) h).1 w m

-- the front of names: with a number behind it, it is an identifier and no word
pub record IsStem (word : List ℕ) : Type 0 where
  pub identifier : IsTrue (is_identifier word)
  pub no_word : (ds : List ℕ) → IsTrue (is_number ds) → is_verilog_word (word ++ ds) ≡ false

identifier_more : (word ds : List ℕ) → IsTrue (is_identifier word) → IsTrue (list_all is_name_byte ds)
    → IsTrue (is_identifier (word ++ ds))
identifier_more [] ds h k = absurd cc
identifier_more (b ∷ bs) ds h k =
    let parts = and_parts (is_ascii_alphabetic b || b == 95) (list_all is_name_byte bs) h in
    and_from (is_ascii_alphabetic b || b == 95) (list_all is_name_byte (bs ++ ds)) parts.0
    (list_all-append is_name_byte bs ds ∙ and_from (list_all is_name_byte bs) (list_all is_name_byte ds) parts.1 k)

pub stem_name : (word : List ℕ) → IsStem word → (ds : List ℕ) → IsTrue (is_number ds) → IsName (word ++ ds)
stem_name word h ds k = record {
  identifier = identifier_more word ds h.identifier (number_in_name ds k);
  no_word = ap not (h.no_word ds k);
}

pub lib_stem : (rest : List ℕ) → IsTrue (list_all is_name_byte rest) → IsStem (codes "lib_" ++ rest)
unfolding is_verilog_word verilog_words
lib_stem rest h = record { identifier = h; no_word = λ ds k. refl }

pub pin_stem : IsStem (codes "pin")
unfolding is_verilog_word verilog_words
pin_stem = record { identifier = refl; no_word = λ ds k. refl }

pub cell_stem : IsStem (codes "cell")
unfolding is_verilog_word verilog_words
cell_stem = record { identifier = refl; no_word = more }
  where
    more : (ds : List ℕ) → IsTrue (is_number ds) → is_verilog_word (codes "cell" ++ ds) ≡ false
    more [] k = absurd cc
    more (d ∷ ds) k = refl

-- the second byte of a word is no digit where the first is the letter of inputs
abbrev is_no_input : List ℕ → Bool
is_no_input [] = true
is_no_input (a ∷ []) = true
is_no_input (a ∷ b ∷ rest) = not (a == 105 && is_ascii_digit b)

words_are_no_inputs : IsTrue (list_all is_no_input verilog_words)
unfolding verilog_words
words_are_no_inputs = refl

pub input_stem : IsStem (codes "i")
input_stem = record { identifier = refl; no_word = more }
  where
    more : (ds : List ℕ) → IsTrue (is_number ds) → is_verilog_word (codes "i" ++ ds) ≡ false
    more [] k = absurd cc
    more (d ∷ ds) k =
        let digit = (and_parts (is_ascii_digit d) (list_all is_ascii_digit ds) k).0 in
        by (is_verilog_word (105 ∷ d ∷ ds)) refl digit
      where
        by : (b : Bool) → is_verilog_word (105 ∷ d ∷ ds) ≡ b → IsTrue (is_ascii_digit d) → b ≡ false
        by false e digit = refl
        by true e digit =
            let passed = word_passes is_no_input words_are_no_inputs (105 ∷ d ∷ ds) e in
            let bad : false ≡ true = sym (ap not digit) ∙ passed in
            absurd cc

-- numbered names

pub numbers_apart : (word : List ℕ) (m n : ℕ) → m < 2 ^ 64 → n < 2 ^ 64 → (m ≡ n → ⊥)
    → bytes_eq (word ++ decimal m) (word ++ decimal n) ≡ false
numbers_apart word m n h k apart =
    unlike (word ++ decimal m) (word ++ decimal n)
    (λ e. apart (decimal_injective m n h k (append_cancel_left word (decimal m) (decimal n) e)))

absent : (word : List ℕ) (n m : ℕ) → n < m → m < 2 ^ 64 → list_any (bytes_eq (word ++ decimal m)) (numbered word n) ≡ false
absent word zero m h k = refl
absent word (suc n) m h k =
    let x : List ℕ = word ++ decimal m in
    let last : List ℕ = word ++ decimal (suc n) in
    list_any-append (bytes_eq x) (numbered word n) (last ∷ [])
    ∙ neither (list_any (bytes_eq x) (numbered word n)) (bytes_eq x last || false) (absent word n m (omega arith) k)
    (neither (bytes_eq x last) false (numbers_apart word m (suc n) k (omega arith) (λ e. omega (arith, e, h))) refl)

-- numbered names are names of which none stands twice
pub numbered_names : (word : List ℕ) → IsStem word → (n : ℕ) → n < 2 ^ 64 → AreNames (numbered word n)
numbered_names word h zero k = no_names
numbered_names word h (suc n) k =
    push_name (numbered word n) (word ++ decimal (suc n)) (numbered_names word h n (omega arith))
    (record {
      name = stem_name word h (decimal (suc n)) (decimal_digits (suc n) k);
      new = absent word n (suc n) (omega arith) k;
    })

-- each is the word and a number
pub numbered_form : (word : List ℕ) (n : ℕ) (x : List ℕ) → Among x (numbered word n) → (k : ℕ) × (0 < k) × (k ≤ n)
    × (x ≡ word ++ decimal k)
numbered_form word zero x m = absurd m
numbered_form word (suc n) x m =
    elim (among-append x (numbered word n) ((word ++ decimal (suc n)) ∷ []) m) [
      | inl earlier ↦
          let form = numbered_form word n x earlier in
          (form.0, form.1, omega (arith, form.2), form.3)
      | inr last ↦ elim last [ inl e ↦ (suc n, omega arith, omega arith, sym e) | inr none ↦ absurd none ]
    ]
