-- Words, one at a time.
use Rattle.std.proofs.Common.{◌≡◌, ℕ, zero, suc, ◌+◌, ◌≤◌, Bool, true, false, ◌&&◌, List, [], ◌∷◌, drop, length, length-drop}
use Rattle.std.proofs.Common.{nat_eq, slice_get, Option, Some, None, is_some, refl, sym, ap, ◌∙◌, arith}
use Rattle.std.proofs.Math.ListN.{drop_of_length-le}
use Rattle.std.proofs.lemmas.Bool.Decides.{nat_tests}
use Rattle.std.specs.Str.{bytes_eq}
use Rattle.text_io.specs.Plan.{is_among, is_file_word, are_file_words, are_so_many}

-- the words from one on
pub drop-word : (words : List (List ℕ)) (place : ℕ) (word : List ℕ) → slice_get words place ≡ Some word
    → drop place words ≡ word ∷ drop (place + 1) words
drop-word [] place word e = cc
drop-word (first ∷ words) zero word e = let same : first ≡ word = cc in ap (λ x. x ∷ words) same
drop-word (first ∷ words) (suc place) word e =
    let next : suc place + 1 ≡ suc (place + 1) = omega arith in
    rw next (drop-word words place word e)

-- where there is none, they end before
pub ends-before : (words : List (List ℕ)) (place : ℕ) → slice_get words place ≡ None → length words ≤ place
ends-before [] place e = omega arith
ends-before (first ∷ words) zero e = cc
ends-before (first ∷ words) (suc place) e = omega (arith, ends-before words place e)

-- what is not there
pub not_there : {T : Type 0} (o : Option T) → is_some o ≡ false → o ≡ None
not_there None e = refl
not_there (Some x) e = cc

neither : (a b : Bool) → b ≡ false → false ≡ (a && b)
neither true b e = sym e
neither false b e = refl

-- a word that can name no file beside those behind it
pub not_files : (words : List (List ℕ)) (place count : ℕ) (word : List ℕ) → slice_get words place ≡ Some word
    → is_file_word word (drop (place + 1) words) ≡ false
    → are_file_words (drop place words) ≡ are_file_words (drop 1 words) → false ≡ are_so_many (drop 1 words) count
not_files words place count word there spoilt same =
    let front = ap are_file_words (drop-word words place word there) in
    let fails : are_file_words (word ∷ drop (place + 1) words) ≡ false = rw spoilt refl in
    neither _ _ (sym same ∙ front ∙ fails)

-- one that can
pub still_files : (words : List (List ℕ)) (place : ℕ) (word : List ℕ) → slice_get words place ≡ Some word
    → is_file_word word (drop (place + 1) words) ≡ true
    → are_file_words (drop (place + 1) words) ≡ are_file_words (drop place words)
still_files words place word there fine =
    let front = ap are_file_words (drop-word words place word there) in
    let passes : are_file_words (word ∷ drop (place + 1) words) ≡ are_file_words (drop (place + 1) words) = rw fine refl in
    sym (front ∙ passes)

-- so many, all of which can
pub so_many : (words : List (List ℕ)) (place count : ℕ) → slice_get words (count + 1) ≡ None → place ≤ length words
    → count + 1 ≤ place
    → are_file_words (drop place words) ≡ are_file_words (drop 1 words) → true ≡ are_so_many (drop 1 words) count
so_many words place count none there end same =
    let size : length words ≡ count + 1 = omega (arith, ends-before words (count + 1) none) in
    let many : nat_eq (length (drop 1 words)) count ≡ true = grind (arith, nat_tests, length-drop 1 words, size) in
    let all : are_file_words (drop 1 words) ≡ true = sym same ∙ ap are_file_words (drop_of_length-le words (omega (arith, size)))
    in
    rw (many, all) refl

-- a text that is none of the words where they end
pub among-end : (words : List (List ℕ)) (place : ℕ) (text : List ℕ) → slice_get words place ≡ None
    → false ≡ is_among text (drop place words)
among-end words place text e = ap (is_among text) (sym (drop_of_length-le words (ends-before words place e)))

-- one that is the word at a place
pub among-here : (words : List (List ℕ)) (place : ℕ) (text word : List ℕ) → slice_get words place ≡ Some word
    → bytes_eq text word ≡ true
    → true ≡ is_among text (drop place words)
among-here words place text word there same =
    let here : is_among text (word ∷ drop (place + 1) words) ≡ true = rw same refl in
    sym here ∙ ap (is_among text) (sym (drop-word words place word there))

-- one that is not
pub among-later : (words : List (List ℕ)) (place : ℕ) (text word : List ℕ) → slice_get words place ≡ Some word
    → bytes_eq text word ≡ false
    → is_among text (drop (place + 1) words) ≡ is_among text (drop place words)
among-later words place text word there other =
    let later : is_among text (word ∷ drop (place + 1) words) ≡ is_among text (drop (place + 1) words) = rw other refl in
    sym later ∙ ap (is_among text) (sym (drop-word words place word there))
