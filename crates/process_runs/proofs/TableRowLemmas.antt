-- What is known of the rows of a table, as its look-ups ask for it.
use Rattle.std.proofs.Common.{◌≡◌, ℕ, List, map, ap, sym, subst, ◌∙◌, Some, slice_get}
use Rattle.std.specs.Prelude.{option_map}
use Rattle.std.proofs.lemmas.Option.{slice_get-map}
use Rattle.udp_tables.specs.declared.row_words.RowWords.{RowWords}
use Rattle.udp_tables.specs.Tables.{AreKept}
use Rattle.udp_tables.proofs.RowKeyLemmas.{all_kept}

-- words of rows are kept for them
pub words-are : {R : Type 0} (word : R → RowWords) (rows : List R) (words : List RowWords)
    → words ≡ map word rows → AreKept word words rows
words-are word rows words are = subst (λ ws. AreKept word ws rows) (sym are) (all_kept word rows)

-- what is known of one part among what is known of all
pub row-at : {T R : Type 0} (f : T → R) (parts : List T) (all : List R) (i : ℕ) (part : T) (found : R)
    → all ≡ map f parts → slice_get all i ≡ Some found → slice_get parts i ≡ Some part → found ≡ f part
row-at {R = R} f parts all i part found are there is =
    let same : Some found ≡ Some (f part)
    = sym there ∙ ap (λ (xs : List R). slice_get xs i) are ∙ slice_get-map f parts i ∙ ap (option_map f) is in
    cc
