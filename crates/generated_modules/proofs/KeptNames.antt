-- Names that a test keeps, of names that are distinct.
use Rattle.std.proofs.Common.{◌≡◌, ℕ, Bool, true, false, cond, List, [], ◌∷◌, sym, ap, ◌∙◌, subst, nat_eq}
use Rattle.std.specs.Prelude.{All}
use Rattle.std.specs.List.{IsDistinct, filter}
use Rattle.std.specs.Str.{bytes_eq}
use Rattle.std.proofs.lemmas.Bool.{true≢false}
use Rattle.std.proofs.lemmas.Map.Keys.{IsDistinct-cons, IsDistinct-head, IsDistinct-tail}
use Rattle.std.proofs.lemmas.Slice.Eq.{bytes_eq-Decides}
use Rattle.trit_cubes.proofs.ListLemmas.{Among, among-filter, filter-among}
use Rattle.verilog_tokens.specs.Kept.{is_kept_cell_name}
use Rattle.cell_machine.specs.CellData.{CellData}
use Rattle.generated_modules.specs.Cells.{IsNumberedCell, names_of_cells, numbers_of_cells, AreCellsOfOneLibrary}
use Rattle.generated_modules.proofs.NameLists.{each_among, at_among}

-- Of distinct things those that a test keeps are distinct.
pub kept_distinct : {X : Type 0} (same : X → X → Bool) (p : X → Bool) (xs : List X) → IsDistinct same xs
    → IsDistinct same (filter p xs)
kept_distinct same p [] h = h
kept_distinct same p (x ∷ xs) h = by (p x) (kept_distinct same p xs (IsDistinct-tail same x xs h))
  where
    by : (b : Bool) → IsDistinct same (filter p xs) → IsDistinct same (cond b (x ∷ filter p xs) (filter p xs))
    by true rest =
        IsDistinct-cons same x (filter p xs)
        (each_among (λ y. same x y ≡ false) (filter p xs)
        (λ y m. at_among (λ z. same x z ≡ false) y xs (IsDistinct-head same x xs h) (among-filter p y xs m).0))
        rest
    by false rest = rest

pub kept_tail : {X : Type 0} (same : X → X → Bool) (p : X → Bool) (x : X) (xs : List X) → IsDistinct same (filter p (x ∷ xs))
    → IsDistinct same (filter p xs)
kept_tail same p x xs h = by (p x) h
  where
    by : (b : Bool) → IsDistinct same (cond b (x ∷ filter p xs) (filter p xs)) → IsDistinct same (filter p xs)
    by true h = IsDistinct-tail same x (filter p xs) h
    by false h = h

-- A name that is kept is none of those behind it, where those that are kept are distinct.
pub kept_apart : (p : List ℕ → Bool) (x y : List ℕ) (xs : List (List ℕ)) → IsDistinct bytes_eq (filter p (x ∷ xs)) → Among y xs
    → p x ≡ true → x ≡ y → ⊥
kept_apart p x y xs h m e same =
    let distinct : IsDistinct bytes_eq (x ∷ filter p xs) =
    subst (λ b. IsDistinct bytes_eq (cond b (x ∷ filter p xs) (filter p xs))) e h in
    let found : Among y (filter p xs) = filter-among p y xs m (sym (ap p same) ∙ e) in
    true≢false
    (sym ((bytes_eq-Decides x y).1 same)
    ∙ at_among (λ z. bytes_eq x z ≡ false) y (filter p xs) (IsDistinct-head bytes_eq x (filter p xs) distinct) found)

-- Cells of which no two have one name or one number are cells of one library.
pub with_distinct_names :
    (cells : List CellData) → All IsNumberedCell cells → IsDistinct bytes_eq (names_of_cells cells)
    → IsDistinct nat_eq (numbers_of_cells cells)
    → AreCellsOfOneLibrary cells
with_distinct_names cells numbered names numbers =
    record {
      numbered = numbered;
      names = kept_distinct bytes_eq is_kept_cell_name (names_of_cells cells) names;
      numbers =
          numbers;
    }
