-- The keys of the first rows of a table.
use Rattle.std.proofs.Common.{◌≡◌, ℕ, zero, suc, List, [], ◌∷◌, map, take, Some, slice_get, sym, ap, ◌∙◌}
use Rattle.udp_tables.specs.Tables.{AreKept}

key-at :
    {R K : Type 0} (key : R → K) (n : ℕ) (rows : List R) (i : ℕ) (k : K) (row : R)
    → slice_get (map key (take n rows)) i ≡ Some k → slice_get rows i ≡ Some row → k ≡ key row
key-at key zero rows i k row h e = absurd cc
key-at key (suc n) [] i k row h e = absurd cc
key-at key (suc n) (r ∷ rows) zero k row h e = let same : r ≡ row = cc in let given : key r ≡ k = cc in sym given ∙ ap key same
key-at key (suc n) (r ∷ rows) (suc i) k row h e = key-at key n rows i k row h e

pub first_kept : {R K : Type 0} (key : R → K) (n : ℕ) (rows : List R) → AreKept key (map key (take n rows)) rows
first_kept key n rows = record { each_is = λ i k row h e. key-at key n rows i k row h e }
