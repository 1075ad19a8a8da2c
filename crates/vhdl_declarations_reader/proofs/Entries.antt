-- The first entries of a row.
use Rattle.std.proofs.Common.{◌≡◌, ℕ, ◌≤◌, List, [], ◌∷◌, ◌++◌, length, take, sym, ap, ◌∙◌}
use Rattle.std.proofs.lemmas.List.{take-append-le}

-- the first n are the same where the last one goes, which is none of them
pub without_last : {A : Type 0} (n : ℕ) (xs new : List A) (last : A) → xs ≡ new ++ last ∷ [] → n ≤ length new
    → take n new ≡ take n xs
without_last n xs new last e h = sym (ap (take n) e ∙ take-append-le n new (last ∷ []) h)
