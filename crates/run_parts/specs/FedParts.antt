-- The parts of a model that its inputs feed, by what each part reads.
use Rattle.std.specs.Prelude.{ℕ, Bool, false, List, Option, Some, None, nat_eq}
use Rattle.std.specs.List.{list_any}
use Rattle.run_parts.specs.Places.{places_from}

-- whether this is the input with this number
abbrev pub is_number : ℕ → Option ℕ → Bool
is_number n (Some m) = nat_eq m n
is_number n None = false

-- whether the input with a number is one of these nets, by the input that each net is
abbrev pub is_among : {N : Type 0} → (N → Option ℕ) → List N → ℕ → Bool
is_among input nets n = list_any (λ net. is_number n (input net)) nets

-- the places of the parts that the input with a number feeds
abbrev pub places_fed : {P N : Type 0} → (P → List N) → (N → Option ℕ) → List P → ℕ → List ℕ
places_fed nets input parts n = places_from (λ part. is_among input (nets part) n) 0 parts
