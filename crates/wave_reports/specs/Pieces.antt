-- A text that is cut at bytes of a kind.
use Rattle.std.specs.Prelude.{ℕ, ◌==◌, List, [], ◌∷◌, Option, Some, None, if◌then◌else◌}
use Rattle.std.specs.List.{slice_split}

-- the pieces of a text between the bytes of a kind
abbrev pub pieces : ℕ → List ℕ → List (List ℕ)
pieces at text = slice_split (λ b. b == at) text

-- the pieces of what is left of a text, none where nothing is
abbrev pub pieces_left : ℕ → Option (List ℕ) → List (List ℕ)
pieces_left at None = []
pieces_left at (Some rest) = pieces at rest

-- one byte more ahead of a text that was cut
abbrev pub cut_step : ℕ → ℕ → Option (List ℕ) → List ℕ → Option (List ℕ) × List ℕ
cut_step at b (Some front) back = (Some (b ∷ front), back)
cut_step at b None back = if b == at then (Some [], back) else (None, b ∷ back)

-- what stands ahead of the last byte of a kind, where there is one, and what stands behind it
unfoldable pub cut_last : ℕ → List ℕ → Option (List ℕ) × List ℕ
cut_last at [] = (None, [])
cut_last at (b ∷ bytes) =
    let later = cut_last at bytes in
    cut_step at b later.0 later.1
