-- What is known of things that have numbers, of some of them.
use Rattle.std.specs.Prelude.{◌≡◌, ℕ, List, Option, Some, None, slice_index_or}

-- What stands at a number is known of the thing with this number.
abbrev pub AreKnown : {S : Type 0} → (ℕ → S → Type 0) → List (Option S) → Type 0
AreKnown {S = S} P known = (k : ℕ) (s : S) → slice_index_or known k None ≡ Some s → P k s
