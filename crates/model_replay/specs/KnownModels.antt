-- What is known of the models of a file before any change, of some of them.
use Rattle.std.specs.Prelude.{◌≡◌, ℕ, List, Option, Some, slice_get}
use Rattle.model_files.specs.Known.{AreKnown}

-- this is known of the model with this number
abbrev pub IsStartAt : {M S : Type 0} → (M → S → Type 0) → List M → ℕ → S → Type 0
IsStartAt {M = M} is_start models k s = (m : M) → slice_get models k ≡ Some m → is_start m s

-- what stands at a number is known of the model with this number
abbrev pub AreStarts : {M S : Type 0} → (M → S → Type 0) → List M → List (Option S) → Type 0
AreStarts is_start models known = AreKnown (IsStartAt is_start models) known
