-- Values that are found anew at some places.
use Rattle.std.specs.Prelude.{◌≡◌, ℕ, Bool, false, List, map, Some, slice_get}
pub use Rattle.cell_machine.specs.Places.{places_from}

-- Values of entries are found anew at the places of those that pass a test: where all others stayed, these are the values of all.
abbrev pub FindsAnew : {X S : Type 0} → (X → S) → List X → List ℕ → List S → List S → Type 0
FindsAnew {X} {S} now xs places old new =
    (before : X → S) (test : X → Bool)
    → places ≡ places_from test 0 xs → old ≡ map before xs
    → ((i : ℕ) (x : X) → slice_get xs i ≡ Some x → test x ≡ false → before x ≡ now x)
    → new ≡ map now xs
