-- Where the first fault of a library text stands, told by the bytes alone (Liberty Reference Manual, general syntax of a library
-- file).
use Rattle.std.specs.Prelude.{◌≡◌, ◌⊎◌, ℕ, true, List, ◌∷◌, ◌++◌, take, length}
use Rattle.liberty_text.specs.declared.token.Token.{Token}
use Rattle.liberty_text.specs.Scanner.{scan_of}
use Rattle.liberty_text.specs.Tokens.{ends_word}
use Rattle.liberty_groups.specs.declared.fault.LibraryFault.{LibraryFault}
use Rattle.liberty_groups.specs.declared.fault.LibraryFault.TheVariants.{BadByte, OpenText, OpenComment, Syntax, TooDeep}
use Rattle.liberty_groups.specs.declared.fault.LibraryFault.TheVariants.{NotLibrary}
use Rattle.liberty_groups.specs.declared.read.End.TheVariants.{Fault}
use Rattle.liberty_groups.specs.Library.{is_word}
use Rattle.liberty_groups.specs.Answer.{IsLibraryText, IsFrontOfText, end_of_bytes}

-- a token ends before these bytes: a Word only where no Word goes on with them
abbrev pub EndsBefore : Token → List ℕ → Type 0
EndsBefore t y = is_word t.kind ≡ true → ends_word y ≡ true

-- A token of the bytes stands at this offset, and no library text begins with the bytes up to its end, where it ends there.
abbrev pub Misfits : List ℕ → ℕ → Type 0
Misfits bytes at =
    (before : List Token) × (t : Token) × (behind : List Token) × ((scan_of bytes).0 ≡ before ++ t ∷ behind) × (t.at ≡ at)
    × ((y : List ℕ) → EndsBefore t y → IsLibraryText (take t.end bytes ++ y) → ⊥)

-- some library text begins with the bytes before this offset, and none goes on with the token there, or the bytes end there
abbrev pub IsFirstMisfit : List ℕ → ℕ → Type 0
IsFirstMisfit bytes at = IsFrontOfText (take at bytes) × ((at ≡ length bytes) ⊎ Misfits bytes at)

-- A fault of the grammar is at the first misfit. The others tell themselves which byte, text or comment they mean.
abbrev pub IsAtFirstMisfit : List ℕ → LibraryFault → Type 0
IsAtFirstMisfit bytes (BadByte at) = Unit {0}
IsAtFirstMisfit bytes (OpenText at) = Unit {0}
IsAtFirstMisfit bytes (OpenComment at) = Unit {0}
IsAtFirstMisfit bytes (Syntax at expected) = IsFirstMisfit bytes at
IsAtFirstMisfit bytes (TooDeep at) = IsFirstMisfit bytes at
IsAtFirstMisfit bytes (NotLibrary at) = IsFirstMisfit bytes at

-- the fault with which a whole text ends
abbrev pub FaultsAreFirst : List ℕ → Type 0
FaultsAreFirst bytes = (f : LibraryFault) → end_of_bytes bytes true ≡ Fault f → IsAtFirstMisfit bytes f
