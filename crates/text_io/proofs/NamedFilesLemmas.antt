-- The file at a place, and the first file of a name.
use Rattle.std.proofs.Common.{◌≡◌, ℕ, suc, zero, ◌<◌, true, List, [], ◌∷◌, drop, get_or, length, string_bytes, refl, sym, arith}
use Rattle.std.proofs.Common.{Option, Some}
use Rattle.std.specs.Str.{bytes_eq}
use Rattle.text_io.specs.declared.named_files.NamedFile.{NamedFile}
use Rattle.text_io.specs.Desk.{file_of}
use Rattle.text_io.specs.NamedFiles.{folder_of, file_at, rest_of}

-- the file at the head of what is left has this name
pub file_at-here : (files : List NamedFile) (name : List ℕ) (at : ℕ) (file : NamedFile) → at < length files
    → file ≡ get_or files at file
    → bytes_eq (string_bytes file.name) name ≡ true → file_at (folder_of files) at ≡ file_of (folder_of (drop at files)) name
file_at-here [] name at file h e named = absurd (omega arith)
file_at-here (first ∷ files) name zero file h e named = let same = rw e at named in rw same refl
file_at-here (first ∷ files) name (suc at) file h e named = file_at-here files name at file (omega arith) e named

-- a file that is there has bytes, which are those that come first
pub found_at : (files : List NamedFile) (file : ℕ) (found : Option (List ℕ)) → file < length files
    → file_at (folder_of files) file ≡ found
    → (bytes : List ℕ) × (found ≡ Some bytes) × (rest_of (folder_of files) (record { file = file; offset = 0 }) ≡ bytes)
found_at [] file found h e = absurd (omega arith)
found_at (first ∷ files) zero found h e = (first.bytes.items, sym e, refl)
found_at (first ∷ files) (suc file) found h e = found_at files file found (omega arith) e
