-- Files in memory, as a folder, and what is left of one.
use Rattle.std.specs.Prelude.{ℕ, List, [], map, drop, Option, unwrap_or, string_bytes, slice_get}
use Rattle.std.specs.Option.{option_map}
use Rattle.text_io.specs.declared.named_files.NamedFile.{NamedFile}
use Rattle.text_io.specs.declared.named_files.Place.{Place}
use Rattle.text_io.specs.Desk.{Folder}

-- a file's name and its bytes
abbrev pub name_and_bytes : NamedFile → List ℕ × List ℕ
name_and_bytes file = (string_bytes file.name, file.bytes.items)

-- the files, each as its name and its bytes
abbrev pub folder_of : List NamedFile → Folder
folder_of files = map name_and_bytes files

-- the bytes of the file at this place of the folder
abbrev pub file_at : Folder → ℕ → Option (List ℕ)
file_at folder at = option_map (λ file. file.1) (slice_get folder at)

-- the bytes that come next at a place: none where there is no file
abbrev pub rest_of : Folder → Place → List ℕ
rest_of folder place = drop place.offset (unwrap_or (file_at folder place.file) [])
