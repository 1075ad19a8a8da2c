-- Which of the files that the words name for reading are there.
use Rattle.std.specs.Prelude.{ℕ, Bool, true, List, is_some, slice_get}
use Rattle.std.specs.Option.{option_and_then}
use Rattle.std.specs.List.{list_all}
use Rattle.text_io.specs.declared.slots.Slot.{Slot}
use Rattle.text_io.specs.declared.slots.Slot.TheVariants.{Input, Output}
use Rattle.text_io.specs.Desk.{Folder, file_of}
use Rattle.text_io.specs.Plan.{plan}

-- where the slot is for reading, the word at this place names a file of the folder
abbrev pub has_file : List (List ℕ) → Folder → Slot → ℕ → Bool
has_file words folder (Input slot) place = is_some (option_and_then (file_of folder) (slice_get words place))
has_file words folder (Output slot) place = true

-- every file that the plan of these words has for reading is in the folder
abbrev pub inputs_found : List (List ℕ) → Folder → Bool
inputs_found words folder = list_all (λ planned. has_file words folder planned.0 planned.1) (plan words)
