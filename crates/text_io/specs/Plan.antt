-- The plan of words: which of them name files, and the slot of each. This project's rule.
use Rattle.std.specs.Prelude.{ℕ, ◌+◌, Bool, true, ◌&&◌, not, List, [], ◌∷◌, length, nat_eq, Option, Some, None, if◌then◌else◌}
use Rattle.std.specs.List.{list_any}
use Rattle.std.specs.Str.{bytes_eq}
use Rattle.text_io.specs.declared.file_commands.FileCommand.{FileCommand}
use Rattle.text_io.specs.declared.slots.Slot.{Slot}
use Rattle.text_io.specs.FileCommands.{command_of, slots_of}

-- the text is among these
abbrev pub is_among : List ℕ → List (List ℕ) → Bool
is_among word words = list_any (bytes_eq word) words

-- a word that can name a file beside those that these words name: it is not empty, and equal to none of them as a text
abbrev pub is_file_word : List ℕ → List (List ℕ) → Bool
is_file_word word words = not (bytes_eq word []) && not (is_among word words)

-- words that can name files side by side
abbrev pub are_file_words : List (List ℕ) → Bool
are_file_words [] = true
are_file_words (word ∷ words) = is_file_word word words && are_file_words words

-- so many words, which can name files side by side
abbrev pub are_so_many : List (List ℕ) → ℕ → Bool
are_so_many words count = nat_eq (length words) count && are_file_words words

-- the command, where there is one and the words name its files
abbrev pub with_files : Option FileCommand → List (List ℕ) → Option FileCommand
with_files None files = None
with_files (Some command) files = if are_so_many files (length (slots_of command)) then Some command else None

-- The command of files that words ask for: the first is its word, and exactly as many follow as it has files, none empty and no
-- two equal.
abbrev pub asked_files : List (List ℕ) → Option FileCommand
asked_files [] = None
asked_files (word ∷ files) = with_files (command_of word) files

-- the slots of the command's files, none where there is no command
abbrev pub planned_slots : Option FileCommand → List Slot
planned_slots None = []
planned_slots (Some command) = slots_of command

-- slots with their words' places, which count on from this one
abbrev pub placed : ℕ → List Slot → List (Slot × ℕ)
placed place [] = []
placed place (slot ∷ slots) = (slot, place) ∷ placed (place + 1) slots

-- the files that a command has for these words to name: each slot with the place, from 0, of the word that names its file
abbrev pub planned_files : Option FileCommand → List (Slot × ℕ)
planned_files asked = placed 1 (planned_slots asked)

-- the files that these words bind; none where they ask for no command of files
abbrev pub plan : List (List ℕ) → List (Slot × ℕ)
plan words = planned_files (asked_files words)
