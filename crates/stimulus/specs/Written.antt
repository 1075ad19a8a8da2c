-- What is written in a line of a stimulus (this project's format).
use Rattle.std.specs.Prelude.{ℕ, Bool, false, ◌==◌, List, [], ◌∷◌, codes, if◌then◌else◌}
use Rattle.std.specs.Str.{bytes_eq}
use Rattle.stimulus.specs.declared.written.Written.{Written as Line}
use Rattle.stimulus.specs.declared.written.Written.TheVariants as line
use Rattle.stimulus.specs.Text.{words_of}

-- What is written in a line: nothing, the beginning of a section, a change, or what has neither form.
pub data Written : Type 0 where
  no_words : Written
  section_line : (name : List ℕ) → Written
  change_line : (time pin value : List ℕ) → Written
  other_line : Written

-- two words: `cell` and a name begin a section
abbrev pub written_pair : List ℕ → List ℕ → Written
written_pair first name = if bytes_eq first (codes "cell") then section_line name else other_line

-- no words say nothing, and three are a change: a time, a pin and a value
abbrev pub written_words : List (List ℕ) → Written
written_words [] = no_words
written_words (first ∷ []) = other_line
written_words (first ∷ name ∷ []) = written_pair first name
written_words (time ∷ pin ∷ value ∷ []) = change_line time pin value
written_words (first ∷ second ∷ third ∷ fourth ∷ more) = other_line

-- whether the first byte of a line is `#`; a blank ahead of it is a byte
abbrev pub is_comment : List ℕ → Bool
is_comment [] = false
is_comment (byte ∷ more) = byte == 35

abbrev pub written_in : List ℕ → Written
written_in line = if is_comment line then no_words else written_words (words_of line)

-- what stands behind the references of a line that was cut into words
abbrev pub shown : Line → Written
shown line.Nothing = no_words
shown (line.Cell name) = section_line name.now
shown (line.Change time pin value) = change_line time.now pin.now value.now
shown line.Other = other_line
