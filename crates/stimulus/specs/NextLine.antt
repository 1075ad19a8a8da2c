-- The first line of a text, and what is found at the head of a text whose first line is a change (this project's format).
use Rattle.std.specs.Prelude.{◌≡◌, ℕ, ◌<◌, false, nat_le, List, [], ◌∷◌, ◌++◌, length, All, Some, Ok}
use Rattle.cell_machine.specs.declared.changes.Change.{Change}
use Rattle.stimulus.specs.declared.context.Context.{Context}
use Rattle.stimulus.specs.declared.context.Said.TheVariants.{Changes}
use Rattle.stimulus.specs.Catalog.{Listing}
use Rattle.stimulus.specs.Text.{lines_of}
use Rattle.stimulus.specs.Times.{time_of}
use Rattle.stimulus.specs.Written.{Written, is_comment, written_in}
use Rattle.stimulus.specs.LineMeanings.{line_meaning}

abbrev pub first_of : List (List ℕ) → List ℕ
first_of [] = []
first_of (line ∷ lines) = line

-- the first line of a text
unfoldable pub first_line_of : List ℕ → List ℕ
first_line_of text = first_of (lines_of text)

-- a text begins with a word, of bytes above the space, and one space behind it
pub record IsWordAhead (text word rest : List ℕ) : Type 0 where
  pub solid : All (λ (byte : ℕ). nat_le byte 32 ≡ false) word
  pub some : 0 < length word
  pub whole : text ≡ word ++ 32 ∷ rest

-- a text begins with a word that stands for this time, and one space behind it; so it does not begin as a comment
pub record IsTimeAhead (text : List ℕ) (time : ℕ) (rest : List ℕ) : Type 0 where
  pub word : List ℕ
  pub ahead : IsWordAhead text word rest
  pub is : time_of word ≡ Some time
  pub says : is_comment text ≡ false

-- a text begins with a word of one byte and a line feed behind it
pub record IsByteAhead (text word rest : List ℕ) : Type 0 where
  pub byte : ℕ
  pub solid : nat_le byte 32 ≡ false
  pub one : word ≡ byte ∷ []
  pub whole : text ≡ byte ∷ 10 ∷ rest

-- what is written in the first line of a text, and what stands behind the line
pub record IsLineAhead (text : List ℕ) (found : Written) (rest : List ℕ) : Type 0 where
  pub lines : lines_of text ≡ first_line_of text ∷ lines_of rest
  pub written : written_in (first_line_of text) ≡ found
  pub shorter : length rest < length text

-- the first line of a text says this change after lines that leave this to be known, and this stands behind the line
pub record IsChangeAhead (listing : Listing) (context : Context) (text : List ℕ) (change : Change) (rest : List ℕ) :
    Type 0 where
  pub lines : lines_of text ≡ first_line_of text ∷ lines_of rest
  pub says : line_meaning listing context (first_line_of text) ≡ Ok (Changes change)
  pub shorter : length rest < length text
