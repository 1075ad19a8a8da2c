-- The values of a function at many points at once, as the bits of a word.
use Rattle.std.specs.Prelude.{ℕ, ◌-◌, ◌/◌, ◌%◌, ◌==◌, zero, suc, bit_and, bit_or, bit_xor, Bool, List, [], ◌∷◌, map}
use Rattle.std.specs.Prelude.{if◌then◌else◌}
use Rattle.std.specs.List.{range_with_len}
use Rattle.bool_functions.specs.declared.tree.Node.{Node}
use Rattle.bool_functions.specs.declared.tree.Node.TheOpen.{Node-F}
use Rattle.bool_functions.specs.declared.tree.Node.TheFolds.{fold-Node}
use Rattle.bool_functions.specs.declared.blocks.NameWord.{NameWord}
use Rattle.bool_functions.specs.Point.{number, entry_of}

-- the word in which every bit is 1
abbrev pub ones : ℕ
ones = 18446744073709551615

-- one operator, bit by bit, with the word of each part in its place
abbrev pub word_step : (ℕ → ℕ) → Node-F ℕ → ℕ
word_step given Node-F.Zero = 0
word_step given Node-F.One = ones
word_step given (Node-F.Name i) = given i
word_step given (Node-F.Not f) = ones - f
word_step given (Node-F.Xor f g) = bit_xor f g
word_step given (Node-F.And f g) = bit_and f g
word_step given (Node-F.Or f g) = bit_or f g

-- the word of a tree where each name has the word that is given for its number
abbrev pub word_by : (ℕ → ℕ) → Node → ℕ
word_by given = fold-Node ℕ (word_step given)

-- the word of a name among some names with their words, 0 where it is none of them
abbrev pub word_at : List NameWord → ℕ → ℕ
word_at [] i = 0
word_at (w ∷ ws) i = if w.name == i then w.word else word_at ws i

-- the word of what is so at some points, the first at weight 1
abbrev pub word_of : (ℕ → Bool) → List ℕ → ℕ
word_of f points = number (map f points)

-- the values of a name at the 64 points from here on
abbrev pub name_word : List ℕ → ℕ → ℕ → ℕ
name_word places start i = word_of (λ k. entry_of places k i) (range_with_len start 64)

abbrev pub named : List ℕ → ℕ → ℕ → NameWord
named places start i = record { name = i; word = name_word places start i }

-- the first bits of a word, from weight 1 on
abbrev pub bits_of : ℕ → ℕ → List Bool
bits_of zero word = []
bits_of (suc n) word = (word % 2 == 1) ∷ bits_of n (word / 2)
