-- The texts of a statement for one position: each name of a vector becomes its member. (Liberty Reference Manual, `bus` and
-- `ff_bank` groups; the spelling of members, and what becomes of a name that has no member there, are this project's rules.)
use Rattle.std.specs.Prelude.{ℕ, ◌+◌, Bool, true, false, ◌==◌, List, [], ◌∷◌, ◌++◌, flat_map, slice_get}
use Rattle.std.specs.Prelude.{Option, Some, None, is_some, option_and_then, if◌then◌else◌}
use Rattle.std.specs.List.{list_any}
use Rattle.bus_texts.specs.declared.vectors.Vector.{Vector}
use Rattle.bus_texts.specs.declared.rewriting.Replacement.{Replacement as HeldReplacement}
use Rattle.bus_texts.specs.declared.rewriting.Replacement.TheVariants as held
use Rattle.bus_texts.specs.Vectors.{vector_named}
use Rattle.bus_texts.specs.Parts.{Part, parts_of, is_identifier}

-- the position of a bit among those from a position on
abbrev pub bit_place : ℕ → ℕ → List ℕ → Option ℕ
bit_place bit at [] = None
bit_place bit at (other ∷ bits) = if other == bit then Some at else bit_place bit (at + 1) bits

-- The member that a name stands for at a position, or that of the bit that is written behind it.
abbrev pub member_of : Vector → ℕ → Option ℕ → Option (List ℕ)
member_of vector at None = slice_get vector.members at
member_of vector at (Some bit) = option_and_then (λ i. slice_get vector.members i) (bit_place bit 0 vector.bits)

-- What becomes of a part of a text: it stays, it becomes a member, or there is none that a function text can name.
pub data Replacement : Type 0 where
  Stays : Replacement
  Becomes : List ℕ → Replacement
  Missing : Replacement

abbrev pub shown_replacement : HeldReplacement → Replacement
shown_replacement held.Stays = Stays
shown_replacement (held.Becomes member) = Becomes member.now
shown_replacement held.Missing = Missing

abbrev pub becomes : Option (List ℕ) → Replacement
becomes None = Missing
becomes (Some member) = if is_identifier member then Becomes member else Missing

abbrev pub replaced_by : ℕ → Option ℕ → Option Vector → Replacement
replaced_by at bit None = Stays
replaced_by at bit (Some vector) = becomes (member_of vector at bit)

abbrev pub replacement_for : List Vector → ℕ → Part → Replacement
replacement_for vectors at part = replaced_by at part.bit (vector_named vectors part.name)

-- A member is kept apart from a letter, a digit or `_` behind it.
abbrev pub spelled : Part → Replacement → List ℕ
spelled part Stays = part.written
spelled part (Becomes member) = if part.followed then member ++ 32 ∷ [] else member
spelled part Missing = part.written

abbrev pub is_missing : Replacement → Bool
is_missing Stays = false
is_missing (Becomes member) = false
is_missing Missing = true

-- a text for one position
abbrev pub rewritten_part : List Vector → ℕ → Part → List ℕ
rewritten_part vectors at part = spelled part (replacement_for vectors at part)

abbrev pub rewritten : List Vector → ℕ → List ℕ → List ℕ
rewritten vectors at text = flat_map (rewritten_part vectors at) (parts_of text)

-- A text for one position has a name that stands for nothing there.
abbrev pub part_misses : List Vector → ℕ → Part → Bool
part_misses vectors at part = is_missing (replacement_for vectors at part)

abbrev pub is_misplaced : List Vector → ℕ → List ℕ → Bool
is_misplaced vectors at text = list_any (part_misses vectors at) (parts_of text)

-- A text for all positions at once has the name of a vector.
abbrev pub is_vector : List Vector → Part → Bool
is_vector vectors part = is_some (vector_named vectors part.name)

abbrev pub names_vector : List Vector → List ℕ → Bool
names_vector vectors text = list_any (is_vector vectors) (parts_of text)

-- a text as it becomes at a place, and whether it cannot
abbrev pub text_for : List Vector → Option ℕ → List ℕ → List ℕ
text_for vectors None text = text
text_for vectors (Some at) text = rewritten vectors at text

abbrev pub text_fails : List Vector → Option ℕ → List ℕ → Bool
text_fails vectors None text = names_vector vectors text
text_fails vectors (Some at) text = is_misplaced vectors at text
