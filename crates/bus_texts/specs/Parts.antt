-- The names in a text over vectors, each with the bit that is written behind it, and what stands between them.
use Rattle.std.specs.Prelude.{ℕ, zero, suc, ◌+◌, ◌-◌, Bool, false, not, ◌&&◌, ◌==◌, nat_lt, List, [], ◌∷◌, length, take, drop}
use Rattle.std.specs.Prelude.{slice_index}
use Rattle.std.specs.Prelude.{Option, Some, None, if◌then◌else◌}
use Rattle.std.specs.List.{prefix_len, list_all}
use Rattle.std.specs.Char.{is_ascii_digit}
use Rattle.bool_functions.specs.Token.{is_word_byte, begins_word}
use Rattle.bus_texts.specs.declared.parts.Part.{Part as HeldPart}
use Rattle.bus_texts.specs.Numbers.{digits_number}

-- A part of a text as it is written: a name with its bit, where one is written, or what is none.
pub record Part : Type 0 where
  pub written : List ℕ
  -- the name, empty where the part is none
  pub name : List ℕ
  pub bit : Option ℕ
  -- whether a letter, a digit or `_` stands behind it
  pub followed : Bool

-- what stands behind the references that the program holds
abbrev pub shown : HeldPart → Part
shown part = record { written = part.written.now; name = part.name.now; bit = part.bit; followed = part.followed }

-- a name begins with a letter or `_`
abbrev pub begins_name : ℕ → Bool
begins_name byte = is_word_byte byte && not (is_ascii_digit byte)

abbrev pub is_word : List ℕ → Bool
is_word text = list_all is_word_byte text

-- name = (letter | "_") { letter | digit | "_" } (Liberty Reference Manual, the names of pins in `function`)
abbrev pub is_identifier : List ℕ → Bool
is_identifier [] = false
is_identifier (b ∷ s) = begins_name b && is_word s

-- The digits of a bit in brackets, where one stands at the front.
abbrev pub closed_digits : List ℕ → ℕ → Option (List ℕ)
closed_digits text count =
    if nat_lt 0 count && (nat_lt count (length text) && slice_index text count == 93) then Some (take count text) else None

abbrev pub digits_in_front : List ℕ → Option (List ℕ)
digits_in_front [] = None
digits_in_front (b ∷ s) = if b == 91 then closed_digits s (prefix_len is_ascii_digit s) else None

-- a part without name, of this many bytes
abbrev pub plain_part : List ℕ → ℕ → Part
plain_part text n = record { written = take n text; name = []; bit = None; followed = begins_word (drop n text) }

-- a name of this many bytes, with the digits of its bit
abbrev pub name_with : List ℕ → ℕ → Option (List ℕ) → Part
name_with text n None = record { written = take n text; name = take n text; bit = None; followed = begins_word (drop n text) }
name_with text n (Some digits) = record {
  written = take (n + length digits + 2) text;
  name = take n text;
  bit = digits_number digits;
  followed = begins_word (drop (n + length digits + 2) text);
}

abbrev pub name_part : List ℕ → ℕ → Part
name_part text n = name_with text n (digits_in_front (drop n text))

-- The part at the front of a text: the longest name, with `[bit]` where that follows at once; the longest run of digits; or
-- another byte. (This project's rule.)
abbrev pub first_part : List ℕ → Part
first_part [] = plain_part [] 0
first_part (b ∷ s) =
    if begins_name b then name_part (b ∷ s) (prefix_len is_word_byte (b ∷ s))
    else (if is_ascii_digit b then plain_part (b ∷ s) (prefix_len is_ascii_digit (b ∷ s)) else plain_part (b ∷ s) 1)

-- the parts of a text behind as many bytes
abbrev pub parts_behind : ℕ → List ℕ → List Part
parts_behind n [] = []
parts_behind zero (b ∷ s) = first_part (b ∷ s) ∷ parts_behind (length (first_part (b ∷ s)).written - 1) s
parts_behind (suc n) (b ∷ s) = parts_behind n s

-- The parts of a text, which make up the whole of it.
abbrev pub parts_of : List ℕ → List Part
parts_of text = parts_behind 0 text
