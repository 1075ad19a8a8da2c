-- Bits in brackets behind the name of a bus: one bit, or all from one to another (Liberty Reference Manual, `pin` groups in a
-- `bus` group; that the two may stand in either order is this project's rule).
use Rattle.std.specs.Prelude.{ℕ, ◌+◌, ◌-◌, Bool, false, ◌&&◌, ◌||◌, ◌==◌, nat_eq}
use Rattle.std.specs.Prelude.{nat_le, List, [], ◌∷◌, length, take, drop, position, slice_index, slice_range}
use Rattle.std.specs.Prelude.{Option, Some, None, is_some, option_and_then, if◌then◌else◌}
use Rattle.std.specs.List.{starts_with}
use Rattle.bus_texts.specs.Numbers.{digits_number}
use Rattle.bank_refusals.specs.declared.ranges.BitRange.{BitRange}

-- what stands between a bracket at the front and one at the end
abbrev pub inside_brackets : List ℕ → Option (List ℕ)
inside_brackets text =
    if nat_le 2 (length text) && (slice_index text 0 == 91 && slice_index text (length text - 1) == 93)
    then Some (slice_range text 1 (length text - 1)) else None

abbrev pub range_between : Option ℕ → Option ℕ → Option BitRange
range_between None to = None
range_between (Some from) None = None
range_between (Some from) (Some to) = Some (record { from = from; to = to })

abbrev pub is_colon : ℕ → Bool
is_colon byte = byte == 58

-- one number, or two numbers with a colon between them
abbrev pub range_by : List ℕ → Option ℕ → Option BitRange
range_by inner None = range_between (digits_number inner) (digits_number inner)
range_by inner (Some at) = range_between (digits_number (take at inner)) (digits_number (drop (at + 1) inner))

abbrev pub range_as : List ℕ → Option BitRange
range_as inner = range_by inner (position is_colon inner)

-- The bits of a text `[bit]` or `[from:to]`.
abbrev pub range_in : List ℕ → Option BitRange
range_in text = option_and_then range_as (inside_brackets text)

abbrev pub is_between : ℕ → BitRange → Bool
is_between bit range = (nat_le range.from bit && nat_le bit range.to) || (nat_le range.to bit && nat_le bit range.from)

abbrev pub is_bit_of : ℕ → Option BitRange → Bool
is_bit_of bit None = false
is_bit_of bit (Some range) = is_between bit range

-- An argument names a bit of a bus: it is the bus's name, and behind it the bit or bits with this one among them.
abbrev pub names_bit : List ℕ → ℕ → List ℕ → Bool
names_bit name bit argument = starts_with nat_eq argument name && is_bit_of bit (range_in (drop (length name) argument))

-- one bit in brackets
abbrev pub is_number : List ℕ → Bool
is_number inner = is_some (digits_number inner)

abbrev pub is_number_in : Option (List ℕ) → Bool
is_number_in None = false
is_number_in (Some inner) = is_number inner

-- the place of the last bracket that opens in a text, behind as many bytes
abbrev pub last_opening : ℕ → Option ℕ → List ℕ → Option ℕ
last_opening at found [] = found
last_opening at found (b ∷ s) = last_opening (at + 1) (if b == 91 then Some at else found) s

-- A word without the bit in brackets that is written behind it.
abbrev pub stem_by : List ℕ → Option ℕ → List ℕ
stem_by word None = word
stem_by word (Some at) = if is_number_in (inside_brackets (drop at word)) then take at word else word

abbrev pub stem : List ℕ → List ℕ
stem word = stem_by word (last_opening 0 None word)
