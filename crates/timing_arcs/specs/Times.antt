-- The times in tables and attributes, in picoseconds.
use Rattle.std.specs.Prelude.{ℕ, List, Option, Some, None, Result, Ok, Err}
use Rattle.liberty_text.specs.declared.decimal.Fixed.{Fixed}
use Rattle.liberty_text.specs.declared.decimal.NumberFault.{NumberFault}
use Rattle.liberty_text.specs.declared.time.Unit.{Unit as TimeUnit}
use Rattle.liberty_text.specs.Number.{fixed_of}
use Rattle.liberty_text.specs.Time.{picoseconds_of}

abbrev pub time_as : TimeUnit → Result Fixed NumberFault → Option ℕ
time_as unit (Ok number) = picoseconds_of number unit
time_as unit (Err fault) = None

-- The time that a text is, in picoseconds, rounded up, and 0 where it is negative: none where the text is no number
-- within the limits, or the library's unit is not known. (Liberty Reference Manual, `time_unit`.)
unfoldable pub time_of : Option TimeUnit → List ℕ → Option ℕ
time_of None text = None
time_of (Some unit) text = time_as unit (fixed_of text)

-- The time of a number, in picoseconds.
abbrev pub time_in : Option TimeUnit → Fixed → Option ℕ
time_in None number = None
time_in (Some unit) number = picoseconds_of number unit
