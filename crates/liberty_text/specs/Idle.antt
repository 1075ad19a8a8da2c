-- Bytes that leave what stands open as it is, and with which no token ends.
use Rattle.std.specs.Prelude.{ℕ, Bool, true, false, not, List, None, ◌==◌, ◌&&◌, ◌||◌}
use Rattle.std.specs.List.{prefix_len}
use Rattle.liberty_text.specs.declared.class.Class.{Class}
use Rattle.liberty_text.specs.declared.class.Class.TheVariants.{Blank}
use Rattle.liberty_text.specs.declared.scanner.Mode.{Mode}
use Rattle.liberty_text.specs.declared.scanner.Mode.TheVariants.{Between, InWord, InText}
use Rattle.liberty_text.specs.Scanner.{class_of}
use Rattle.liberty_text.specs.Tokens.{is_word_class}

abbrev pub is_blank_class : Class → Bool
is_blank_class Blank = true
is_blank_class _ = false

-- a space, a tab or a carriage return
abbrev pub is_blank : ℕ → Bool
is_blank b = is_blank_class (class_of b)

-- a byte that may stand in a Word, and is no slash, with which a comment might begin
abbrev pub is_plain_in_word : ℕ → Bool
is_plain_in_word b = is_word_class (class_of b) && not (b == 47)

-- a byte of a text that is no quote and no backslash
abbrev pub is_plain_in_text : ℕ → Bool
is_plain_in_text b = not (b == 34) && not (b == 92)

-- how many bytes at the front pass a test
abbrev pub front_run : (ℕ → Bool) → List ℕ → ℕ
front_run = prefix_len

-- how many bytes at the front leave open what stands open
abbrev pub idle_run : Mode → List ℕ → ℕ
idle_run (Between line) bytes = front_run is_blank bytes
idle_run (InWord begun line None) bytes = front_run is_plain_in_word bytes
idle_run (InText begun line false) bytes = front_run is_plain_in_text bytes
idle_run _ bytes = 0

-- a byte between quotes that stands for itself: no line end, and no backslash
abbrev pub stands_for_itself : ℕ → Bool
stands_for_itself b = not (b == 10 || b == 92)

-- "{", "}" or ";"
abbrev pub is_mark_byte : ℕ → Bool
is_mark_byte b = b == 59 || (b == 123 || b == 125)
