-- What a line of a report says. This project's format.
use Rattle.std.specs.Prelude.{ℕ, ◌==◌, ◌||◌, ◌&&◌, not, nat_le, nat_lt, unwrap_or, Bool, List, [], ◌∷◌, length, take, drop, codes}
use Rattle.std.specs.Prelude.{Option, Some, None, if◌then◌else◌}
use Rattle.std.specs.List.{list_all, list_any}
use Rattle.std.specs.Char.{is_ascii_graphic}
use Rattle.std.specs.Str.{bytes_eq}
use Rattle.lexer.specs.Numbers.{is_number}
use Rattle.wave_reports.specs.declared.lines.Said.{Said as Borrowed}
use Rattle.wave_reports.specs.declared.lines.Said.TheVariants as borrowed
use Rattle.wave_reports.specs.Traces.{Trace, trace_of, seen as trace_seen}

-- nothing of a wave, that the section of a cell begins, what a line of a trace says, or nothing that can be read
pub data Said : Type 0 where
  nothing : Said
  begins : (name : List ℕ) → Said
  shows : (trace : Trace) → Said
  unread : Said

-- what stands behind the references
abbrev pub seen : Borrowed → Said
seen borrowed.Nothing = nothing
seen (borrowed.Cell name) = begins name.now
seen (borrowed.Trace trace) = shows (trace_seen trace)
seen borrowed.Unread = unread

-- printable ASCII
abbrev pub is_plain : ℕ → Bool
is_plain b = is_ascii_graphic b || b == 32

-- what stands behind these bytes, where a line begins with them
abbrev pub behind : List ℕ → List ℕ → Option (List ℕ)
behind front line = if nat_le (length front) (length line) && bytes_eq (take (length front) line) front
    then Some (drop (length front) line) else None

-- one name, which is not empty
abbrev pub is_name : List ℕ → Bool
is_name name = nat_lt 0 (length name) && not (list_any (λ b. b == 32) name)

-- the section of a cell begins where its name stands behind the word
abbrev pub begin_said : Option (List ℕ) → Option Said
begin_said None = None
begin_said (Some name) = Some (if is_name name then begins name else unread)

-- a section ends with two traces that differ where the number of the change stands behind the words
abbrev pub end_said : Option (List ℕ) → Said
end_said None = unread
end_said (Some number) = if is_number number then nothing else unread

-- a line that is none of a trace: a section begins, or it ends with what its three traces were found to be
abbrev pub plain_said : List ℕ → Said
plain_said line =
    if bytes_eq line (codes "equal") then nothing
    else unwrap_or (begin_said (behind (codes "cell ") line)) (end_said (behind (codes "differs at change ") line))

abbrev pub said_with : List ℕ → Option Trace → Said
said_with line (Some trace) = shows trace
said_with line None = plain_said line

-- what a line says; an empty one, as behind the last line feed, says nothing
abbrev pub said_of : List ℕ → Said
said_of [] = nothing
said_of (b ∷ rest) = if list_all is_plain (b ∷ rest) then said_with (b ∷ rest) (trace_of (b ∷ rest)) else unread
