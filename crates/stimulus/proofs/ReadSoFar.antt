-- What is read so far, and what is left to be read.
use Rattle.std.proofs.Common.{ℕ, ◌+◌, List, [], length}
use Rattle.std.specs.Prelude.{Option, Some, None, Result, Ok}
use Rattle.stimulus.specs.declared.faults.StimulusFault.{StimulusFault}
use Rattle.stimulus.specs.declared.context.Said.{Said}
use Rattle.stimulus.specs.declared.sections.Section.{Section}
use Rattle.stimulus.specs.LineMeanings.{and_then}
use Rattle.stimulus.specs.Sections.{gathered}
use Rattle.stimulus.specs.Text.{lines_of}

-- the sections so far, with what further lines say
abbrev pub resumed : List Section → Option Section → Result (List Said) StimulusFault → Result (List Section) StimulusFault
resumed ended current answer = and_then answer (λ more. Ok (gathered ended current more))

-- what is left of a text: its lines, and a bound on how many they are
abbrev pub lines_left : Option (List ℕ) → List (List ℕ)
lines_left None = []
lines_left (Some text) = lines_of text

abbrev pub left : Option (List ℕ) → ℕ
left None = 0
left (Some text) = 1 + length text
