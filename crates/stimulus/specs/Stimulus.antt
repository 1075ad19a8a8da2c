-- A stimulus: its sections, or its first bad line (this project's format).
use Rattle.std.specs.Prelude.{◌≡◌, ℕ, ◌+◌, List, [], ◌∷◌, Result, Ok, Err, Vec}
use Rattle.stimulus.specs.declared.faults.Cause.{Cause}
use Rattle.stimulus.specs.declared.faults.StimulusFault.{StimulusFault}
use Rattle.stimulus.specs.declared.faults.StimulusFault.TheVariants as fault
use Rattle.stimulus.specs.declared.context.Context.{Context}
use Rattle.stimulus.specs.declared.context.Said.{Said}
use Rattle.stimulus.specs.declared.sections.Section.{Section}
use Rattle.stimulus.specs.Catalog.{Listing}
use Rattle.stimulus.specs.Context.{start, after}
use Rattle.stimulus.specs.LineMeanings.{and_then, line_meaning}
use Rattle.stimulus.specs.Sections.{sections_of}
use Rattle.stimulus.specs.Text.{lines_of}

-- what is answered of the line with this number
abbrev pub at_line : {A : Type 0} → ℕ → Result A Cause → Result A StimulusFault
at_line line (Ok a) = Ok a
at_line line (Err cause) = Err (fault.Line line cause)

-- What lines say, of which the first has this number, after lines that leave this to be known. The first bad line decides.
abbrev pub all_said : Listing → ℕ → Context → List (List ℕ) → Result (List Said) StimulusFault
all_said listing number context [] = Ok []
all_said listing number context (line ∷ lines) =
    and_then (at_line number (line_meaning listing context line)) (λ here.
    and_then (all_said listing (number + 1) (after context here) lines) (λ more. Ok (here ∷ more)))

-- the sections of a stimulus over a catalog, or its first bad line, counted from 1, with the first of its causes
abbrev pub stimulus_of : Listing → List ℕ → Result (List Section) StimulusFault
stimulus_of listing bytes = and_then (all_said listing 1 start (lines_of bytes)) (λ all. Ok (sections_of all))

-- the answer of a call is this one, unless memory was not found
abbrev pub Gives : {A : Type 0} → Result (Vec Section A) StimulusFault → Result (List Section) StimulusFault → Type 0
Gives (Ok sections) answer = answer ≡ Ok sections.items
Gives (Err (fault.Line line cause)) answer = answer ≡ Err (fault.Line line cause)
Gives (Err fault.Memory) answer = Unit {0}
