-- The lines that show the values of a trace, and the traces of which they are.
use Rattle.std.proofs.Common.{◌≡◌, List, [], ◌∷◌, map, refl, sym, ap, ◌∙◌}
use Rattle.trit_cubes.specs.declared.trits.Trit.{Trit}
use Rattle.trit_cubes.specs.declared.trits.Trit.TheVariants.{Zero, One, Unknown}
use Rattle.cell_machine.specs.declared.changes.Change.{Change}
use Rattle.cell_machine.specs.Lines.{Line, lines_from, trace}
use Rattle.stimulus.specs.declared.drives.Drive.{Drive}
use Rattle.stimulus.specs.declared.drives.Drive.TheVariants as drive
use Rattle.stimulus.specs.DriveLines.{drive_of, DriveLine, drive_line, lines_after, lines_along}
use Rattle.stimulus.specs.Laws.{DriveLinesShowTraces, EqualLinesAreEqualTraces}

drive_lines_after : (line : List Change → Line) (h cs : List Change)
    → lines_after (λ g. drive_line (line g)) h cs ≡ map drive_line (lines_from line h cs)
drive_lines_after line h [] = refl
drive_lines_after line h (c ∷ cs) = ap (λ lines. drive_line (line (c ∷ h)) ∷ lines) (drive_lines_after line (c ∷ h) cs)

-- on any function of histories
pub drive_lines : (line : List Change → Line) (cs : List Change)
    → lines_along (λ h. drive_line (line h)) cs ≡ map drive_line (trace line cs)
drive_lines line cs = ap (λ lines. drive_line (line []) ∷ lines) (drive_lines_after line [] cs)

pub drive_lines_show_traces : DriveLinesShowTraces
drive_lines_show_traces m cs = drive_lines m.line cs

-- The values that are shown, and what they show.

value_of : Drive → Trit
value_of drive.Zero = Zero
value_of drive.One = One
value_of drive.Unknown = Unknown
value_of drive.Floating = Unknown

value_back : (value : Trit) → value_of (drive_of value) ≡ value
unfolding value_of
value_back Zero = refl
value_back One = refl
value_back Unknown = refl

values_back : (values : List Trit) → map value_of (map drive_of values) ≡ values
values_back [] = refl
values_back (value ∷ values) = λ i. value_back value i ∷ values_back values i

line_of : DriveLine → Line
line_of line = record { values = map value_of line.values; delays = line.delays; reports = line.reports }

line_back : (line : Line) → line_of (drive_line line) ≡ line
unfolding line_of
line_back line = λ i. record { values = values_back line.values i; delays = line.delays; reports = line.reports }

lines_back : (lines : List Line) → map line_of (map drive_line lines) ≡ lines
lines_back [] = refl
lines_back (line ∷ lines) = λ i. line_back line i ∷ lines_back lines i

-- what is printed of equal traces is equal
pub same_lines : (one other : List Change → Line) (cs : List Change) → trace one cs ≡ trace other cs
    → lines_along (λ h. drive_line (one h)) cs ≡ lines_along (λ h. drive_line (other h)) cs
same_lines one other cs e = drive_lines one cs ∙ ap (map drive_line) e ∙ sym (drive_lines other cs)

pub equal_lines_are_equal_traces : EqualLinesAreEqualTraces
equal_lines_are_equal_traces one other cs = (
  λ e. sym (lines_back (trace one.line cs)) ∙ ap (map line_of) (sym (drive_lines one.line cs) ∙ e ∙ drive_lines other.line cs)
      ∙ lines_back (trace other.line cs),
  same_lines one.line other.line cs,
)
