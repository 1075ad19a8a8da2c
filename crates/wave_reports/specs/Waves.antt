-- What a report comes to as waves: a value change dump, and a line for each line that cannot be read. (IEEE 1364-2005, clause 18;
-- where sections stand in time, and the keys of signals, are this project's rule.)
use Rattle.std.specs.Prelude.{ℕ, ◌+◌, ◌-◌, ◌==◌, ◌^◌, min, List, [], ◌∷◌, ◌++◌, codes, decimal, None, if◌then◌else◌}
use Rattle.wave_reports.specs.declared.waves.Waves.{Waves}
use Rattle.wave_reports.specs.Pieces.{pieces}
use Rattle.wave_reports.specs.Traces.{Trace}
use Rattle.wave_reports.specs.Lines.{Said, nothing, begins, shows, unread, said_of}
use Rattle.wave_reports.specs.Sections.{Drawn, drawn, blank, later, with_trace}
use Rattle.wave_reports.specs.Definitions.{section_begin, section_end}
use Rattle.wave_reports.specs.Changes.{changes_text}

-- The declarations so far, the value changes, the lines on bad lines, the number of the line where the section begins, 0 where
-- none has begun, the time at which it does, and what it shows.
pub record Drawing : Type 0 where
  pub definitions : List ℕ
  pub changes : List ℕ
  pub faults : List ℕ
  pub begun : ℕ
  pub start : ℕ
  pub section : Drawn

abbrev pub held : Waves → Drawing
held d = record {
  definitions = d.definitions.items;
  changes = d.changes.items;
  faults = d.faults.items;
  begun = d.begun;
  start = d.start;
  section = drawn d.section;
}

-- before the first line
abbrev pub empty : Drawing
empty = record { definitions = []; changes = []; faults = []; begun = 0; start = 0; section = blank 0 }

-- how many picoseconds a section begins behind the last time of the one before
abbrev pub gap : ℕ
gap = 1000

-- the declarations and the changes of the section, where one has begun
unfoldable pub closed : Drawing → Drawing
closed d =
    if d.begun == 0 then d
    else record d {
      definitions = d.definitions ++ section_end d.begun d.section.keys;
      changes = d.changes ++ changes_text d.begun d.section.keys [] None d.section.changes;
    }

-- the time at which the next section begins: the first at 0
abbrev pub next_start : Drawing → ℕ
next_start d = if d.begun == 0 then 0 else later d.section.end gap

-- the section before has ended, and that of a cell of this name begins
abbrev pub with_section : Drawing → ℕ → List ℕ → Drawing
with_section d line name = record d {
  definitions = d.definitions ++ section_begin line name;
  begun = line;
  start = next_start d;
  section = blank (next_start d);
}

-- a line on a line that cannot be read, and why
unfoldable pub fault_text : ℕ → List ℕ → List ℕ
fault_text line why = codes "report line " ++ (decimal line ++ (codes ": " ++ (why ++ codes "\n")))

abbrev pub with_fault : Drawing → ℕ → List ℕ → Drawing
with_fault d line why = record d { faults = d.faults ++ fault_text line why }

abbrev pub with_shown : Drawing → ℕ → List ℕ → List ℕ → Trace → Drawing
with_shown d number previous line trace =
    if d.begun == 0 then with_fault d number (codes "section")
    else record d { section = with_trace d.section d.start number previous line trace }

-- with what a line says, which has this number and stands behind this one
abbrev pub with_said : Drawing → ℕ → List ℕ → List ℕ → Said → Drawing
with_said d number previous line nothing = d
with_said d number previous line (begins name) = with_section (closed d) number name
with_said d number previous line (shows trace) = with_shown d number previous line trace
with_said d number previous line unread = with_fault d number (codes "form")

-- the number of the line behind one with this number; the greatest is 2^64 - 1
abbrev pub next_number : ℕ → ℕ
next_number number = min (number + 1) (2 ^ 64 - 1)

-- with what lines say, of which the first has this number and stands behind this one
abbrev pub with_lines : Drawing → ℕ → List ℕ → List (List ℕ) → Drawing
with_lines d number previous [] = d
with_lines d number previous (line ∷ lines) =
    with_lines (with_said d number previous line (said_of line)) (next_number number) line lines

-- what a report with these bytes comes to
unfoldable pub drawing_of : List ℕ → Drawing
drawing_of report = closed (with_lines empty 1 [] (pieces 10 report))
