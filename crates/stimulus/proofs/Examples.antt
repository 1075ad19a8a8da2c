-- Worked stimuli and lines of traces.
use Rattle.std.specs.Prelude.{◌≡◌, refl, ℕ, [], ◌∷◌, map, codes, Ok, Err, Some, None, true, false}
use Rattle.std.specs.Fmt.{digits}
use Rattle.trit_cubes.specs.declared.trits.Trit.TheVariants.{Zero, One, Unknown}
use Rattle.stimulus.specs.declared.faults.Cause.TheVariants as cause
use Rattle.stimulus.specs.declared.faults.StimulusFault.TheVariants as fault
use Rattle.stimulus.specs.Catalog.{Listing, ready, refused, verilog_ports, vital_ports, input, output}
use Rattle.stimulus.specs.Stimulus.{stimulus_of}
use Rattle.stimulus.specs.Text.{lines_of, words_of}
use Rattle.stimulus.specs.declared.drives.Drive.TheVariants as drive
use Rattle.stimulus.specs.TraceLine.{drive_line_text, line_text, change_text, output_text, report_text}

-- an inverter and a cell with two inputs, a refused cell, and two without models; a second cell of the inverter's name
cells : Listing
cells = record {
  cells = (codes "INV", ready 0) ∷ (codes "TB", refused 1) ∷ (codes "BUF", verilog_ports 2) ∷ (codes "OR", vital_ports 3)
      ∷ (codes "INV", refused 4) ∷ [];
  pins = λ (cell : ℕ). (codes "A", input 0) ∷ (codes "Y", output) ∷ (codes "A", output) ∷ [];
}

lines : lines_of (codes "a\r\n\nb\r") ≡ codes "a" ∷ [] ∷ codes "b\r" ∷ []
lines = refl

words : words_of (codes " \tcell  a\r ") ≡ codes "cell" ∷ codes "a\r" ∷ []
words = refl

-- two changes at one time
same_time : stimulus_of cells (codes "cell INV\n5 A 1\n5 A 0\n") ≡ Err (fault.Line 3 cause.Time)
unfolding cells
same_time = refl

one_byte : stimulus_of cells (255 ∷ []) ≡ Err (fault.Line 1 cause.Form)
one_byte = refl

-- a section without changes, and a file without sections
alone : stimulus_of cells (codes "cell INV") ≡ Ok (record { cell = 0; changes = [] } ∷ [])
unfolding cells
alone = refl

empty : stimulus_of cells [] ≡ Ok []
empty = refl

-- a section starts its cell anew, so times begin anew; a time may be 0 and have leading zeros
two_sections : stimulus_of cells (codes "# two\ncell INV\r\n0 A X\n010 A 1\n\ncell INV\n7\tA 0") ≡ Ok
    (record { cell = 0; changes = record { at = 0; pin = 0; to = Unknown } ∷ record { at = 10; pin = 0; to = One } ∷ [] } ∷ record
    { cell = 0; changes = record { at = 7; pin = 0; to = Zero } ∷ [] } ∷ [])
unfolding cells
two_sections = refl

-- a change before any section, a time of 16 digits, a comment behind a blank, a carriage return without a line feed
bad_forms :
    map (stimulus_of cells)
    (codes "5 A 1" ∷ codes "cell INV\n0000000000000005 A 1" ∷ codes "cell INV\n # no comment" ∷ codes "cell INV A" ∷ [])
    ≡ map Err (fault.Line 1 cause.Form ∷ fault.Line 2 cause.Form ∷ fault.Line 2 cause.Form ∷ fault.Line 1 cause.Form ∷ [])
unfolding cells
bad_forms = refl

-- the causes of a cell's line
bad_cells :
    map (stimulus_of cells)
    (codes "cell INV\r" ∷ codes "cell DFF\n" ∷ codes "\ncell TB\n" ∷ codes "cell BUF" ∷ codes "cell OR" ∷ [])
    ≡ map Err
    (fault.Line 1 cause.UnknownCell
    ∷ fault.Line 1 cause.UnknownCell
    ∷ fault.Line 2 (cause.RefusedCell 1)
    ∷ fault.Line 1 (cause.VerilogPorts 2)
    ∷ fault.Line 1 (cause.VitalPorts 3)
    ∷ [])
unfolding cells
bad_cells = refl

-- the causes of a change, of which the first counts
bad_changes :
    map (stimulus_of cells) (codes "cell INV\n5 B 2" ∷ codes "cell INV\n5 Y 2" ∷ codes "cell INV\n5 A 1\n5 A z" ∷ [])
    ≡ map Err (fault.Line 2 cause.UnknownPin ∷ fault.Line 2 cause.OutputPin ∷ fault.Line 3 cause.Value ∷ [])
unfolding cells
bad_changes = refl

-- lines of traces: a start, a value that changed at once, a value with a report, and one that changed later with a report
start_line : line_text 76 None [] (codes "Y" ∷ []) (record { values = One ∷ []; delays = None ∷ []; reports = [] }) ≡ codes
    "L start : Y=1\n"
unfolding drive_line_text output_text
start_line = refl

at_once : line_text 76 (Some (record { at = 10; pin = 1; to = One })) (codes "B" ∷ codes "C" ∷ []) (codes "Q" ∷ codes "QN" ∷ [])
    (record { values = Zero ∷ Unknown ∷ []; delays = Some 0 ∷ None ∷ []; reports = [] }) ≡ codes "L 10 C 1 : Q=0@0 QN=x\n"
unfolding digits drive_line_text change_text output_text
at_once = refl

reported : line_text 86 (Some (record { at = 120; pin = 0; to = Unknown })) (codes "CK" ∷ []) (codes "Q" ∷ [])
    (record { values = Zero ∷ []; delays = None ∷ []; reports = true ∷ false ∷ true ∷ [] }) ≡ codes "V 120 CK x : Q=0 !1 !3\n"
unfolding digits drive_line_text change_text output_text report_text
reported = refl

later : line_text 72 (Some (record { at = 150; pin = 0; to = One })) (codes "CK" ∷ []) (codes "Q" ∷ [])
    (record { values = Unknown ∷ []; delays = Some 120 ∷ []; reports = true ∷ [] }) ≡ codes "H 150 CK 1 : Q=x@120 !1\n"
unfolding digits drive_line_text change_text output_text report_text
later = refl

floats : drive_line_text 76 (Some (record { at = 6; pin = 0; to = One })) (codes "A" ∷ []) (codes "Y" ∷ [])
    (record { values = drive.Floating ∷ []; delays = Some 0 ∷ []; reports = [] }) ≡ codes "L 6 A 1 : Y=z@0\n"
unfolding digits drive_line_text change_text output_text
floats = refl
