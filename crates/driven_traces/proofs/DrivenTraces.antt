-- Driven traces of two cores, and of a core where nothing is driven.
use Rattle.std.proofs.Common.{◌≡◌, ℕ, List, [], ◌∷◌, length, map, get_or, refl, sym, ◌∙◌, Option, None, arith}
use Rattle.std.proofs.lemmas.List.{get_or-map, length-map}
use Rattle.std.proofs.lemmas.List.FromFn.{fill_by_all}
use Rattle.trit_cubes.specs.declared.trits.Trit.{Trit}
use Rattle.trit_cubes.specs.declared.trits.Trit.TheVariants.{Unknown}
use Rattle.cell_machine.specs.declared.changes.Change.{Change}
use Rattle.cell_machine.specs.Inputs.{numbered_value}
use Rattle.cell_machine.specs.Lines.{Line, lines_from, Machine, IsSized}
use Rattle.stimulus.specs.declared.drives.Drive.TheVariants as drives
use Rattle.stimulus.specs.DriveLines.{drive_of, lines_after, drive_line}
use Rattle.driven_traces.specs.declared.drivers.Driver.{Driver}
use Rattle.driven_traces.specs.Drivers.{plain}
use Rattle.driven_traces.specs.DrivenLines.{driven_value, driven_delay, places, line_with, first_line, next_line, driven_line}
use Rattle.driven_traces.specs.Laws.{EqualCoresDriveEqually, NothingDrivenIsCore}

equal_after : (driver : Driver) (one other : List Change → Line) (h cs : List Change) → one h ≡ other h
    → lines_from one h cs ≡ lines_from other h cs
    → lines_after (driven_line driver one) h cs ≡ lines_after (driven_line driver other) h cs
equal_after driver one other h [] before e = refl
equal_after driver one other h (c ∷ cs) before e =
    let here : one (c ∷ h) ≡ other (c ∷ h) = cc in
    let more : lines_from one (c ∷ h) cs ≡ lines_from other (c ∷ h) cs = cc in
    let rest = equal_after driver one other (c ∷ h) cs here more in
    λ i. next_line driver c (before i) (here i) ∷ rest i

pub equal_cores_drive_equally : EqualCoresDriveEqually
equal_cores_drive_equally driver one other cs e =
    let here : one.line [] ≡ other.line [] = cc in
    let more : lines_from one.line [] cs ≡ lines_from other.line [] cs = cc in
    let rest = equal_after driver one.line other.line [] cs here more in
    λ i. first_line driver (here i) ∷ rest i

-- Where nothing is driven.

values_are : (values : List Trit) (inputs outputs : ℕ) → length values ≡ outputs
    → map drive_of values ≡ map (λ place. drive_of (numbered_value values place)) (places (plain inputs outputs))
values_are values inputs outputs e =
    fill_by_all (λ place. drive_of (numbered_value values place)) (map drive_of values) outputs drives.Unknown
    (length-map values drive_of ∙ e)
    (λ k h. get_or-map drive_of values k Unknown drives.Unknown (omega (arith, h, e)))

delays_are : (delays : List (Option ℕ)) (inputs outputs : ℕ) → length delays ≡ outputs
    → delays ≡ map (λ place. get_or delays place None) (places (plain inputs outputs))
delays_are delays inputs outputs e = fill_by_all (λ place. get_or delays place None) delays outputs None e (λ k h. refl)

line_is : (line : Line) (inputs outputs : ℕ) (driven : ℕ → Option ℕ) → length line.values ≡ outputs → length line.delays ≡ outputs
    → line_with (plain inputs outputs) line driven ≡ drive_line line
line_is line inputs outputs driven v d =
    sym (λ i. record {
      values = values_are line.values inputs outputs v i;
      delays =
          delays_are line.delays inputs outputs d i;
      reports = line.reports;
    })

lines_are : (core : Machine) → IsSized core → (h : List Change)
    → driven_line (plain core.inputs core.outputs) core.line h ≡ drive_line (core.line h)
lines_are core all [] = line_is (core.line []) core.inputs core.outputs (λ _. None) (all.values []) (all.delays [])
lines_are core all (c ∷ h) =
    let driver = plain core.inputs core.outputs in
    let driven : ℕ → Option ℕ =
    λ number. driven_delay driver c.pin number (driven_value driver (core.line h).values number)
    (driven_value driver (core.line (c ∷ h)).values number) in
    line_is (core.line (c ∷ h)) core.inputs core.outputs driven (all.values (c ∷ h)) (all.delays (c ∷ h))

pub nothing_driven_is_core : NothingDrivenIsCore
nothing_driven_is_core core all =
    λ i. record { inputs = core.inputs; outputs = core.outputs; checks = core.checks; line = λ h. lines_are core all h i }
