-- What the driven outputs show, as a simulator keeps it.
use Rattle.std.proofs.Common.{◌≡◌, ℕ, ◌<◌, List, [], ◌∷◌, length, map, get_or, refl, sym, ap, ◌∙◌, Some, None, arith}
use Rattle.std.specs.Prelude.{slice_get, nat_eq}
use Rattle.std.specs.List.{range_with_len}
use Rattle.std.proofs.lemmas.List.FromFn.{get_or-map-range_with_len, get_or-range_with_len, length-range_with_len}
use Rattle.std.proofs.lemmas.List.Quantifiers.{position-Some}
use Rattle.std.proofs.lemmas.Option.{slice_get-get_or}
use Rattle.cell_machine.specs.declared.changes.Change.{Change}
use Rattle.cell_machine.specs.Each.{each}
use Rattle.cell_machine.specs.Lines.{Line}
use Rattle.cell_machine.proofs.EachLemmas.{each-map}
use Rattle.stimulus.specs.declared.drives.Drive.TheVariants.{Unknown}
use Rattle.driven_traces.specs.declared.drivers.Driver.{Driver}
use Rattle.driven_traces.specs.declared.driven_sim.DriveShown.{DriveShown}
use Rattle.driven_traces.specs.Drivers.{number_of}
use Rattle.driven_traces.specs.DrivenLines.{driven_value, value_by, delay_by, driven_line}
use Rattle.driven_traces.specs.DrivenStands.{numbers, next_shown, shown_after}

-- each number stands at its own place among the numbers
pub number_at : (k i : ℕ) → i < k → slice_get (range_with_len 0 k) i ≡ Some i
number_at k i h =
    slice_get-get_or (range_with_len 0 k) i 0 (rw (sym (length-range_with_len 0 k)) at h)
    ∙ ap Some (get_or-range_with_len 0 k i 0 h ∙ omega arith)

-- what a driven output shows, and what the line has at its place

shown_value : (driver : Driver) (line : List Change → Line) (h : List Change) (number : ℕ)
    → (shown_after driver line h number).value ≡ driven_value driver (line h).values number
shown_value driver line [] number = refl
shown_value driver line (c ∷ h) number = refl

pub value_at : (driver : Driver) (line : List Change → Line) (h : List Change) (place : ℕ) → place < driver.outputs
    → get_or (driven_line driver line h).values place Unknown ≡ value_by driver (line h).values place (number_of driver place)
value_at driver line [] place inside = get_or-map-range_with_len _ 0 driver.outputs place place Unknown inside (omega arith)
value_at driver line (c ∷ h) place inside = get_or-map-range_with_len _ 0 driver.outputs place place Unknown inside (omega arith)

pub delay_at : (driver : Driver) (line : List Change → Line) (h : List Change) (place : ℕ) → place < driver.outputs
    → get_or (driven_line driver line h).delays place None ≡ delay_by (line h).delays
    (λ number. (shown_after driver line h number).delay) place (number_of driver place)
delay_at driver line [] place inside = get_or-map-range_with_len _ 0 driver.outputs place place None inside (omega arith)
delay_at driver line (c ∷ h) place inside = get_or-map-range_with_len _ 0 driver.outputs place place None inside (omega arith)

shown_at : (driver : Driver) (line : List Change → Line) (shown : List DriveShown) (h : List Change) (place number : ℕ)
    (d : DriveShown)
    → number_of driver place ≡ Some number → shown ≡ map (shown_after driver line h) (numbers driver)
    → get_or shown number d ≡ shown_after driver line h number
shown_at driver line shown h place number d is are =
    let inside : number < length driver.drives = (position-Some (λ (driven : ℕ). nat_eq driven place) driver.drives number 0 is).0
    in
    ap (λ ys. get_or ys number d) are
    ∙ get_or-map-range_with_len (shown_after driver line h) 0 (length driver.drives) number number d inside (omega arith)

pub kept_value : (driver : Driver) (line : List Change → Line) (shown : List DriveShown) (h : List Change) (place number : ℕ)
    (d : DriveShown) → place < driver.outputs
    → number_of driver place ≡ Some number → shown ≡ map (shown_after driver line h) (numbers driver)
    → (get_or shown number d).value ≡ get_or (driven_line driver line h).values place Unknown
kept_value driver line shown h place number d inside is are =
    ap (λ (s : DriveShown). s.value) (shown_at driver line shown h place number d is are) ∙ shown_value driver line h number
    ∙ sym (value_at driver line h place inside ∙ ap (value_by driver (line h).values place) is)

pub kept_delay : (driver : Driver) (line : List Change → Line) (shown : List DriveShown) (h : List Change) (place number : ℕ)
    (d : DriveShown) → place < driver.outputs
    → number_of driver place ≡ Some number → shown ≡ map (shown_after driver line h) (numbers driver)
    → (get_or shown number d).delay ≡ get_or (driven_line driver line h).delays place None
kept_delay driver line shown h place number d inside is are =
    ap (λ (s : DriveShown). s.delay) (shown_at driver line shown h place number d is are)
    ∙ sym (delay_at driver line h place inside
    ∙ ap (delay_by (line h).delays (λ n. (shown_after driver line h n).delay) place) is)

-- one change more
pub shown_next : (driver : Driver) (line : List Change → Line) (old new : List DriveShown) (c : Change) (h : List Change)
    → old ≡ map (shown_after driver line h) (numbers driver)
    → new ≡ each (λ number (was : DriveShown). next_shown driver c.pin (line (c ∷ h)).values was.value number)
    (numbers driver) old
    → new ≡ map (shown_after driver line (c ∷ h)) (numbers driver)
shown_next driver line old new c h before after =
    let step : ℕ → DriveShown → DriveShown = λ number was. next_shown driver c.pin (line (c ∷ h)).values was.value number in
    after ∙ ap (each step (numbers driver)) before ∙ each-map step (shown_after driver line h) (numbers driver)
    ∙ (λ i. map (λ number. next_shown driver c.pin (line (c ∷ h)).values (shown_value driver line h number i) number)
    (numbers driver))
