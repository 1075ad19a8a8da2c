-- What a simulator of a driven trace keeps: what each driven output shows.
use Rattle.std.proofs.Common.{◌≡◌, ℕ, List, [], ◌∷◌, length, map, None}
use Rattle.std.specs.List.{range_with_len}
use Rattle.std.proofs.lemmas.List.FromFn.{length-map-range_with_len}
use Rattle.trit_cubes.specs.declared.trits.Trit.{Trit}
use Rattle.cell_machine.specs.declared.changes.Change.{Change}
use Rattle.cell_machine.specs.Lines as machines
use Rattle.stimulus.specs.declared.drives.Drive.{Drive}
use Rattle.stimulus.specs.DriveLines.{IsSized}
use Rattle.driven_traces.specs.declared.drivers.Driver.{Driver}
use Rattle.driven_traces.specs.declared.driven_sim.DriveShown.{DriveShown}
use Rattle.driven_traces.specs.DrivenLines.{driven_value, driven_delay, driven_machine}

-- the numbers of the driven outputs
abbrev pub numbers : Driver → List ℕ
numbers driver = range_with_len 0 (length driver.drives)

-- what a driven output shows at the start
abbrev pub first_shown : Driver → List Trit → ℕ → DriveShown
first_shown driver values number = record { value = driven_value driver values number; delay = None }

-- what a driven output shows after a change of an input, before which it showed `was`
abbrev pub next_shown : Driver → ℕ → List Trit → Drive → ℕ → DriveShown
next_shown driver input values was number =
    record {
      value = driven_value driver values number;
      delay =
          driven_delay driver input number was (driven_value driver values number);
    }

-- what a driven output shows after a history
abbrev pub shown_after : Driver → (List Change → machines.Line) → List Change → ℕ → DriveShown
shown_after driver line [] number = first_shown driver (line []).values number
shown_after driver line (c ∷ h) number =
    next_shown driver c.pin (line (c ∷ h)).values (driven_value driver (line h).values number) number

-- the core stands after this history, and this is what the driven outputs show
pub record Stands (driver : Driver) (line : List Change → machines.Line) (core : List Change → Type 0) (shown : List DriveShown)
    (h : List Change) : Type 0 where
  pub of_core : core h
  pub of_shown : shown ≡ map (shown_after driver line h) (numbers driver)

pub driven_sized : (driver : Driver) (core : machines.Machine) → machines.IsSized core → IsSized (driven_machine driver core)
driven_sized driver core all = record {
  values = values;
  delays = delays;
  reports = reports;
}
  where
    values : (h : List Change) → length ((driven_machine driver core).line h).values ≡ driver.outputs
    values [] = length-map-range_with_len _ 0 driver.outputs
    values (c ∷ h) = length-map-range_with_len _ 0 driver.outputs

    delays : (h : List Change) → length ((driven_machine driver core).line h).delays ≡ driver.outputs
    delays [] = length-map-range_with_len _ 0 driver.outputs
    delays (c ∷ h) = length-map-range_with_len _ 0 driver.outputs

    reports : (h : List Change) → length ((driven_machine driver core).line h).reports ≡ core.checks
    reports [] = all.reports []
    reports (c ∷ h) = all.reports (c ∷ h)
