-- When a driver is that of a core: which pins of the core are the cell's own, and which are enables. This project's rules.
use Rattle.std.specs.Prelude.{ℕ, ◌-◌, List, length, take, drop, IsTrue}
use Rattle.std.specs.List.{list_all}
use Rattle.cell_machine.specs.declared.pins.Pin.{Pin}
use Rattle.cell_machine.specs.CellData.{CellData}
use Rattle.cell_machine.specs.CellTrace.{cell_machine_of}
use Rattle.driven_traces.specs.declared.drivers.Driver.{Driver}
use Rattle.driven_traces.specs.Drivers.{IsSound, IsCoreOf}
use Rattle.three_state_cells.specs.Timing.{is_output_at}

-- the pins of a core before the enables of so many three-state outputs
abbrev pub own_pins : List Pin → ℕ → List Pin
own_pins pins driven = take (length pins - driven) pins

-- these enables, which are the last pins
abbrev pub last_pins : List Pin → ℕ → List Pin
last_pins pins driven = drop (length pins - driven) pins

-- the last pins of a core are outputs, one for each output that is driven
abbrev pub HasEnables : List Pin → Driver → Type 0
HasEnables pins driver = IsTrue (list_all is_output_at (last_pins pins (length driver.drives)))

-- A driver is a core's: it is sound, and the core has its inputs, its outputs and behind them the enables.
pub record IsDriverOf (core : CellData) (driver : Driver) : Type 0 where
  pub sound : IsSound driver
  pub is_core : IsCoreOf driver (cell_machine_of core)
  pub enables : HasEnables core.pins driver
