-- What an output shows after a change.
use Rattle.std.specs.Prelude.{List, None}
use Rattle.trit_cubes.specs.declared.trits.Trit.{Trit}
use Rattle.cell_machine.specs.declared.pins.Pin.{Pin}
use Rattle.cell_machine.specs.declared.groups.StateGroup.{StateGroup}
use Rattle.cell_machine.specs.declared.outputs.OutputPin.{OutputPin}
use Rattle.cell_machine.specs.declared.arcs.Arc.{Arc}
use Rattle.cell_machine.specs.declared.changes.Change.{Change}
use Rattle.cell_machine.specs.declared.shown.Shown.{Shown}
use Rattle.cell_machine.specs.CellTrace.{output_value, delay_at}

-- the value of an output, and its delay, at a change before which it had the value a
abbrev pub shown_step : List Pin → List StateGroup → List Arc → List Trit → List Trit → Change → OutputPin → Trit → Shown
shown_step pins groups arcs v states c output a =
    record {
      value = output_value pins groups v states output;
      delay = delay_at pins arcs v c output a (output_value pins groups v states output);
    }

-- the value of an output, without a delay, at the start
abbrev pub shown_first : List Pin → List StateGroup → List Trit → List Trit → OutputPin → Shown
shown_first pins groups v states output = record { value = output_value pins groups v states output; delay = None }
