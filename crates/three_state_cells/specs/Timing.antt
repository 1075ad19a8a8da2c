-- The paths and the left-out timing groups of three-state outputs.
use Rattle.std.specs.Prelude.{ℕ, ◌+◌, ◌-◌, Bool, ◌==◌, List, [], ◌∷◌, ◌++◌, length, count_by, map, filter, flat_map, slice_get}
use Rattle.cell_machine.specs.declared.pins.Pin.{Pin}
use Rattle.cell_machine.specs.declared.arcs.Arc.{Arc}
use Rattle.cell_machine.specs.CellRules.{is_output}
use Rattle.cell_machine.specs.Inputs.{is_input_at, input_number, number_among}
use Rattle.driven_traces.specs.declared.delays.DrivePath.{DrivePath}
use Rattle.driven_traces.specs.declared.drivers.Driver.{Driver}
use Rattle.timing_arcs.specs.declared.subject.Subject.{Subject}
use Rattle.timing_arcs.specs.declared.subject.PinTiming.{PinTiming}
use Rattle.timing_arcs.specs.Timing.{timing_groups, reading_answer}
use Rattle.cell_reader.specs.declared.left_out.LeftOut.{LeftOut}
use Rattle.cell_reader.specs.PinTimings.{Answer, subject_at, arcs_in, in_timing, type_text}
use Rattle.core_groups.specs.Outputs.{ThreeStateOutput}
use Rattle.core_groups.specs.DriverGroups.{driver_pin}

-- the number of an output pin among the output pins
abbrev pub is_output_at : Pin → Bool
is_output_at pin = is_output pin.direction

abbrev pub output_number : List Pin → ℕ → ℕ
output_number = number_among is_output_at

-- The numbers of some three-state outputs among the output pins.
abbrev pub driven_of : List Pin → List ThreeStateOutput → List ℕ
driven_of pins outputs = map (λ (output : ThreeStateOutput). output_number pins output.pin) outputs

-- what reading the delays of a three-state output answers, where these are the pins of the core
abbrev pub answer_of : Subject → ThreeStateOutput → Answer
answer_of core output = reading_answer (subject_at core output.pin) (driver_pin output.group)

-- An arc to the output with this number among the three-state outputs, with the number of its pin among the inputs.
abbrev pub path_of : List Pin → ℕ → Arc → DrivePath
path_of pins drive arc = record { from = input_number pins arc.from; drive = drive; rise = arc.rise; fall = arc.fall }

-- The paths of the three-state output with this number.
abbrev pub paths_of : Subject → ℕ → ThreeStateOutput → List DrivePath
paths_of core drive output = map (path_of core.pins drive) (arcs_in (answer_of core output))

-- The paths of some three-state outputs, in order, where the first has this number.
abbrev pub paths_from : Subject → ℕ → List ThreeStateOutput → List DrivePath
paths_from core drive [] = []
paths_from core drive (output ∷ outputs) =
    paths_of core drive output ++ paths_from core (drive + 1) outputs

-- The driver of some three-state outputs, where these are the pins of the core: behind its other outputs the core has one more
-- for each of them.
unfoldable pub driver_of : Subject → List ThreeStateOutput → Driver
driver_of core outputs = record {
  inputs = count_by is_input_at core.pins;
  outputs = count_by is_output_at core.pins - length outputs;
  drives = driven_of core.pins outputs;
  paths = paths_from core 0 outputs;
}

-- The timing group at this place among those of an output, by its type as it is written.
abbrev pub left_out_as : ThreeStateOutput → ℕ → LeftOut
left_out_as output place = record { pin = output.pin; kind = type_text (slice_get (timing_groups output.group) place) }

abbrev pub places_in : Answer → List ℕ
places_in answer = in_timing (λ (timing : PinTiming). timing.left_out) answer

-- the left-out timing groups of a three-state output, and of several
abbrev pub left_out_of : Subject → ThreeStateOutput → List LeftOut
left_out_of core output = map (left_out_as output) (places_in (answer_of core output))

abbrev pub all_left_out : Subject → List ThreeStateOutput → List LeftOut
all_left_out core outputs = flat_map (left_out_of core) outputs

-- those of the pin with this number
abbrev pub of_pin : ℕ → List LeftOut → List LeftOut
of_pin pin lines = filter (λ (line : LeftOut). line.pin == pin) lines

-- Those of two lists in the order of these pins, of which the first has this number.
abbrev pub in_pin_order : ℕ → List Pin → List LeftOut → List LeftOut → List LeftOut
in_pin_order number [] one other = []
in_pin_order number (pin ∷ pins) one other =
    of_pin number one ++ (of_pin number other ++ in_pin_order (number + 1) pins one other)
