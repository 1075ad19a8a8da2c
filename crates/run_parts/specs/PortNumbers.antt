-- The ports of a model by their direction. Inputs are numbered from 0 among the input ports, in their order.
use Rattle.std.specs.Prelude.{ℕ, ◌+◌, Bool, true, false, List, [], ◌∷◌, ◌++◌, count_by}
use Rattle.trit_cubes.specs.declared.trits.Trit.{Trit}
use Rattle.cell_machine.specs.declared.checks.Event.{Event}
use Rattle.cell_machine.specs.Inputs.{number_among, numbered_value}
use Rattle.udp_tables.specs.declared.models.VPort.{VPort}

abbrev pub is_input : VPort → Bool
is_input port = port.input

-- how many inputs a model has
abbrev pub input_count : List VPort → ℕ
input_count ports = count_by is_input ports

-- the number of a port among the inputs: how many inputs stand before it
abbrev pub input_number : List VPort → ℕ → ℕ
input_number = number_among is_input

-- the value of an input port, of the values of the inputs
abbrev pub input_value : List VPort → List Trit → ℕ → Trit
input_value ports inputs p = numbered_value inputs (input_number ports p)

-- an event of a port as one of its input
abbrev pub input_event : List VPort → Event → Event
input_event ports e = record { pin = input_number ports e.pin; edge = e.edge }

-- the number of a port where it is an output, by whether it is an input
abbrev pub output_by : ℕ → Bool → List ℕ
output_by k true = []
output_by k false = k ∷ []

-- the numbers of the output ports among ports of which the first one has the number k
abbrev pub outputs_from : ℕ → List VPort → List ℕ
outputs_from k [] = []
outputs_from k (port ∷ ports) = output_by k port.input ++ outputs_from (k + 1) ports

-- the numbers of the output ports, in their order
abbrev pub output_ports : List VPort → List ℕ
output_ports = outputs_from 0
