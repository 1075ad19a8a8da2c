-- The number of each port among the inputs, as a list.
use Rattle.std.specs.Prelude.{ℕ, List, length, map}
use Rattle.std.specs.List.{range_with_len}
use Rattle.udp_tables.specs.declared.models.VPort.{VPort}
use Rattle.run_parts.specs.PortNumbers.{input_number}

-- for each port how many inputs stand before it
abbrev pub input_numbers : List VPort → List ℕ
input_numbers ports = map (input_number ports) (range_with_len 0 (length ports))
