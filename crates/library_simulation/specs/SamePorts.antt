-- When a model has the ports that are written for a cell: as many, with their names and directions, in their order. Names of
-- Verilog are the same where they are byte for byte (IEEE 1364-2005, 3.7), names of VHDL whatever the case of their letters (IEEE
-- 1076-1993, 13.3.1).
use Rattle.std.specs.Prelude.{ℕ, Bool, true, false, ◌&&◌, List, [], ◌∷◌}
use Rattle.std.specs.Str.{bytes_eq, str_eq_ignore_ascii_case}
use Rattle.udp_tables.specs.declared.models.VPort.{VPort}
use Rattle.stimulus.specs.Differences.{same_fact}
use Rattle.vhdl_tokens.specs.Kept.{lowered}
use Rattle.library_simulation.specs.declared.same_ports.Spelling.{Spelling}
use Rattle.library_simulation.specs.declared.same_ports.Spelling.TheVariants.{Exact, AnyCase}

-- two names are the same
abbrev pub same_name : Spelling → List ℕ → List ℕ → Bool
same_name Exact one other = bytes_eq one other
same_name AnyCase one other = str_eq_ignore_ascii_case one other

-- a name as others are compared with it byte for byte: itself, or in lower case where the case of letters does not count
abbrev pub looked_up : Spelling → List ℕ → List ℕ
looked_up Exact name = name
looked_up AnyCase name = lowered name

-- two ports have the same name and direction
abbrev pub same_port : Spelling → VPort → VPort → Bool
same_port spelling one other = same_name spelling one.name other.name && same_fact one.input other.input

-- two lists of ports are the same, in order
abbrev pub same_ports : Spelling → List VPort → List VPort → Bool
same_ports spelling [] [] = true
same_ports spelling (port ∷ ports) (other ∷ others) = same_port spelling port other && same_ports spelling ports others
same_ports spelling _ _ = false
