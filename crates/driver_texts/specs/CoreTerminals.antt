-- The text of the terminals of a core, by the order of the driver's ports. (IEEE 1364-2005, 12.3.5; IEEE 1076-1993, 4.3.2.2,
-- positional association.)
use Rattle.std.specs.Prelude.{ℕ, List, ◌++◌, length, Option, Some, None, codes}
use Rattle.std.specs.List.{flat_map}
use Rattle.driver_models.specs.declared.model.DriverModel.{DriverModel}
use Rattle.driver_models.specs.Wires.{numbered}
use Rattle.driver_texts.specs.NumberedPorts.{NumberedPort, ports_of}
use Rattle.driver_texts.specs.NumberedNames.{listed_names_text}

-- what stands at the core for a port: of a driven output the wire of this word with its number
abbrev pub terminal_by : List ℕ → List ℕ → Option ℕ → List ℕ
terminal_by value name None = name
terminal_by value name (Some number) = numbered value number

-- a terminal before another one
abbrev pub next_terminal_text : List ℕ → NumberedPort → List ℕ
next_terminal_text value at = terminal_by value at.port.name at.number ++ codes ", "

-- what stands for each port, then the enables, where wires to buffers' inputs and to their enables begin with these words
abbrev pub terminals_text : List ℕ → List ℕ → DriverModel → List ℕ
terminals_text value enable m = flat_map (next_terminal_text value) (ports_of m)
    ++ listed_names_text enable (length m.driver.drives)

-- the line of the instance of a core, whose name stands between these bytes
abbrev pub core_line_text : List ℕ → List ℕ → List ℕ → List ℕ → DriverModel → List ℕ
core_line_text before behind value enable m =
    before ++ (m.core ++ (behind ++ (terminals_text value enable m ++ codes ");\n")))
