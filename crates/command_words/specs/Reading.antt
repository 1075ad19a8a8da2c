-- What words ask for. This project's rule; names are kept as in Verilog text, and function texts are Liberty's.
use Rattle.std.specs.Prelude.{ℕ, ◌&&◌, List, [], ◌∷◌, length, nat_le, codes, Option, Some, None, Result, Ok, Err, if◌then◌else◌}
use Rattle.std.specs.Str.{bytes_eq}
use Rattle.bool_functions.specs.declared.tree.Node.{Node}
use Rattle.bool_functions.specs.declared.faults.FunctionFault.{FunctionFault}
use Rattle.bool_functions.specs.FunctionText.{free_names, reading_of}
use Rattle.text_io.specs.declared.file_commands.FileCommand.{FileCommand}
use Rattle.text_io.specs.Plan.{asked_files}
use Rattle.udp_tables.specs.declared.table.Udp.{Udp}
use Rattle.udp_tables.specs.Generated.{function_primitive}
use Rattle.verilog_tokens.specs.Kept.{is_kept_cell_name}
use Rattle.command_words.specs.declared.commands.Command.{Command}
use Rattle.command_words.specs.declared.commands.Command.TheVariants as command
use Rattle.command_words.specs.Numerals.{asked_cells}

-- the primitive of a function text that was read, where it has 1 to 10 names
abbrev pub primitive_read : List ℕ → ℕ → Result Node FunctionFault → Option Udp
primitive_read name count (Ok tree) = if nat_le 1 count && nat_le count 10 then Some (function_primitive name tree count)
    else None
primitive_read name count (Err fault) = None

-- The primitive that a name and a function text ask for: the name is one that Verilog text keeps for a cell, and the text
-- reads as a function of 1 to 10 names, which are numbered by their first appearances.
unfoldable pub asked_primitive : List ℕ → List ℕ → Option Udp
asked_primitive name text =
    if is_kept_cell_name name then primitive_read name (length (free_names text)) (reading_of (free_names text) text) else None

-- the command that prints this primitive, where there is one
abbrev pub udp_command : Option Udp → Command
udp_command None = command.Usage
udp_command (Some udp) = command.Udp udp

-- what the words after `udp` ask for: a name and a function text
abbrev pub udp_reading : List (List ℕ) → Command
udp_reading [] = command.Usage
udp_reading (name ∷ []) = command.Usage
udp_reading (name ∷ (text ∷ [])) = udp_command (asked_primitive name text)
udp_reading (name ∷ (text ∷ (more ∷ others))) = command.Usage

-- the command that makes a run on so many test cells, where there is such a number
abbrev pub selftest_command : Option ℕ → Command
selftest_command None = command.Usage
selftest_command (Some cells) = command.Selftest cells

-- what the words after `selftest` ask for: a number of cells
abbrev pub selftest_reading : List (List ℕ) → Command
selftest_reading [] = command.Usage
selftest_reading (number ∷ []) = selftest_command (asked_cells number)
selftest_reading (number ∷ (more ∷ others)) = command.Usage

-- the command of these files, where there is one
abbrev pub files_command : Option FileCommand → Command
files_command None = command.Usage
files_command (Some asked) = command.Files asked

-- what words ask for; usage where they have no reading
abbrev pub reading : List (List ℕ) → Command
reading [] = command.Usage
reading (first ∷ words) =
    if bytes_eq first (codes "udp") then udp_reading words
    else if bytes_eq first (codes "selftest") then selftest_reading words
    else files_command (asked_files (first ∷ words))
