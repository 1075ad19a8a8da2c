-- The commands that work on files: how words ask for each. This project's rule.
use Rattle.std.specs.Prelude.{ℕ, List, [], ◌∷◌, codes, Option}
use Rattle.std.specs.List.{find}
use Rattle.std.specs.Str.{bytes_eq}
use Rattle.text_io.specs.declared.file_commands.FileCommand.{FileCommand}
use Rattle.text_io.specs.declared.file_commands.FileCommand.TheVariants.{Translate, Simulate, ReplayVerilog, ReplayVital, Audit}
use Rattle.text_io.specs.declared.slots.InSlot.TheVariants.{Library, Verilog, Vital, Stimulus}
use Rattle.text_io.specs.declared.slots.OutSlot.TheVariants.{VerilogText, VitalText}
use Rattle.text_io.specs.declared.slots.Slot.{Slot}
use Rattle.text_io.specs.declared.slots.Slot.TheVariants.{Input, Output}

-- how words ask for a command: its own word, and then one for each of its files, which are bound to these slots in this order
pub record FileForm : Type 0 where
  pub word : List ℕ
  pub slots : List Slot

-- the form of each command
abbrev pub form_of : FileCommand → FileForm
form_of Translate = record { word = codes "translate"; slots = Input Library ∷ Output VerilogText ∷ Output VitalText ∷ [] }
form_of Simulate = record { word = codes "simulate"; slots = Input Library ∷ Input Verilog ∷ Input Vital ∷ Input Stimulus ∷ [] }
form_of ReplayVerilog = record { word = codes "replay-verilog"; slots = Input Verilog ∷ Input Stimulus ∷ [] }
form_of ReplayVital = record { word = codes "replay-vital"; slots = Input Vital ∷ Input Stimulus ∷ [] }
form_of Audit = record { word = codes "audit"; slots = Input Library ∷ Input Verilog ∷ [] }

-- all of them
abbrev pub file_commands : List FileCommand
file_commands = Translate ∷ Simulate ∷ ReplayVerilog ∷ ReplayVital ∷ Audit ∷ []

-- the command of this word
abbrev pub command_of : List ℕ → Option FileCommand
command_of word = find (λ command. bytes_eq word (form_of command).word) file_commands

-- the slots of the command's files, in the order of its words
abbrev pub slots_of : FileCommand → List Slot
slots_of command = (form_of command).slots
