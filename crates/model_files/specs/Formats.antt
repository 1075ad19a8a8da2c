-- The formats of model files: where a file is bound, the word that tells of it, and the tag of its traces. This project's format.
use Rattle.std.specs.Prelude.{ℕ, List, codes}
use Rattle.text_io.specs.declared.slots.InSlot.{InSlot}
use Rattle.text_io.specs.declared.slots.InSlot.TheVariants as slot
use Rattle.model_files.specs.declared.format.ModelFormat.{ModelFormat}
use Rattle.model_files.specs.declared.format.ModelFormat.TheVariants.{Verilog, Vital}

-- where a file of this format is bound
abbrev pub slot_of : ModelFormat → InSlot
slot_of Verilog = slot.Verilog
slot_of Vital = slot.Vital

-- the word that tells of such a file
abbrev pub word_of_format : ModelFormat → List ℕ
word_of_format Verilog = codes "verilog"
word_of_format Vital = codes "vital"

-- the tag of the lines of its models' traces, the letter V or H
abbrev pub tag_of : ModelFormat → ℕ
tag_of Verilog = 86
tag_of Vital = 72
