-- The lines on a model file or a stimulus that is not read (this project's format).
use Rattle.std.specs.Prelude.{ℕ, List, [], ◌++◌, codes, decimal}
use Rattle.udp_tables.specs.declared.models.ModelFault.{ModelFault}
use Rattle.udp_tables.specs.declared.models.ModelFault.TheVariants as fault
use Rattle.udp_tables.specs.ModelFaults.{fault_place}
use Rattle.stimulus.specs.declared.faults.Cause.{Cause}
use Rattle.stimulus.specs.CauseWords.{word_of_cause}
use Rattle.model_files.specs.declared.format.ModelFormat.{ModelFormat}
use Rattle.model_files.specs.Formats.{word_of_format}

-- the word of a fault
unfoldable pub word_of_fault : ModelFault → List ℕ
word_of_fault (fault.Lexical at) = codes "lexical"
word_of_fault (fault.Syntax at) = codes "syntax"
word_of_fault (fault.TwoEdges at) = codes "two edges"
word_of_fault (fault.Width at) = codes "width"
word_of_fault (fault.Undefined at) = codes "undefined"
word_of_fault (fault.Twice at) = codes "twice"
word_of_fault (fault.Undriven at) = codes "undriven"
word_of_fault (fault.Unequal at) = codes "unequal"
word_of_fault fault.Memory = []

-- a text of models that is refused: the word of its format, the offset of its fault, and the fault's word
unfoldable pub model_fault_line : ModelFormat → ModelFault → List ℕ
model_fault_line format fault =
    word_of_format format ++ (codes " refused at "
    ++ (decimal (fault_place fault) ++ (codes ": " ++ (word_of_fault fault ++ codes "\n"))))

-- a stimulus with a bad line: the first one's number, from 1, and its cause
unfoldable pub stimulus_fault_line : ℕ → Cause → List ℕ
stimulus_fault_line line cause = codes "stimulus line " ++ (decimal line ++ (codes ": " ++ (word_of_cause cause ++ codes "\n")))

-- a file with more bytes than its limit
unfoldable pub model_too_long_line : ModelFormat → List ℕ
model_too_long_line format = word_of_format format ++ codes " too long\n"

abbrev pub stimulus_too_long_line : List ℕ
stimulus_too_long_line = codes "stimulus too long\n"
