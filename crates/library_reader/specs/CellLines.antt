-- How a line tells a cell of a library: its name, and why it is refused (this project's format).
use Rattle.std.specs.Prelude.{ℕ, List, codes, if◌then◌else◌}
use Rattle.cell_machine.specs.CellRules.{is_name}
use Rattle.cell_reader.specs.declared.refusal.Refusal.{Refusal}
use Rattle.cell_reader.specs.ReasonWords.{number_of_reason, word_of_reason}
use Rattle.run_outcome.specs.Refusals.{refusal_text}

-- a name as a line shows it: one that no cell may bear, for its length or a byte of it, is a question mark
unfoldable pub printed_name : List ℕ → List ℕ
printed_name name = if is_name name then name else codes "?"

-- the end of a line on a cell that is refused, with the offset of the statement or group that meets the reason
abbrev pub refusal_line : Refusal → List ℕ
refusal_line refusal = refusal_text (number_of_reason refusal.reason) (word_of_reason refusal.reason) refusal.at
