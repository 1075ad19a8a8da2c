-- The numbers and words of the reasons to refuse a cell (this project's).
use Rattle.std.specs.Prelude.{ℕ, List, codes}
use Rattle.cell_refusals.specs.declared.refusal.Reason.{Reason}
use Rattle.cell_refusals.specs.declared.refusal.Reason.TheVariants as reason

abbrev pub number_of_reason : Reason → ℕ
number_of_reason reason.Direction = 1
number_of_reason reason.ThreeState = 2
number_of_reason reason.Bank = 3
number_of_reason reason.LeftOutState = 4
number_of_reason reason.ClearPreset = 5
number_of_reason reason.Duplicate = 6
number_of_reason reason.Malformed = 7
number_of_reason reason.UnknownName = 8
number_of_reason reason.Coupled = 9
number_of_reason reason.NoFunction = 10
number_of_reason reason.OwnCondition = 11
number_of_reason reason.Number = 12
number_of_reason reason.Limit = 13
number_of_reason reason.UdpInputs = 14
number_of_reason reason.Width = 15

abbrev pub word_of_reason : Reason → List ℕ
word_of_reason reason.Direction = codes "direction"
word_of_reason reason.ThreeState = codes "three_state"
word_of_reason reason.Bank = codes "bank"
word_of_reason reason.LeftOutState = codes "left_out_state"
word_of_reason reason.ClearPreset = codes "clear_preset"
word_of_reason reason.Duplicate = codes "duplicate"
word_of_reason reason.Malformed = codes "malformed"
word_of_reason reason.UnknownName = codes "unknown_name"
word_of_reason reason.Coupled = codes "coupled"
word_of_reason reason.NoFunction = codes "no_function"
word_of_reason reason.OwnCondition = codes "own_condition"
word_of_reason reason.Number = codes "number"
word_of_reason reason.Limit = codes "limit"
word_of_reason reason.UdpInputs = codes "udp_inputs"
word_of_reason reason.Width = codes "width"
