-- Where the texts of a cell are wrong (this project's rules).
use Rattle.std.specs.Prelude.{ℕ, List, ◌++◌, option_to_list}
use Rattle.cell_attributes.specs.declared.state_readings.StateReading.{StateReading}
use Rattle.cell_attributes.specs.Texts.{malformed_at, unknown_at, coupled_at}

-- A function text does not read or is too long, a table does not read, a needed attribute is absent, or the arguments
-- of a group are not two.
unfoldable pub malformed_in : StateReading → List ℕ
malformed_in r =
    option_to_list r.malformed
    ++ (malformed_at r.data_text ++ (malformed_at r.control ++ (malformed_at r.clear ++ malformed_at r.preset)))

-- A text names nothing of the allowed kind.
unfoldable pub unknown_in : StateReading → List ℕ
unknown_in r =
    option_to_list r.unknown
    ++ (unknown_at r.data_text ++ (unknown_at r.control ++ (unknown_at r.clear ++ unknown_at r.preset)))

-- A state text names another group's variable or node, a text other than `next_state` and `data_in` names the group's
-- own variable, or a row of a table of several nodes looks at a present state.
unfoldable pub coupled_in : StateReading → List ℕ
coupled_in r =
    option_to_list r.coupled
    ++ (coupled_at r.data_text ++ (coupled_at r.control ++ (coupled_at r.clear ++ coupled_at r.preset)))
