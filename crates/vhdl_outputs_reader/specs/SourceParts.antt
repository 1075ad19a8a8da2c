-- The inputs and the states among sources.
use Rattle.std.specs.Prelude.{ℕ, Bool, nat_eq, List, [], ◌∷◌, ◌++◌}
use Rattle.std.specs.List.{flat_map, list_any}
use Rattle.cell_machine.specs.declared.outputs.Source.{Source}
use Rattle.cell_machine.specs.declared.outputs.Source.TheVariants as source

-- the number of a source that is an input
abbrev pub pin_of : Source → List ℕ
pin_of (source.Pin p) = p ∷ []
pin_of (source.State g) = []

-- the number of a source that is a state
abbrev pub state_of : Source → List ℕ
state_of (source.Pin p) = []
state_of (source.State g) = g ∷ []

-- the numbers of the inputs, in order
abbrev pub pins_of : List Source → List ℕ
pins_of = flat_map pin_of

-- the numbers of the states, in order
abbrev pub states_of : List Source → List ℕ
states_of = flat_map state_of

-- the number of a source is among these of its kind
unfoldable pub is_numbered : Source → List ℕ → List ℕ → Bool
is_numbered (source.Pin p) pins states = list_any (nat_eq p) pins
is_numbered (source.State g) pins states = list_any (nat_eq g) states

-- these numbers of inputs, with that of a source behind them, where it is an input
unfoldable pub pins_with : Source → List ℕ → List ℕ
pins_with (source.Pin p) pins = pins ++ p ∷ []
pins_with (source.State g) pins = pins

-- these numbers of states, with that of a source behind them, where it is a state
unfoldable pub states_with : Source → List ℕ → List ℕ
states_with (source.Pin p) states = states
states_with (source.State g) states = states ++ g ∷ []
