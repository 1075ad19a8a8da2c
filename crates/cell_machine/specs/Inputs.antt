-- The input pins of a cell and the numbers of its inputs. Inputs are numbered among the input pins, in their order.
use Rattle.std.specs.Prelude.{ℕ, Bool, List, map, count_by, take, slice_index_or}
use Rattle.trit_cubes.specs.declared.trits.Trit.{Trit}
use Rattle.trit_cubes.specs.declared.trits.Trit.TheVariants.{Unknown}
use Rattle.cell_machine.specs.declared.pins.Pin.{Pin}
use Rattle.cell_machine.specs.CellRules.{is_input}

-- whether a pin is an input
abbrev pub is_input_at : Pin → Bool
is_input_at pin = is_input pin.direction

-- the number of an entry of a list among those that pass a test: how many of these stand before it
abbrev pub number_among : {X : Type 0} → (X → Bool) → List X → ℕ → ℕ
number_among p xs i = count_by p (take i xs)

-- the value that has this number, X where there is none
abbrev pub numbered_value : List Trit → ℕ → Trit
numbered_value values i = slice_index_or values i Unknown

-- the number of a pin among the inputs, and its value, of the values of the inputs
abbrev pub input_number : List Pin → ℕ → ℕ
input_number = number_among is_input_at

abbrev pub pin_value : List Pin → List Trit → ℕ → Trit
pin_value pins v p = numbered_value v (input_number pins p)

abbrev pub pin_values : List Pin → List Trit → List ℕ → List Trit
pin_values pins v support = map (pin_value pins v) support
