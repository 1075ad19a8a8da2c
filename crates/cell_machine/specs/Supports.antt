-- What the rules of a cell give for the steps of its groups.
use Rattle.std.specs.Prelude.{ℕ, ◌+◌, ◌<◌, ◌≤◌, ⊤, List, [], ◌∷◌, length, count_by}
use Rattle.bool_functions.specs.Tree.{name_bound}
use Rattle.cell_machine.specs.declared.groups.StateGroup.{StateGroup}
use Rattle.cell_machine.specs.declared.outputs.Source.{Source}
use Rattle.cell_machine.specs.declared.outputs.Source.TheVariants as source
use Rattle.cell_machine.specs.declared.outputs.OutputPin.{OutputPin}
use Rattle.cell_machine.specs.Values.{IsBounded}
use Rattle.cell_machine.specs.Step.{KindIsBounded}
use Rattle.cell_machine.specs.declared.pins.Pin.{Pin}
use Rattle.cell_machine.specs.declared.checks.Check.{Check}
use Rattle.cell_machine.specs.Inputs.{is_input_at, input_number}

-- each number of the list is above x
abbrev pub AllAbove : ℕ → List ℕ → Type 0
AllAbove x [] = ⊤
AllAbove x (y ∷ ys) = (x < y) × AllAbove x ys

-- each number is below all that come after it
abbrev pub Ascending : List ℕ → Type 0
Ascending [] = ⊤
Ascending (x ∷ xs) = AllAbove x xs × Ascending xs

-- each number of the list is below n
abbrev pub AllBelow : ℕ → List ℕ → Type 0
AllBelow n [] = ⊤
AllBelow n (y ∷ ys) = (y < n) × AllBelow n ys

-- a group, whose state has this name, as its steps need it
pub record GroupFacts (name : ℕ) (group : StateGroup) : Type 0 where
  pub named : name + 1 < 96
  pub bounded : KindIsBounded group.kind
  pub ascends : Ascending group.support
  pub inside : AllBelow 96 group.support
  pub few : length group.support ≤ 8
  pub some : 0 < length group.support

-- the states among the sources are those of so many groups
abbrev pub StatesBelow : ℕ → List Source → Type 0
StatesBelow n [] = ⊤
StatesBelow n (source.Pin p ∷ sources) = StatesBelow n sources
StatesBelow n (source.State g ∷ sources) = (g < n) × StatesBelow n sources

-- an output of a cell with so many groups, as its value needs it
pub record OutputFacts (groups : ℕ) (output : OutputPin) : Type 0 where
  pub bounded : name_bound output.function ≤ 96
  pub states : StatesBelow groups output.support
  pub few : length output.support ≤ 10

-- a check of a cell with these pins, as its reports need it
pub record CheckFacts (pins : List Pin) (k : Check) : Type 0 where
  pub bounded : IsBounded k.condition
  pub first : input_number pins k.first.pin < count_by is_input_at pins
  pub second : input_number pins k.second.pin < count_by is_input_at pins
