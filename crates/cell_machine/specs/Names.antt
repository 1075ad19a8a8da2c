-- The numbered names of a cell's functions. With P pins the name i below P is pin i, the name P + 2g is the state of
-- group g, and the name P + 2g + 1 is the second variable of group g (this project's rule).
use Rattle.std.specs.Prelude.{ℕ, ◌+◌, ◌*◌, ◌==◌, Bool, List, [], Option, Some, None}
use Rattle.std.specs.List.{list_any}
use Rattle.bool_functions.specs.declared.tree.Node.{Node}
use Rattle.bool_functions.specs.Tree.{names_of}
use Rattle.cell_machine.specs.declared.outputs.Source.{Source}
use Rattle.cell_machine.specs.declared.outputs.Source.TheVariants as source

-- the name of the state of group g, in a cell with so many pins
abbrev pub state_name : ℕ → ℕ → ℕ
state_name pins g = pins + 2 * g

-- the name of a source
abbrev pub source_name : ℕ → Source → ℕ
source_name pins (source.Pin p) = p
source_name pins (source.State g) = state_name pins g

-- whether the list holds this number
abbrev pub has : List ℕ → ℕ → Bool
has xs i = list_any (λ j. j == i) xs

-- the names that a function names where there is one
abbrev pub names_of_optional : Option Node → List ℕ
names_of_optional None = []
names_of_optional (Some f) = names_of f
