-- The names in a module that are not the cell's own (this project's choice). No kept name is one of these.
use Rattle.std.specs.Prelude.{ℕ, zero, suc, List, [], ◌∷◌, ◌++◌, codes, decimal, if◌then◌else◌}
use Rattle.verilog_tokens.specs.Kept.{is_kept_cell_name}

-- a cell's name where Verilog text keeps it, else the other one
abbrev pub kept_or : List ℕ → List ℕ → List ℕ
kept_or other name = if is_kept_cell_name name then name else other

-- The name of a module, of the cell with this number: the cell's, or `cell` and its number where that is not kept.
abbrev pub module_name : ℕ → List ℕ → List ℕ
module_name number name = kept_or (codes "cell" ++ decimal number) name

-- The name of the module of a cell's three-state drivers, of the cell with this number: the cell's, or `lib_`, its number and
-- `_z` where that is not kept.
abbrev pub driver_name : ℕ → List ℕ → List ℕ
driver_name number name = kept_or (codes "lib_" ++ (decimal number ++ codes "_z")) name

-- a word and the numbers from 1, n of them
abbrev pub numbered : List ℕ → ℕ → List (List ℕ)
numbered word zero = []
numbered word (suc n) = numbered word n ++ (word ++ decimal (suc n)) ∷ []

-- the wires of the states
abbrev pub state_wires : ℕ → List (List ℕ)
state_wires = numbered (codes "lib_s")

-- the wires of the conditions
abbrev pub condition_wires : ℕ → List (List ℕ)
condition_wires = numbered (codes "lib_c")

-- the register that each violation changes
abbrev pub notifier_name : List ℕ
notifier_name = codes "lib_n"
