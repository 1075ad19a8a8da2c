-- Lists of names that are a word and a number, from 1 on. (The names of wires and their order are this project's form.)
use Rattle.std.specs.Prelude.{ℕ, zero, suc, List, [], ◌++◌, codes}
use Rattle.std.specs.List.{flat_map}
use Rattle.driver_models.specs.Wires.{numbered}
use Rattle.driver_models.specs.Terminals.{all_numbered}

-- a name before another one in a list
abbrev pub next_name_text : List ℕ → List ℕ
next_name_text name = name ++ codes ", "

-- the names of a word with the numbers from 1 on, so many, in a list of names
abbrev pub listed_names_text : List ℕ → ℕ → List ℕ
listed_names_text word zero = []
listed_names_text word (suc n) = flat_map next_name_text (all_numbered word n) ++ numbered word (suc n)
