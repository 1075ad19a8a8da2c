-- How cores are found by their names.
use Rattle.std.specs.Prelude.{◌≡◌, ℕ, List, [], ◌∷◌, ◌++◌, length, Option, Some, None, slice_get}
use Rattle.std.specs.List.{position_from}
use Rattle.std.specs.Option.{option_and_then}
use Rattle.std.specs.Str.{bytes_eq}
use Rattle.bool_functions.specs.NameList.{number_of}
use Rattle.driver_models.specs.declared.cores.Core.{Core}
use Rattle.driver_models.specs.Cores as spec

abbrev pub core_of : Core → spec.Core
core_of core = record { name = core.name.now; ports = core.ports.now }

-- Of the names that cores are folded to, each stands in a list once, and beside it the number of the first core of this name.
pub record AreFound (fold : List ℕ → List ℕ) (folded : List (List ℕ)) (firsts : List ℕ) (cores : List spec.Core) : Type 0 where
  pub sized : length firsts ≡ length folded
  pub first : (x : List ℕ) → option_and_then (slice_get firsts) (number_of folded x) ≡ position_from
      (λ core. bytes_eq x (fold core.name)) 0 cores

-- what a core's number is among the first numbers, where its name is added or is there
abbrev pub with_first : Option ℕ → List ℕ → ℕ → List ℕ
with_first (Some i) firsts n = firsts ++ n ∷ []
with_first None firsts n = firsts
