-- The places of names, where these are kept.
use Rattle.std.proofs.Common.{◌≡◌, ℕ, List, position, Option, Some, None, subst}
use Rattle.std.specs.Str.{bytes_eq}
use Rattle.first_names.specs.declared.places.FirstNames.{FirstNames}
use Rattle.first_names.specs.Places.{place_by}
use Rattle.verilog_reader.specs.Netlist.{MayFind}

-- the number of a name, where the names are kept
pub may_find : {X : Type 0} (name_of : X → List ℕ) (kept : Option FirstNames) (things : List X) (found : FirstNames) (x : List ℕ)
    → MayFind name_of kept things → kept ≡ Some found
    → place_by found x ≡ position (λ y. bytes_eq x (name_of y)) things
may_find name_of (Some other) things found x f e = let same : other ≡ found = cc
    in subst (λ o. place_by o x ≡ position (λ y. bytes_eq x (name_of y)) things) same (f.first x)
may_find name_of None things found x f e = absurd cc
