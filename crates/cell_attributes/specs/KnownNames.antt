-- The names with which a name that comes later clashes (this project's rules).
use Rattle.std.specs.Prelude.{◌≡◌, ℕ, Bool, not, ◌&&◌, List, [], ◌∷◌, bytes_eq, if◌then◌else◌}
use Rattle.std.specs.List.{list_any}
use Rattle.cell_attributes.specs.declared.declarations.Role.{Role}
use Rattle.cell_attributes.specs.declared.declarations.Role.TheVariants.{Bearer, Node, Plain}
use Rattle.cell_attributes.specs.declared.declarations.Known.{Known}
use Rattle.cell_attributes.specs.Declarations.{Declared, may_share, clashes}

-- whether a name with this role clashes with another one
abbrev pub clashes_as : List ℕ → Role → Declared → Bool
clashes_as name role other = bytes_eq name other.name && not (may_share role other.role)

-- The offset of a name that clashes with an earlier one.
abbrev pub clash_in : List Declared → Declared → List ℕ
clash_in earlier one = if list_any (clashes one) earlier then one.at ∷ [] else []

-- These are the names with which a name of this role clashes.
abbrev pub IsAgainst : Role → List Declared → List (List ℕ) → Type 0
IsAgainst role earlier names = (name : List ℕ) → list_any (bytes_eq name) names ≡ list_any (clashes_as name role) earlier

-- These are, for each role, the names with which a name of that role clashes.
pub record IsKnown (earlier : List Declared) (known : Known) : Type 0 where
  pub plain : IsAgainst Plain earlier known.plain
  pub bearers : IsAgainst Bearer earlier known.bearers
  pub nodes : IsAgainst Node earlier known.nodes
