-- The text of a declared name.
use Rattle.std.specs.Prelude.{ℕ, List, ◌++◌, codes}

-- a declaration of this name behind these bytes
abbrev pub name_line : List ℕ → List ℕ → List ℕ
name_line before name = before ++ (name ++ codes ";\n")
