-- A value of a statement, and whether it stood between double quotes.
use Rattle.std.specs.Prelude.{ℕ, List, Bool}

pub record Text : Type 0 where
  pub bytes : List ℕ
  pub quoted : Bool
