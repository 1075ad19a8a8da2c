-- Bytes with a mark or without one.
use Rattle.std.specs.Prelude.{ℕ, List, Bool}

pub record Marked : Type 0 where
  pub bytes : List ℕ
  pub is_marked : Bool
