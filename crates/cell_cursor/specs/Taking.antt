-- What is read of the library on a desk.
use Rattle.std.specs.Prelude.{◌≡◌, ℕ, ◌≤◌, List, take, length, IfSome}
use Rattle.text_io.specs.declared.slots.InSlot.TheVariants.{Library}
use Rattle.text_io.specs.Desk.{DeskState, took}

-- These bytes were read of the library, and nothing else changed. They are the first ones that were left, where the desk
-- tells them.
pub record Takes (before after : DeskState) (taken : List ℕ) : Type 0 where
  pub state : after ≡ took before Library (length taken)
  pub told : IfSome (before.left Library) (λ left. (taken ≡ take (length taken) left) × (length taken ≤ length left))
