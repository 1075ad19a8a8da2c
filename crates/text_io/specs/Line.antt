-- What gathering bytes before they are written comes to. This project's rule.
use Rattle.std.specs.Prelude.{◌≡◌, ℕ, List, ◌++◌, Result, OnOk, OnErr}
use Rattle.text_io.specs.declared.outside.Failed.{Failed}
use Rattle.text_io.specs.declared.slots.OutSlot.{OutSlot}
use Rattle.text_io.specs.Desk.{DeskState, wrote, IsPrefix}

-- of the bytes that waited and a text behind them, some were written to the slot, and the others wait
pub record Gathers (old new : DeskState) (slot : OutSlot) (before text after : List ℕ) : Type 0 where
  pub written : List ℕ
  pub state : new ≡ wrote old slot written
  pub joined : before ++ text ≡ written ++ after

-- a prefix of a text was written to the slot
pub record StopsWithin (old new : DeskState) (slot : OutSlot) (text : List ℕ) : Type 0 where
  pub part : List ℕ
  pub front : IsPrefix part text
  pub state : new ≡ wrote old slot part

-- After a call that puts a text behind the bytes that wait: on `Ok` some of them were written, and the others wait; on
-- `Failed` a prefix of all was written. Nothing else changed.
pub record PutsText {T : Type 0} (old new : DeskState) (slot : OutSlot) (before text after : List ℕ) (result : Result T Failed) :
    Type 0 where
  pub whole : OnOk result (Gathers old new slot before text after)
  pub part : OnErr result (StopsWithin old new slot (before ++ text))
