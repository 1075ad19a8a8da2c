-- The scan enable of a view is a pin of its cell.
use Rattle.std.proofs.Common.{◌≡◌, ℕ, ◌<◌, Bool, List, [], ◌∷◌, Option, Some, None, subst}
use Rattle.std.specs.Prelude.{⊤}
use Rattle.liberty_groups.specs.declared.tree.Group.{Group}
use Rattle.cell_machine.specs.Supports.{AllBelow}
use Rattle.scan_cells.specs.declared.enables.Enable.{Enable}
use Rattle.scan_cells.specs.Enables.{active_of, enable_or, first_enable}

abbrev IsBelow : ℕ → Option Enable → Type 0
IsBelow n None = ⊤
IsBelow n (Some enable) = enable.pin < n

below_or : (n pin : ℕ) (active : Option Bool) (later : Option Enable) → pin < n → IsBelow n later
    → IsBelow n (enable_or active pin later)
below_or n pin None later h k = k
below_or n pin (Some active) later h k = h

below_first : (n : ℕ) (owners : List Group) (pins : List ℕ) → AllBelow n pins → IsBelow n (first_enable owners pins)
below_first n [] pins h = tt
below_first n (owner ∷ owners) [] h = tt
below_first n (owner ∷ owners) (pin ∷ pins) h =
    below_or n pin (active_of owner) (first_enable owners pins) h.0 (below_first n owners pins h.1)

pub enable_below :
    (n : ℕ) (owners : List Group) (pins : List ℕ) (enable : Enable) → AllBelow n pins → first_enable owners pins ≡ Some enable
    → enable.pin < n
enable_below n owners pins enable h e = subst (IsBelow n) e (below_first n owners pins h)
