-- How the text of the library is read: the cells are made one after another, each when the bytes before it are read. This
-- project's rule.
use Rattle.std.specs.Prelude.{ℕ, zero, suc, ◌-◌, Bool, true, false, List, [], ◌∷◌, ◌++◌, drop, Option, Some, None}
use Rattle.liberty_groups.specs.Writing.{group_text}
use Rattle.text_io.specs.declared.slots.InSlot.{InSlot}
use Rattle.text_io.specs.declared.slots.InSlot.TheVariants.{Library, Verilog, Vital, Stimulus}
use Rattle.text_io.specs.declared.slots.Slot.TheVariants.{Input}
use Rattle.text_io.specs.Slots.{same_slot}
use Rattle.text_io.specs.Desk.{DeskState}
use Rattle.selftest_cells.specs.declared.own_library.OwnLibrary.{OwnLibrary}
use Rattle.selftest_cells.specs.Library.{cell_group}

-- what stands behind the cells
abbrev pub end_text : List ℕ
end_text = 125 ∷ 10 ∷ []

-- the texts of so many cells behind the one with this number, and the end
abbrev pub text_behind : ℕ → ℕ → List ℕ
text_behind made zero = end_text
text_behind made (suc n) = group_text (cell_group (suc made)) ++ text_behind (suc made) n

-- what comes behind the piece that is read, where so many cells of so many were made; nothing behind the end
abbrev pub to_come : Bool → ℕ → ℕ → List ℕ
to_come true made cells = []
to_come false made cells = text_behind made (cells - made)

-- what is left to read of the library
abbrev pub left_of : OwnLibrary → List ℕ
left_of own = drop own.taken own.piece.items ++ to_come own.is_ended own.made own.cells

-- these bytes are left of the library, and other slots tell nothing
abbrev pub of_library : List ℕ → InSlot → Option (List ℕ)
of_library bytes Library = Some bytes
of_library bytes Verilog = None
of_library bytes Vital = None
of_library bytes Stimulus = None

-- a desk on which a library is bound of which these bytes are left, and nothing else
unfoldable pub reads_library : List ℕ → DeskState
reads_library bytes = record {
  words = [];
  folder = None;
  bound = same_slot (Input Library);
  left = of_library bytes;
  written = λ _. None;
}
