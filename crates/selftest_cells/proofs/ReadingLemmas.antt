-- How the desk of the library changes.
use Rattle.std.proofs.Common.{◌≡◌, ℕ, Bool, true, false, List, [], drop, Some, None, refl, ap, if◌then◌else◌, IsTrue}
use Rattle.text_io.specs.declared.slots.InSlot.{InSlot}
use Rattle.text_io.specs.declared.slots.InSlot.TheVariants.{Library, Verilog, Vital, Stimulus}
use Rattle.text_io.specs.declared.slots.OutSlot.{OutSlot}
use Rattle.text_io.specs.declared.slots.Slot.TheVariants.{Input}
use Rattle.text_io.specs.Slots.{same_out}
use Rattle.text_io.specs.Desk.{is_bound, took, wrote}
use Rattle.selftest_cells.specs.Reading.{of_library, reads_library}

taken_slot : (bytes rest : List ℕ) (count : ℕ) → rest ≡ drop count bytes → (other : InSlot)
    → of_library rest other ≡ (took (reads_library bytes) Library count).left other
unfolding reads_library took
taken_slot bytes rest count e Library = ap Some e
taken_slot bytes rest count e Verilog = refl
taken_slot bytes rest count e Vital = refl
taken_slot bytes rest count e Stimulus = refl

-- after so many bytes were read
pub library_took : (bytes rest : List ℕ) (count : ℕ) → rest ≡ drop count bytes
    → reads_library rest ≡ took (reads_library bytes) Library count
unfolding reads_library took
library_took bytes rest count e = λ i. record {
  words = [];
  folder = None;
  bound = (reads_library bytes).bound;
  left = λ other. taken_slot bytes rest count e other i;
  written = λ _. None;
}

same_either : {X : Type 0} (b : Bool) (x : X) → x ≡ (if b then x else x)
same_either true x = refl
same_either false x = refl

-- after nothing was written
pub library_wrote : (bytes : List ℕ) (slot : OutSlot) → reads_library bytes ≡ wrote (reads_library bytes) slot []
unfolding reads_library wrote
library_wrote bytes slot = λ i. record {
  words = [];
  folder = None;
  bound = (reads_library bytes).bound;
  left = (reads_library bytes).left;
  written = λ other. same_either (same_out slot other) None i;
}

-- after so many bytes of a bound slot were read: it is that of the library
pub bound_took :
    (bytes rest : List ℕ) (count : ℕ) (slot : InSlot) → IsTrue (is_bound (reads_library bytes) (Input slot))
    → rest ≡ drop count bytes
    → reads_library rest ≡ took (reads_library bytes) slot count
unfolding reads_library
bound_took bytes rest count Library h e = library_took bytes rest count e
bound_took bytes rest count Verilog h e = absurd cc
bound_took bytes rest count Vital h e = absurd cc
bound_took bytes rest count Stimulus h e = absurd cc
