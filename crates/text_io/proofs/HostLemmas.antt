-- How a desk changes that tells no content.
use Rattle.std.proofs.Common.{◌≡◌, ℕ, Bool, true, List, Option, Some, None, is_some, refl, sym, ◌∙◌, ap}
use Rattle.text_io.specs.declared.slots.InSlot.{InSlot}
use Rattle.text_io.specs.declared.slots.OutSlot.{OutSlot}
use Rattle.text_io.specs.declared.slots.Slot.{Slot}
use Rattle.text_io.specs.declared.slots.Slot.TheVariants.{Input, Output}
use Rattle.text_io.specs.Slots.{by_side, same_in, same_out, put_in, put_out, put_slot}
use Rattle.text_io.specs.Desk.{IsFileAt, opened, created, took, wrote}
use Rattle.text_io.specs.Host.{reads_files}
use Rattle.text_io.proofs.PutLemmas.{push_if, if_same}
use Rattle.text_io.proofs.Took.{took-same}
use Rattle.text_io.proofs.Wrote.{wrote-same}

opened_by : (inputs : InSlot → Bool) (outputs : OutSlot → Bool) (slot : InSlot) (other : Slot)
    → by_side (put_in inputs slot true) outputs other ≡ put_slot (by_side inputs outputs) (Input slot) true other
opened_by inputs outputs slot (Input other) = refl
opened_by inputs outputs slot (Output other) = refl

created_by : (inputs : InSlot → Bool) (outputs : OutSlot → Bool) (slot : OutSlot) (other : Slot)
    → by_side inputs (put_out outputs slot true) other ≡ put_slot (by_side inputs outputs) (Output slot) true other
created_by inputs outputs slot (Input other) = refl
created_by inputs outputs slot (Output other) = refl

-- a slot that is bound to a file, whose bytes are not told
pub files-opened : {X : Type 0} (words : List (List ℕ)) (held held' : InSlot → Option X) (outputs : OutSlot
    → Bool) (slot : InSlot) (file : X) (bytes : List ℕ)
    → held' ≡ put_in held slot (Some file)
    → reads_files words (λ other. is_some (held' other)) outputs ≡ opened
    (reads_files words (λ other. is_some (held other)) outputs) slot bytes
unfolding reads_files opened
files-opened words held held' outputs slot file bytes set = ap (λ h. reads_files words (λ other. is_some (h other)) outputs) set
    ∙ λ i. record {
      words = words;
      folder = None;
      bound = λ other. (ap (λ held_now. by_side held_now outputs other)
          (λ j t. push_if is_some (same_in slot t) (Some file) (held t) j) ∙ opened_by (λ t. is_some (held t)) outputs slot other) i;
      left = λ other. sym (if_same (same_in slot other) None) i;
      written = λ _. None;
    }

-- no content is told of a file that is bound
pub file_untold : (words : List (List ℕ)) (inputs : InSlot → Bool) (outputs : OutSlot → Bool) (place : ℕ) (bytes : List ℕ)
    → IsFileAt (reads_files words inputs outputs) place bytes
unfolding reads_files
file_untold words inputs outputs place bytes = tt

-- a slot that is read
pub files-took : (words : List (List ℕ)) (inputs : InSlot → Bool) (outputs : OutSlot → Bool) (slot : InSlot) (count : ℕ)
    → reads_files words inputs outputs ≡ took (reads_files words inputs outputs) slot count
unfolding reads_files
files-took words inputs outputs slot count = sym (took-same (reads_files words inputs outputs) slot count refl)

-- a slot that is bound for writing
pub files-created : {X : Type 0} (words : List (List ℕ)) (inputs : InSlot → Bool) (held held' : OutSlot
    → Option X) (slot : OutSlot) (file : X)
    → held' ≡ put_out held slot (Some file)
    → reads_files words inputs (λ other. is_some (held' other)) ≡ created
    (reads_files words inputs (λ other. is_some (held other))) slot
unfolding reads_files created
files-created words inputs held held' slot file set = ap (λ h. reads_files words inputs (λ other. is_some (h other))) set
    ∙ λ i. record {
      words = words;
      folder = None;
      bound = λ other. (ap (λ held_now. by_side inputs held_now other)
          (λ j t. push_if is_some (same_out slot t) (Some file) (held t) j) ∙ created_by inputs (λ t. is_some (held t)) slot other) i;
      left = λ _. None;
      written = λ other. sym (if_same (same_out slot other) None) i;
    }

-- a slot that is written
pub files-wrote : (words : List (List ℕ)) (inputs : InSlot → Bool) (outputs : OutSlot → Bool) (slot : OutSlot) (bytes : List ℕ)
    → reads_files words inputs outputs ≡ wrote (reads_files words inputs outputs) slot bytes
unfolding reads_files
files-wrote words inputs outputs slot bytes = sym (wrote-same (reads_files words inputs outputs) slot bytes refl)
