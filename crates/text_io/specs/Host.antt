-- What is known of a desk over real files: its words and which slots are open, and no content.
use Rattle.std.specs.Prelude.{ℕ, Bool, false, List, map, None, is_some, string_bytes}
use Rattle.text_io.specs.declared.host.FileDesk.{FileDesk}
use Rattle.text_io.specs.declared.slots.InSlot.{InSlot}
use Rattle.text_io.specs.declared.slots.OutSlot.{OutSlot}
use Rattle.text_io.specs.Slots.{by_side}
use Rattle.text_io.specs.Desk.{DeskState}
use Rattle.text_io.specs.EachSlot.{input_of, output_of}

-- a desk that tells no content, at which these slots are open
unfoldable pub reads_files : List (List ℕ) → (InSlot → Bool) → (OutSlot → Bool) → DeskState
reads_files words inputs outputs = record {
  words = words;
  folder = None;
  bound = by_side inputs outputs;
  left = λ _. None;
  written = λ _. None;
}

-- a desk that tells no content, at which nothing is open
abbrev pub untold : List (List ℕ) → DeskState
untold words = record { words = words; folder = None; bound = λ _. false; left = λ _. None; written = λ _. None }

-- what is known of this desk
abbrev pub file_state : FileDesk → DeskState
file_state d = reads_files (map string_bytes d.words.items) (λ slot. is_some (input_of d.inputs slot))
    (λ slot. is_some (output_of d.outputs slot))

-- how many calls of this desk failed, up to 2^64 - 1
abbrev pub file_faults : FileDesk → ℕ
file_faults d = d.faults
