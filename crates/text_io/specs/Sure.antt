-- What is known of a desk over memory on which no call fails.
use Rattle.std.specs.Prelude.{ℕ, false, List, [], map, Some, None, string_bytes}
use Rattle.text_io.specs.declared.sure.SureDesk.{SureDesk}
use Rattle.text_io.specs.Desk.{DeskState, Folder}
use Rattle.text_io.specs.EachSlot.{input_of, output_of}
use Rattle.text_io.specs.Memory.{reads_memory}
use Rattle.text_io.specs.NamedFiles.{folder_of}

-- what is known of this desk
abbrev pub sure_state : SureDesk → DeskState
sure_state d = reads_memory (map string_bytes d.words.items) (folder_of d.folder.items) (input_of d.places) (output_of d.created)
    (λ _. None)

-- before its first call: nothing is bound and nothing is left to read
abbrev pub fresh_sure : List (List ℕ) → Folder → DeskState
fresh_sure words folder = record {
  words = words;
  folder = Some folder;
  bound = λ _. false;
  left = λ _. Some [];
  written =
      λ _. None;
}
