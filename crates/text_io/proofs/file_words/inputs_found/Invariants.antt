use Rattle.std.proofs.Common.{◌≡◌, ◌+◌, map, drop, string_bytes}
use Rattle.std.specs.List.{list_all}
use Rattle.text_io.specs.Found.{has_file, inputs_found}
use Rattle.text_io.specs.NamedFiles.{folder_of}
use Rattle.text_io.specs.Plan.{placed}
use Rattle.text_io.proofs.file_words.inputs_found.Given as goal

abbrev pub invariant-loop-index : goal.invariant-loop-index
invariant-loop-index l =
    list_all (λ planned. has_file (map string_bytes l.words) (folder_of l.files) planned.0 planned.1) (placed (l.index + 1) (drop l.index l.slots))
    ≡ inputs_found (map string_bytes l.words) (folder_of l.files)
