use Rattle.std.proofs.Common.{◌≡◌, drop}
use Rattle.text_io.specs.Desk.{file_of}
use Rattle.text_io.specs.NamedFiles.{folder_of}
use Rattle.text_io.proofs.named_files.find_file.Given as goal

abbrev pub invariant-loop-at : goal.invariant-loop-at
invariant-loop-at l = file_of (folder_of (drop l.at l.files)) l.name ≡ file_of (folder_of l.files) l.name
