use Rattle.std.proofs.Common.{◌≡◌, map, drop, string_bytes}
use Rattle.text_io.specs.Plan.{is_among}
use Rattle.text_io.proofs.file_words.is_among.Given as goal

abbrev pub invariant-loop-other : goal.invariant-loop-other
invariant-loop-other l = is_among l.word (map string_bytes (drop l.other-index l.words)) ≡ is_among l.word (map string_bytes l.words)
