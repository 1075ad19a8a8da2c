use Rattle.std.proofs.Common.{◌≡◌, map, length, string_bytes}
use Rattle.text_io.specs.Plan.{are_file_words}
use Rattle.text_io.proofs.file_words.are_file_words.Given as goal

abbrev pub invariant-loop-word : goal.invariant-loop-word
invariant-loop-word l = are_file_words (map string_bytes l.rest) ≡ are_file_words (map string_bytes l.words)

abbrev pub decreases-loop-word : goal.decreases-loop-word
decreases-loop-word l = length l.rest
