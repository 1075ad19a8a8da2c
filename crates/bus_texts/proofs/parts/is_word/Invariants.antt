use Rattle.std.proofs.Common.{◌≡◌, drop}
use Rattle.bus_texts.specs.Parts.{is_word}
use Rattle.bus_texts.proofs.parts.is_word.Given as goal

abbrev pub invariant-loop-byte : goal.invariant-loop-byte
invariant-loop-byte l =
    is_word (drop l.byte-index l.text) ≡ is_word l.text
