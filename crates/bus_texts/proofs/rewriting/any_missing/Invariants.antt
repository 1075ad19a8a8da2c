use Rattle.std.proofs.Common.{◌≡◌, drop, map}
use Rattle.std.specs.List.{list_any}
use Rattle.bus_texts.specs.Parts.{shown}
use Rattle.bus_texts.specs.Texts.{part_misses}
use Rattle.bus_texts.proofs.rewriting.any_missing.Given as goal

abbrev pub invariant-loop-part : goal.invariant-loop-part
invariant-loop-part l =
    list_any (part_misses l.vectors l.at) (map shown (drop l.part-index l.parts)) ≡ list_any (part_misses l.vectors l.at) (map shown l.parts)
