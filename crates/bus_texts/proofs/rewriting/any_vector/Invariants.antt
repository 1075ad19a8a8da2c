use Rattle.std.proofs.Common.{◌≡◌, drop, map}
use Rattle.std.specs.List.{list_any}
use Rattle.bus_texts.specs.Parts.{shown}
use Rattle.bus_texts.specs.Texts.{is_vector}
use Rattle.bus_texts.proofs.rewriting.any_vector.Given as goal

abbrev pub invariant-loop-part : goal.invariant-loop-part
invariant-loop-part l =
    list_any (is_vector l.vectors) (map shown (drop l.part-index l.parts)) ≡ list_any (is_vector l.vectors) (map shown l.parts)
