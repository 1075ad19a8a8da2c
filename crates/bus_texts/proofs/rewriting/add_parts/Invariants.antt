use Rattle.std.proofs.Common.{◌≡◌, drop, ◌++◌, map}
use Rattle.std.specs.Prelude.{flat_map}
use Rattle.bus_texts.specs.Parts.{shown}
use Rattle.bus_texts.specs.Texts.{rewritten_part}
use Rattle.bus_texts.proofs.rewriting.add_parts.Given as goal

abbrev pub invariant-loop-part : goal.invariant-loop-part
invariant-loop-part l =
    l.text.items ++ flat_map (rewritten_part l.vectors l.at) (map shown (drop l.part-index l.parts))
    ≡ l.initial.text.items ++ flat_map (rewritten_part l.vectors l.at) (map shown l.parts)
