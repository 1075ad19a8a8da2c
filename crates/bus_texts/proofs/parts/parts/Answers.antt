use Rattle.std.proofs.Common.{◌+◌, List, [], ◌∷◌, ◌++◌, length, map, drop, ap, ◌∙◌, arith, length-drop}
use Rattle.std.proofs.lemmas.List.{map-append, take_rest}
use Rattle.bus_texts.specs.declared.parts.Part.{Part as HeldPart}
use Rattle.bus_texts.specs.Parts.{Part, shown, first_part, parts_of}
use Rattle.bus_texts.proofs.PartLemmas.{parts_turn}
use Rattle.bus_texts.proofs.parts.parts.Goals as goal

pub loop-at-preserved : goal.loop-at-preserved
loop-at-preserved c = record {
  within =
      let inside = c.first_part-part.ensures.within in
      let same = ap length (take_rest c.args.text.now c.loop-at.at) in
      let rest = length-drop c.loop-at.at c.args.text.now in
      let below = c.loop-at-test.true in
      omega arith;
  done =
      ap
      (λ (ps : List HeldPart). map shown ps ++ parts_of (drop (c.loop-at.at + length c.first_part-part.result.written.now) c.args.text.now))
      c.in_ok-push.ensures.items
      ∙ ap
      (λ (ps : List Part). ps ++ parts_of (drop (c.loop-at.at + length c.first_part-part.result.written.now) c.args.text.now))
      (map-append shown c.loop-at.parts.items (c.first_part-part.result ∷ []))
      ∙ parts_turn c.args.text.now c.loop-at.at (map shown c.loop-at.parts.items) (shown c.first_part-part.result) c.loop-at-test.true (c.first_part-part.ensures.part ∙ ap first_part (take_rest c.args.text.now c.loop-at.at))
      ∙ c.loop-at.invariant.done;
}
