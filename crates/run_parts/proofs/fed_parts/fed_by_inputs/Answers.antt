use Rattle.std.proofs.Common.{◌<◌, ◌++◌, ◌∷◌, [], ◌∙◌, ap, cond, take, length, arith}
use Rattle.run_parts.specs.FedParts.{is_among, places_fed}
use Rattle.run_parts.proofs.NumberedListLemmas.{same-lists}
use Rattle.run_parts.proofs.PlaceLemmas.{places-more}
use Rattle.run_parts.proofs.fed_parts.fed_by_inputs.Goals as goal

pub loop-i-preserved : goal.loop-i-preserved
loop-i-preserved g c =
    let part = g.F.FedPart in
    let input = part.input c.args.ports.now.list.now in
    let parts = c.args.parts.now in
    let inside : c.loop-i.i < length parts = omega arith in
    let added = rw c.nets.ensures at c.in_ok-add_nets.ensures.lists _ c.loop-i.invariant.lists in
    record {
      lists = same-lists c.add_nets.new.all.items _ _
          (λ n. ap (λ p. places_fed part.nets input (take c.loop-i.i parts) n ++ cond (is_among input (part.nets p) n) (c.loop-i.i ∷ []) [])
          c.index-parts-i.is
          ∙ places-more (λ p. is_among input (part.nets p) n) parts c.loop-i.i c.index-parts-i.result inside) added;
      len = c.in_ok-add_nets.ensures.len ∙ c.loop-i.invariant.len;
    }
