use Rattle.std.proofs.Common.{◌≡◌, ◌++◌, ◌∷◌, [], Some, slice_get, sym, ap, subst, ◌∙◌}
use Rattle.first_names.specs.Places.{SetsPlace}
use Rattle.bus_texts.specs.BusTypes.{FindsLast}
use Rattle.bus_texts.proofs.TypeLemmas.{get_last, finds_more}
use Rattle.bus_texts.proofs.bus_types.BusTypes.add.Goals as goal

pub invariant_of-self-in-Ok : goal.invariant_of-self-in-Ok
invariant_of-self-in-Ok c =
    let there : slice_get c.as_slice.result.now c.len-place.result ≡ Some c.args.kind =
    ap (λ list. slice_get list c.len-place.result) (c.as_slice.ensures ∙ c.in_ok-push.ensures.ok)
    ∙ ap (slice_get (c.self.inside.list ++ c.args.kind ∷ [])) c.len-place.ensures ∙ get_last c.self.inside.list c.args.kind in
    subst (FindsLast c.count_last.new.last) (sym c.in_ok-push.ensures.ok)
    (finds_more c.self.inside.last c.count_last.new.last c.self.inside.list c.args.kind c.self.invariant
    (subst (λ place. SetsPlace c.self.inside.last c.args.kind.name place c.count_last.new.last) c.len-place.ensures (c.in-Ok.ensures.set c.args.kind there)))
