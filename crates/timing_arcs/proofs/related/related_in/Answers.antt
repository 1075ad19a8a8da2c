use Rattle.timing_arcs.specs.RelatedPins.{related_as}
use Rattle.timing_arcs.proofs.Lists.{map-both}
use Rattle.timing_arcs.proofs.related.related_in.Goals as goal

pub returns : goal.returns
returns c =
    let both = map-both (related_as c.args.subject.now) (λ name. name.now) c.deref.result.now in cc (both, c.in_ok-related.ensures, c.in_ok-names.ensures, c.deref.ensures.value)
