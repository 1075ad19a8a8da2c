use Rattle.std.proofs.Common.{ℕ, List, sym, ap, ◌∙◌, slice_get}
use Rattle.std.specs.Option.{option_copied, option_and_then}
use Rattle.bus_texts.specs.declared.vectors.Vector.{Vector}
use Rattle.bus_texts.specs.Vectors.{vector_named}
use Rattle.bus_texts.proofs.NamedLemmas.{named_by}
use Rattle.bus_texts.proofs.named_vectors.vector_named.Goals as goal

pub returns-in_err-place : goal.returns-in_err-place
returns-in_err-place c =
    let vectors : List Vector = c.vectors.inside.list in
    let name : List ℕ = c.args.name.now in
    ap option_copied c.from_residual.ensures
    ∙ (sym (ap (option_and_then (slice_get vectors)) c.in_err-place.was)
    ∙ (named_by name vectors c.vectors.inside.names c.is_empty.result c.place.result c.vectors.invariant c.is_empty.ensures c.if-is_empty.false c.place.ensures
    ∙ ap (λ (list : List Vector). vector_named list name) c.vectors.view_is))

pub returns : goal.returns
returns c =
    let vectors : List Vector = c.vectors.inside.list in
    let name : List ℕ = c.args.name.now in
    c.get.ensures.value
    ∙ (sym (ap (option_and_then (slice_get vectors)) c.in_ok-place.was)
    ∙ (named_by name vectors c.vectors.inside.names c.is_empty.result c.place.result c.vectors.invariant c.is_empty.ensures c.if-is_empty.false c.place.ensures
    ∙ ap (λ (list : List Vector). vector_named list name) c.vectors.view_is))
