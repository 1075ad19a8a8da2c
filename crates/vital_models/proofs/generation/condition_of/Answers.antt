use Rattle.std.proofs.Common.{◌∙◌, ap}
use Rattle.vital_models.specs.Generated.{ports_at, condition_table}
use Rattle.vital_models.proofs.generation.condition_of.Goals as goal

pub returns : goal.returns
returns c =
    let table = c.in_ok-condition_table.ensures ∙ ap condition_table c.requires.is in
    let names = c.deref.ensures.value ∙ c.in_ok-names.ensures.list in
    let inputs = c.in_ok-ports_at.ensures ∙ (λ i. ports_at (c.as_slice.ensures i) (names i)) in
    λ i. record { table = table i; inputs = inputs i }
