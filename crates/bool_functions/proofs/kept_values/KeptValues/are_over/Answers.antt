use Rattle.std.proofs.Common.{◌≡◌, subst}
use Rattle.std.specs.Bool.{Decides}
use Rattle.std.specs.Cmp.{unsigned_Decides}
use Rattle.std.proofs.lemmas.Slice.Eq.{slice_eq-Decides}
use Rattle.bool_functions.proofs.kept_values.KeptValues.are_over.Goals as goal

pub returns : goal.returns
returns c = subst (λ l. Decides c.eq.result (l ≡ c.args.places.now)) c.as_slice.ensures.value (slice_eq-Decides unsigned_Decides c.as_slice.result.now c.args.places.now c.eq.result c.eq.ensures)
