use Rattle.std.proofs.Common.{Option, ℕ, ◌≡◌, true, sym, subst, ap, ◌∙◌}
use Rattle.std.specs.Option.{option_map_or}
use Rattle.scan_cells.specs.Places.{is_set}
use Rattle.scan_cells.proofs.MaskLemmas.{weight_in}
use Rattle.scan_cells.proofs.masks.enable_mask.Goals as goal

pub returns-in-Some : goal.returns-in-Some
returns-in-Some c =
    subst (λ (o : Option ℕ). option_map_or (λ k. is_set k c.weight.result) o true ≡ true) (sym c.in-Some.is ∙ c.enable_place.ensures.is)
    (ap (is_set c.in-Some.k) c.weight.ensures ∙ weight_in c.in-Some.k)

pub returns-in-None : goal.returns-in-None
returns-in-None c =
    ap (λ (o : Option ℕ). option_map_or (λ k. is_set k 0) o true) (sym c.enable_place.ensures.is ∙ c.in-None.is)
