-- The first difference of several parts, of which each is looked at where those before it have none.
use Rattle.std.proofs.Common.{◌≡◌, List, ◌∷◌, flat_map, Option, None, Some, MatchOption, refl, sym, ◌∙◌, ap}
use Rattle.std.specs.Option.{option_or}
use Rattle.std.proofs.lemmas.List.Folds.{find-append}
use Rattle.module_tables.specs.declared.differences.AuditPart.{AuditPart}
use Rattle.module_tables.specs.declared.differences.Difference.{Difference}
use Rattle.module_tables.specs.Tables.{is_unlike, first_difference}

-- what was found so far, else what is found at the next part
pub or_next :
    {P : Type 0} (f : AuditPart → List Difference) (p : AuditPart) (ps : List AuditPart) (so_far found : Option Difference)
    → MatchOption so_far P (λ x. found ≡ Some x) → (P → found ≡ first_difference (f p))
    → option_or so_far (first_difference (flat_map f (p ∷ ps))) ≡ option_or found (first_difference (flat_map f ps))
or_next f p ps None found h here =
    find-append is_unlike (f p) (flat_map f ps) ∙ ap (λ o. option_or o (first_difference (flat_map f ps))) (sym (here h))
or_next f p ps (Some x) found h here = ap (λ o. option_or o (first_difference (flat_map f ps))) (sym h)

-- behind the last part
pub or_none : (found : Option Difference) → option_or found None ≡ found
or_none None = refl
or_none (Some x) = refl
