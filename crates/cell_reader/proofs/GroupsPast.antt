-- The first of some groups that passes a limit.
use Rattle.std.proofs.Common.{◌≡◌, ℕ, ◌<◌, List, length, map, get_or, refl, sym, ◌∙◌, ap, Some}
use Rattle.std.specs.Prelude.{slice_get, option_map}
use Rattle.std.proofs.lemmas.Option.{slice_get-map, slice_get-get_or as is_there}
use Rattle.cell_machine.specs.Delay.{least}
use Rattle.liberty_groups.specs.declared.tree.Group.{Group}
use Rattle.cell_attributes.specs.Limits.{first_past, place_of_group}

-- the first group that passes a limit
pub group_past :
    {A : Type 0} (now : A → Group) (groups : List A) (limit : ℕ) (x : A)
    → limit < length groups → x ≡ get_or groups limit x
    → Some ((now x).at) ≡ least (first_past limit (map place_of_group (map now groups)))
group_past now groups limit x within is =
    let e : slice_get (map place_of_group (map now groups)) limit ≡ Some ((now x).at) =
    slice_get-map place_of_group (map now groups) limit
    ∙ (ap (option_map place_of_group) (slice_get-map now groups limit)
    ∙ ap (λ o. option_map place_of_group (option_map now o)) (is_there groups limit x within ∙ ap Some (sym is))) in
    rw e refl
