use Rattle.std.proofs.Common.{◌≡◌, ◌+◌, ◌-◌, length, List, [], ◌∷◌, ◌++◌, take, drop, slice_index_or, ap, ◌∙◌, arith}
use Rattle.std.proofs.lemmas.List.{get_or_default, length-drop, take_all}
use Rattle.trit_cubes.specs.declared.trits.Trit.{Trit}
use Rattle.trit_cubes.specs.declared.trits.Trit.TheVariants as trit
use Rattle.module_tables.proofs.ListNumbers.{without-parts}
use Rattle.module_tables.proofs.cell_values.change_places.Goals as goal

pub returns : goal.returns
returns c =
    let values : List Trit = c.args.change.values.now in
    let p = c.args.change.place in
    let s = c.args.state in
    let value = slice_index_or values p trit.Zero in
    let same : value ≡ slice_index_or values p trit.Unknown = get_or_default values p trit.Zero trit.Unknown c.requires.place in
    c.push-3.ensures
    ∙ ap (λ xs. xs ++ s ∷ [])
    (c.append-2.ensures
    ∙ ap (λ xs. c.append.new.self ++ xs) (take_all (length values - (p + 1)) (drop (p + 1) values) (omega (arith, length-drop (p + 1) values)))
    ∙ ap (λ xs. xs ++ drop (p + 1) values)
    (c.append.ensures
    ∙ ap (λ xs. xs ++ take p values)
    (c.push-2.ensures ∙ ap (λ xs. xs ++ value ∷ []) (c.push.ensures ∙ ap (λ xs. xs ++ c.args.change.old ∷ []) c.new-places.ensures))))
    ∙ (λ i. c.args.change.old ∷ same i ∷ without-parts p values c.requires.place i ++ s ∷ [])
