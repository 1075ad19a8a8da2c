use Rattle.std.proofs.Common.{◌≡◌, not, map, replicate, length, List, Bool, Contains, ◌∙◌, sym, ap, subst}
use Rattle.trit_cubes.specs.declared.trits.Trit.TheVariants.{Unknown}
use Rattle.trit_cubes.specs.Sets.{has}
use Rattle.trit_cubes.specs.Prime.{prime_list}
use Rattle.bool_functions.specs.Support.{support_of}
use Rattle.bool_functions.specs.Point.{HasValues}
use Rattle.bool_functions.proofs.Supports.{support_has}
use Rattle.cell_tables.proofs.ConditionLemmas.{condition-ones, condition-zeros}
use Rattle.cell_tables.proofs.part_cubes.condition_cubes.Goals as goal

pub table-requires-clause-inside : goal.table-requires-clause-inside
table-requires-clause-inside c =
    λ i h. subst (λ names. Contains names i) (sym (c.deref-pins.ensures.value ∙ c.in_ok-names.ensures.list)) ((support_has c.args.condition.now i).1 h)

pub returns : goal.returns
returns c =
    let f = c.args.condition.now in
    let values : List Bool = c.in_ok-values.values.items in
    let names : c.deref-pins.result.now ≡ support_of f = c.deref-pins.ensures.value ∙ c.in_ok-names.ensures.list in
    let known : HasValues (support_of f) f values = subst (λ ns. HasValues ns f values) names c.in_ok-values.ensures.values in
    let places = ap length names in
    let free = c.in_ok-cubes.ensures.free ∙ ap (λ n. replicate n Unknown) places in
    let ones = c.in_ok-cubes.ensures.ones ∙ (λ i. prime_list (places i) (has (c.deref.ensures.value i))) ∙ condition-ones f values c.requires known in
    let zeros =
    c.in_ok-cubes.ensures.zeros ∙ (λ i. prime_list (places i) (has (map not (c.deref.ensures.value i)))) ∙ condition-zeros f values c.requires known in
    λ i. record { free = free i; ones = ones i; zeros = zeros i }
