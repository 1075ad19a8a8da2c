use Rattle.std.proofs.Common.{◌≡◌, ℕ, ◌-◌, ◌+◌, List, [], ◌∷◌, flat_map, length, None, Some, refl, sym, ap, subst, ◌∙◌, arith}
use Rattle.std.specs.List.{range_with_len}
use Rattle.std.specs.Option.{option_or}
use Rattle.trit_cubes.specs.Resolution.{res}
use Rattle.trit_cubes.specs.Sets.{AreValuesOf}
use Rattle.module_tables.specs.declared.differences.Difference.{Difference}
use Rattle.module_tables.specs.Lists.{list_numbered}
use Rattle.module_tables.specs.Tables.{value_compared, first_difference}
use Rattle.module_tables.proofs.Firsts.{values-from, turn}
use Rattle.module_tables.proofs.values.first_unlike.Goals as goal

pub loop-k-init : goal.loop-k-init
loop-k-init c = λ f g are drives.
    values-from (value_compared c.args.part c.args.number (res f) g) c.args.places c.args.places c.list_count-count.result
    c.list_count-count.ensures.count refl

pub returns-in-Some : goal.returns-in-Some
returns-in-Some c = λ f g are drives.
    let k = c.loop-k.k in
    let n = c.list_count-count.result in
    let list = list_numbered c.args.places k in
    let at : ℕ → List Difference = λ j. value_compared c.args.part c.args.number (res f) g (list_numbered c.args.places j) ∷ [] in
    let is : c.as_slice-values.result.now ≡ list = c.as_slice-values.ensures ∙ c.list_numbered-list.ensures.list in
    let wide : length c.as_slice-values.result.now ≡ c.args.places = ap length c.as_slice-values.ensures ∙ c.list_numbered-list.ensures.len in
    let cell : c.tabled-of_cell.result ≡ res f list
    = c.tabled-of_cell.ensures f (subst (λ m. AreValuesOf m f c.args.table.now) (sym wide) are) ∙ ap (res f) is in
    let model : c.value-of_model.result ≡ g list
    = c.value-of_model.ensures ∙ drives c.as_slice-values.result.now (omega (arith, wide, c.requires.few)) ∙ ap g is in
    let same : Some c.in-Some.found ≡ first_difference (at k)
    = c.in-Some.ensures ∙ (λ i. first_difference (value_compared c.args.part c.args.number (λ values. cell i) (λ values. model i) (is i) ∷ [])) in
    let rest = first_difference (flat_map at (range_with_len (k + 1) (n - (k + 1)))) in
    ap (λ d. option_or d rest) same ∙ sym (turn at k n c.loop-k-test.true) ∙ c.loop-k.invariant f g are drives

pub loop-k-preserved : goal.loop-k-preserved
loop-k-preserved c = λ f g are drives.
    let k = c.loop-k.k in
    let n = c.list_count-count.result in
    let list = list_numbered c.args.places k in
    let at : ℕ → List Difference = λ j. value_compared c.args.part c.args.number (res f) g (list_numbered c.args.places j) ∷ [] in
    let is : c.as_slice-values.result.now ≡ list = c.as_slice-values.ensures ∙ c.list_numbered-list.ensures.list in
    let wide : length c.as_slice-values.result.now ≡ c.args.places = ap length c.as_slice-values.ensures ∙ c.list_numbered-list.ensures.len in
    let cell : c.tabled-of_cell.result ≡ res f list
    = c.tabled-of_cell.ensures f (subst (λ m. AreValuesOf m f c.args.table.now) (sym wide) are) ∙ ap (res f) is in
    let model : c.value-of_model.result ≡ g list
    = c.value-of_model.ensures ∙ drives c.as_slice-values.result.now (omega (arith, wide, c.requires.few)) ∙ ap g is in
    let same : None ≡ first_difference (at k)
    = sym c.in_default.is ∙ c.compared.ensures ∙ (λ i. first_difference (value_compared c.args.part c.args.number (λ values. cell i) (λ values. model i) (is i) ∷ [])) in
    let rest = first_difference (flat_map at (range_with_len (k + 1) (n - (k + 1)))) in
    ap (λ d. option_or d rest) same ∙ sym (turn at k n c.loop-k-test.true) ∙ c.loop-k.invariant f g are drives
