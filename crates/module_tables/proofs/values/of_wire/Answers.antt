use Rattle.std.proofs.Common.{◌≡◌, length, map, sym, ap, subst, ◌∙◌, IsTrue}
use Rattle.trit_cubes.specs.Prime.{cubes_of}
use Rattle.trit_cubes.specs.Sets.{AreValuesOf}
use Rattle.bool_functions.specs.Support.{support_of}
use Rattle.cell_machine.specs.Outputs.{condition_at}
use Rattle.cell_machine.specs.CellData.{data_of}
use Rattle.specify_blocks.specs.declared.model.VNet.TheVariants as net
use Rattle.specify_blocks.specs.Generated.{pin_net}
use Rattle.module_terminals.specs.Terminals.{condition_nets, drives_value}
use Rattle.module_terminals.specs.Feeding.{Gating}
use Rattle.module_tables.specs.LookUps.{Drives}
use Rattle.module_tables.specs.Tables.{value_compared, cell_condition, model_condition, driven_value, first_difference}
use Rattle.module_tables.proofs.values.of_wire.Goals as goal

pub of-levels-requires-clause-driven : goal.of-levels-requires-clause-driven
of-levels-requires-clause-driven c =
    let names : c.as_slice-places.result.now ≡ support_of c.args.condition.now = c.as_slice-places.ensures ∙ c.support_of-names.ensures in
    let nets : c.as_slice-fed_by.result.now ≡ condition_nets (data_of c.args.cell.now) c.args.condition.now
    = c.as_slice-fed_by.ensures ∙ c.pin_nets-nets.ensures ∙ (λ i. map (pin_net (c.as_slice-pins.ensures i)) (names i)) in
    subst (λ ns. IsTrue (drives_value c.args.model.now ns (net.Wire c.args.wire))) (sym nets) c.requires.fed

pub returns : goal.returns
returns c =
    let d = data_of c.args.cell.now in
    let m = c.args.model.now in
    let condition = c.args.condition.now in
    let u : Gating = record { condition = condition; wire = c.args.wire } in
    let f = condition_at (support_of condition) condition in
    let names : c.as_slice-places.result.now ≡ support_of condition = c.as_slice-places.ensures ∙ c.support_of-names.ensures in
    let count : length c.as_slice-places.result.now ≡ length (support_of condition) = ap length names in
    let nets : c.as_slice-fed_by.result.now ≡ condition_nets d condition
    = c.as_slice-fed_by.ensures ∙ c.pin_nets-nets.ensures ∙ (λ i. map (pin_net (c.as_slice-pins.ensures i)) (names i)) in
    let all : AreValuesOf (length (support_of condition)) f c.condition_values-table.result
    = subst (λ ns. AreValuesOf (length ns) (condition_at ns condition) c.condition_values-table.result) names c.condition_values-table.ensures in
    let values : AreValuesOf (length c.as_slice-places.result.now) f c.as_slice-values.result.now
    = subst (λ n. AreValuesOf n f c.as_slice-values.result.now) (sym count)
    (subst (AreValuesOf (length (support_of condition)) f) (sym c.as_slice-values.ensures) all) in
    let drives : Drives c.of-levels.result (model_condition d m u)
    = λ vs h. c.of-levels.ensures vs h ∙ ap (λ ns. driven_value m ns vs (net.Wire c.args.wire)) nets in
    c.first_unlike.ensures f (model_condition d m u) values drives
    ∙ ap (λ n. first_difference (map (value_compared c.args.part c.args.number (cell_condition condition) (model_condition d m u)) (cubes_of n))) count
