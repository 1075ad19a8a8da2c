use Rattle.std.proofs.Common.{◌≡◌, ℕ, List, ◌+◌, ◌-◌, [], ◌∷◌, Some, None, flat_map, sym, ap, ◌∙◌, rules, arith}
use Rattle.std.specs.List.{range_with_len}
use Rattle.std.specs.Option.{option_or}
use Rattle.cell_machine.specs.CellData.{data_of}
use Rattle.module_tables.specs.declared.differences.Difference.{Difference}
use Rattle.module_tables.specs.Lists.{trit_numbered}
use Rattle.module_tables.specs.Tables.{step_compared, first_difference}
use Rattle.module_tables.proofs.Firsts.{turn}
use Rattle.module_tables.proofs.states.GroupTables.over_known_notes.Goals as goal

pub loop-k-preserved : goal.loop-k-preserved
loop-k-preserved c =
    let d = data_of c.args.self.now.cell.now in
    let m = c.args.self.now.model.now in
    let g = c.args.self.now.group in
    let k = c.loop-k.k in
    let compared = step_compared d m g c.args.change.place c.args.change.old c.args.change.values.now c.args.state in
    let known : first_difference (compared (Some c.trit_numbered.result) ∷ []) ≡ None = search rules in
    let none : first_difference (compared (Some (trit_numbered k)) ∷ []) ≡ None
    = ap (λ t. first_difference (compared (Some t) ∷ [])) (sym c.trit_numbered.ensures) ∙ known in
    let of_number : ℕ → List Difference = λ j. compared (Some (trit_numbered j)) ∷ [] in
    sym
    (turn of_number k 3 (omega (arith, c.loop-k-test.true))
    ∙ ap (λ o. option_or o (first_difference (flat_map of_number (range_with_len (k + 1) (3 - (k + 1)))))) none)
    ∙ c.loop-k.invariant
