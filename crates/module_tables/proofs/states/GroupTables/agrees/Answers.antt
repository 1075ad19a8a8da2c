use Rattle.std.proofs.Common.{◌≡◌, ◌≤◌, true, List, length, sym, ap, ◌∙◌, rules, arith}
use Rattle.trit_cubes.specs.declared.trits.Trit.{Trit}
use Rattle.trit_cubes.specs.declared.trits.Trit.TheVariants as trit
use Rattle.cell_machine.specs.CellData.{data_of}
use Rattle.udp_tables.specs.Sequential.{noted}
use Rattle.udp_tables.specs.CellPrimitives.{has_notifier}
use Rattle.row_selection.specs.NextStates.{next_states}
use Rattle.module_tables.specs.Tables.{cell_step}
use Rattle.module_tables.specs.LookUps.{looked_up}
use Rattle.module_tables.proofs.NetOrder.{noted_few}
use Rattle.module_tables.proofs.StepStates.{states-same}
use Rattle.module_tables.proofs.TableLaws.{states-agree}
use Rattle.module_tables.proofs.states.GroupTables.agrees.Goals as goal

pub returns : goal.returns
returns c h =
    let d = data_of c.args.self.now.cell.now in
    let m = c.args.self.now.model.now in
    let g = c.args.self.now.group in
    let p = c.args.change.place in
    let old = c.args.change.old in
    let values : List Trit = c.args.change.values.now in
    let rows = c.args.change.rows.now in
    let all : Trit → List Trit = λ note. noted (has_notifier d) note values in
    let of_model : Trit → Trit = looked_up rows (all trit.Unknown) in
    let are : c.as_slice.result.now ≡ all trit.Unknown
    = c.as_slice.ensures ∙ c.noted-values.ensures ∙ ap (λ b. noted b trit.Unknown values) c.has_notifier.ensures in
    let same : next_states (cell_step d g p old values) ≡ next_states of_model
    = sym c.step_values.ensures ∙ c.are_same.ensures h ∙ c.next_states-of_model.ensures ∙ ap (λ xs. next_states (looked_up rows xs)) are in
    let known : c.args.change.ignores_note ≡ true = search rules in
    let few : length values ≤ 8 = omega (arith, c.requires.change.each_pin, c.pins-few.ensures.value, c.pins-few.ensures.few) in
    states-agree d m g p old values
    (λ note s.
    sym (c.requires.change.looks_up.next_is (all note) s (noted_few (has_notifier d) note values few))
    ∙ (c.requires.note known).same_next note s values c.requires.change.each_pin
    ∙ sym (states-same (cell_step d g p old values) of_model same s))
