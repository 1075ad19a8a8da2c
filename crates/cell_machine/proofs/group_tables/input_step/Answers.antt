use Rattle.std.proofs.Common.{◌∙◌, ℕ, List, sym, ap, subst, length, arith, suc}
use Rattle.std.specs.Prelude.{nat_eq}
use Rattle.std.proofs.lemmas.List.{length-map}
use Rattle.std.proofs.lemmas.List.Quantifiers.{position-Some}
use Rattle.trit_cubes.specs.Sets.{AreValuesOf}
use Rattle.cell_machine.specs.CellData.{data_of}
use Rattle.cell_machine.specs.Inputs.{input_number}
use Rattle.cell_machine.specs.Machine.{without, edge_value}
use Rattle.cell_machine.specs.CellTrace.{support_at, step_at}
use Rattle.cell_machine.proofs.GroupSteps.{support_at-is}
use Rattle.cell_machine.proofs.StepLemmas.{length-without}
use Rattle.cell_machine.proofs.StillStates.{not-in-support, step-leaves, no-step, by-table}
use Rattle.cell_machine.proofs.group_tables.input_step.Goals as goal

pub returns-in_default : goal.returns-in_default
returns-in_default c =
    let cell = data_of c.args.cell.now in
    let support = c.as_slice-support.ensures ∙ sym (support_at-is cell c.args.group c.group.result.now c.group.ensures.is) in
    let none = rw (c.as_slice-pins.ensures, support) at c.in_default.ensures in
    no-step cell c.args.group c.args.input (not-in-support cell c.args.group c.args.input (sym none))

pub returns-then-leaves_state : goal.returns-then-leaves_state
returns-then-leaves_state c =
    let cell = data_of c.args.cell.now in
    let support = c.as_slice-support.ensures ∙ sym (support_at-is cell c.args.group c.group.result.now c.group.ensures.is) in
    let place = rw (c.as_slice-pins.ensures, support) at c.in-Some.ensures in
    let leaves = rw c.as_slice.ensures.value at c.if-leaves_state.ensures in
    no-step cell c.args.group c.args.input
    (step-leaves cell c.args.group c.args.input c.in-Some.place c.in_ok-values.values.items (sym place) c.in_ok-values.ensures (sym leaves))

pub returns : goal.returns
returns c =
    let cell = data_of c.args.cell.now in
    let support = c.as_slice-support.ensures ∙ sym (support_at-is cell c.args.group c.group.result.now c.group.ensures.is) in
    let place = rw (c.as_slice-pins.ensures, support) at c.in-Some.ensures in
    let others = rw (c.as_slice-pins.ensures, support) at c.in_ok-others.ensures in
    let names : List ℕ = support_at cell c.args.group in
    let inside = (position-Some (λ p. nat_eq (input_number cell.pins p) c.args.input) names c.in-Some.place 0 (sym place)).0 in
    let held = ap length (support_at-is cell c.args.group c.group.result.now c.group.ensures.is) in
    by-table cell c.args.group c.args.input _
    (record {
      is_place = sym place;
      few =
          omega (
            arith,
            ap length others,
            length-map (without c.in-Some.place names) (input_number cell.pins),
            length-without c.in-Some.place names inside,
            held,
            c.group.ensures.facts.few,
          );
      others_are = others;
      are_values =
          subst (AreValuesOf (suc (suc (length names))) (edge_value (step_at cell c.args.group) c.in-Some.place))
          (sym c.from_vec-values.ensures) c.in_ok-values.ensures;
    })
