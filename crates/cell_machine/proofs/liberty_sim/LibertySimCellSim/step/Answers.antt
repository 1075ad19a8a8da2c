use Rattle.std.proofs.Common.{◌≡◌, ◌<◌, ◌∙◌, [], ap, sym, subst, get_or, set, length, slice_get, arith, Some}
use Rattle.std.proofs.lemmas.List.{length-set, length-map, get_or_default as get_or-default}
use Rattle.trit_cubes.specs.declared.trits.Trit.TheVariants.{Zero, Unknown}
use Rattle.cell_machine.specs.declared.cell_start.CellStart.{CellStart}
use Rattle.cell_machine.specs.Report.{any_true}
use Rattle.cell_machine.specs.Times.{no_times, stamped}
use Rattle.cell_machine.specs.CellData.{data_of}
use Rattle.cell_machine.specs.CellTrace.{inputs_of}
use Rattle.cell_machine.specs.KeptConditions.{AreForgotten}
use Rattle.cell_machine.specs.KeptArcs.{AreKeptArcs}
use Rattle.cell_machine.specs.ArcPlaces.{arcs_from}
use Rattle.cell_machine.proofs.RuleLemmas.{checks_hold}
use Rattle.cell_machine.proofs.KeptValues.{range-at}
use Rattle.cell_machine.proofs.ForgottenArcs.{entries-there, forgotten-below, left-is-kept}
use Rattle.cell_machine.proofs.Standing.{change-stands}
use Rattle.cell_machine.proofs.liberty_sim.LibertySimCellSim.step.Goals as goal

pub returns-clause-stands : goal.returns-clause-stands
returns-clause-stands c = λ h st.
    let sim = c.args.self.now in
    let inside : c.args.pin < length sim.inputs = omega (arith, c.requires.pin, sim.each_input) in
    let from' =
    ap (λ xs. get_or xs c.args.pin Zero) c.as_slice.ensures ∙ get_or-default sim.inputs c.args.pin Zero Unknown inside in
    let times =
    c.set-2.ensures
    ∙ ap (set sim.times c.args.pin)
    (c.stamped-times.ensures
    ∙ ap (λ xs. stamped c.args.at (get_or c.as_slice.result.now c.args.pin Zero) c.args.to (get_or xs c.args.pin no_times))
    c.as_slice-4.ensures) in
    let reports = rw (c.as_slice-inputs.ensures, c.as_slice-2.ensures) at c.report_all.ensures in
    let reported = c.any_true-reported.ensures ∙ ap any_true c.as_slice-3.ensures in
    let states = rw (reported, c.as_slice-inputs.ensures) at c.change_states.ensures.changed in
    let shown = rw (c.as_slice-inputs.ensures, c.as_slice-states.ensures) at c.show_all.ensures.stepped in
    let kept = rw c.as_slice-inputs.ensures at c.show_all.ensures.kept in
    change-stands (data_of sim.cell.now) sim.known.check_names sim.known.arc_names sim.inputs sim.times sim.states sim.reports sim.shown sim.kept h
    (record { at = c.args.at; pin = c.args.pin; to = c.args.to }) (get_or c.as_slice.result.now c.args.pin Zero)
    c.set.new.self c.set-2.new.self c.change_states.new.states c.report_all.new.reports_of c.show_all.new.shown c.show_all.new.kept (checks_hold sim.cell.now) st from'
    c.set.ensures times reports states shown kept

pub entry-requires : goal.entry-requires
entry-requires c =
    let sim = c.args.self.now in
    (entries-there (data_of sim.cell.now) c.get-3.result.now sim.known c.args.pin c.get-3.ensures sim.is_start.places_are c.requires.pin).between

pub forget-requires-clause-naming : goal.forget-requires-clause-naming
forget-requires-clause-naming c =
    let sim = c.args.self.now in
    (entries-there (data_of sim.cell.now) c.get-3.result.now sim.known c.args.pin c.get-3.ensures sim.is_start.places_are c.requires.pin).naming

pub forget-requires-clause-firsts : goal.forget-requires-clause-firsts
forget-requires-clause-firsts c =
    let sim = c.args.self.now in
    (entries-there (data_of sim.cell.now) c.get-3.result.now sim.known c.args.pin c.get-3.ensures sim.is_start.places_are c.requires.pin).firsts

pub forget-requires-clause-conditions : goal.forget-requires-clause-conditions
forget-requires-clause-conditions c =
    let sim = c.args.self.now in
    (forgotten-below (data_of sim.cell.now) c.get-3.result.now sim.known sim.kept c.args.pin c.get-3.ensures sim.is_start.places_are
    c.requires.time.1.0.kept_are c.requires.pin).0

pub forget-requires-clause-delays : goal.forget-requires-clause-delays
forget-requires-clause-delays c =
    let sim = c.args.self.now in
    (forgotten-below (data_of sim.cell.now) c.get-3.result.now sim.known sim.kept c.args.pin c.get-3.ensures sim.is_start.places_are
    c.requires.time.1.0.kept_are c.requires.pin).1

pub show_all-requires-clause-places : goal.show_all-requires-clause-places
show_all-requires-clause-places c =
    let sim = c.args.self.now in
    let cell = data_of sim.cell.now in
    let entry = subst (λ (k : CellStart). slice_get k.places.between c.args.pin ≡ Some c.entry.result.now) c.get-3.ensures c.entry.ensures.is in
    range-at (arcs_from cell) (inputs_of cell) c.args.pin sim.known.places.between _ sim.is_start.places_are.between_are entry

pub show_all-requires-clause-kept : goal.show_all-requires-clause-kept
show_all-requires-clause-kept c =
    let sim = c.args.self.now in
    let cell = data_of sim.cell.now in
    let left = c.forget.new.self in
    let inputs : c.as_slice-inputs.result.now ≡ set sim.inputs c.args.pin c.args.to = c.as_slice-inputs.ensures ∙ c.set.ensures in
    let conditions =
    subst (λ (k : CellStart). AreForgotten (get_or k.places.naming c.args.pin []) sim.kept.conditions left.conditions) c.get-3.ensures
    c.forget.ensures.conditions in
    let delays =
    subst (λ (k : CellStart). AreForgotten (get_or k.places.firsts c.args.pin []) sim.kept.delays left.delays) c.get-3.ensures
    c.forget.ensures.delays in
    subst (λ v. AreKeptArcs cell v left) (sym inputs)
    (left-is-kept cell sim.inputs sim.known.places sim.kept left c.args.pin c.args.to sim.is_start.places_are c.requires.time.1.0.kept_are c.requires.pin
    conditions delays)

pub invariant_of-self : goal.invariant_of-self
invariant_of-self c =
    let sim = c.args.self.now in
    record {
      is_start = sim.is_start;
      each_input = ap length c.set.ensures ∙ length-set sim.inputs c.args.pin c.args.to ∙ sim.each_input;
      each_time = ap length c.set-2.ensures ∙ length-set sim.times c.args.pin c.stamped-times.result ∙ sim.each_time;
      each_state = c.change_states.ensures.len ∙ sim.each_state;
      each_check = ap length c.report_all.ensures ∙ length-map sim.cell.now.checks _;
      each_output = c.show_all.ensures.len ∙ sim.each_output;
    }
