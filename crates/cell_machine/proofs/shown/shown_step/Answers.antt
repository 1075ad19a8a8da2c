use Rattle.std.proofs.Common.{◌≡◌, ◌∙◌, ap, sym, slice_get, Some, List, ℕ}
use Rattle.std.specs.Prelude.{option_map}
use Rattle.std.proofs.lemmas.Option.{slice_get-map}
use Rattle.cell_machine.specs.declared.outputs.OutputPin.{OutputPin}
use Rattle.cell_machine.specs.CellData.{data_of}
use Rattle.cell_machine.specs.ArcPlaces.{arcs_between}
use Rattle.cell_machine.proofs.ArcDelays.{some_at}
use Rattle.cell_machine.proofs.shown.shown_step.Goals as goal

pub least_delay-delay-requires-clause-pair : goal.least_delay-delay-requires-clause-pair
least_delay-delay-requires-clause-pair c =
    let cell = c.args.cell.now in
    let here = some_at cell.outputs c.args.i c.requires.inside in
    let between = λ (output : OutputPin). arcs_between (data_of cell) c.args.seen.now.change.pin output.pin in
    let found : Some c.entry.result.now ≡ Some (between here.0)
    = sym c.entry.ensures.is ∙ ap (λ (lists : List (List ℕ)). slice_get lists c.args.i) c.requires.places ∙ slice_get-map between cell.outputs c.args.i
    ∙ ap (option_map between) here.1 in
    let same : c.entry.result.now ≡ between here.0 = cc in
    record {
      input = c.args.seen.now.change.pin;
      place = c.args.i;
      output = here.0;
      is_input = c.requires.pin;
      is_output = here.1;
      are = c.as_slice-places.ensures ∙ same;
    }
