use Rattle.cell_machine.proofs.cell_start.CellStart.of.Goals as goal

pub returns : goal.returns
returns c = record {
  check_inputs_are = c.in_ok-check_inputs.ensures;
  check_names_are = c.in_ok-check_names.ensures;
  arc_names_are = c.in_ok-arc_names.ensures;
  places_are = c.in_ok-places.ensures;
  outputs_are = c.in_ok-outputs.ensures;
  steps_are = c.in_ok-steps.ensures;
  shown_are = c.in_ok-shown.ensures;
}
