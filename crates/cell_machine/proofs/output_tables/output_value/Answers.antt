use Rattle.std.proofs.Common.{◌≡◌, ◌∙◌, length, map, List, ap, sym, subst}
use Rattle.trit_cubes.specs.declared.trits.Trit.{Trit}
use Rattle.trit_cubes.specs.Sets.{AreValuesOf}
use Rattle.cell_machine.specs.declared.outputs.OutputPin.{OutputPin}
use Rattle.cell_machine.specs.CellData.{data_of}
use Rattle.cell_machine.specs.CellTrace.{source_value, sources_at, output_value_at}
use Rattle.cell_machine.proofs.Tables.{output_tabled}
use Rattle.cell_machine.proofs.output_tables.output_value.Goals as goal

pub returns : goal.returns
returns c = λ pin e.
    let cell = data_of c.args.cell.now in
    let output = c.args.output in
    let inputs = c.args.inputs.now in
    let states = c.args.states.now in
    let same : c.output_pin.result.now ≡ pin = cc (c.output_pin.ensures.is, e) in
    let known = c.requires.tables.are_values output c.entry.result.now c.entry.ensures.is in
    let places = rw (c.as_slice.ensures, c.as_slice-sources.ensures, c.new-places.ensures) at c.add_values.ensures in
    output_tabled cell output pin inputs states c.as_slice-2.result.now c.as_slice-3.result.now c.tabled.result e
    (c.as_slice-3.ensures ∙ (places ∙ ap (λ (o : OutputPin). map (source_value cell.pins inputs states) o.support) same))
    (subst (λ (values : List Trit). AreValuesOf (length (sources_at cell output)) (output_value_at cell output) values) (sym c.as_slice-2.ensures) known)
    c.tabled.ensures
