use Rattle.std.proofs.Common.{◌≡◌, ◌∙◌, ap, map, ℕ}
use Rattle.std.specs.Prelude.{count_by, flat_map}
use Rattle.std.specs.List.{range_with_len}
use Rattle.std.proofs.Math.Seq.{take-length}
use Rattle.cell_machine.specs.CellData.{data_of}
use Rattle.cell_machine.specs.Inputs.{is_input_at}
use Rattle.cell_machine.specs.Places.{places_from}
use Rattle.cell_machine.specs.CellTrace.{inputs_of}
use Rattle.cell_machine.specs.KeptConditions.{names_input}
use Rattle.cell_machine.specs.ArcPlaces.{arcs_from, first_naming}
use Rattle.cell_machine.proofs.arc_places.ArcPlaces.of.Goals as goal

pub returns : goal.returns
returns c =
    let cell = data_of c.args.cell.now in
    let pins = c.as_slice-pins.ensures in
    let count : c.input_number-count.result ≡ inputs_of cell
    = rw c.as_slice-pins.ensures at c.input_number-count.ensures ∙ ap (count_by is_input_at) (take-length cell.pins) in
    let between = c.in_ok-between.ensures ∙ ap (λ n. map (arcs_from cell) (range_with_len 0 n)) count in
    let lists = c.as_slice.ensures ∙ between in
    record {
      naming_are =
          c.in_ok-naming.ensures
          ∙ (λ j. map (λ (input : ℕ). places_from (names_input (pins j) input) 0 (c.requires j)) (range_with_len 0 (count j)));
      between_are = between;
      firsts_are =
          c.in_ok-firsts.ensures
          ∙ (λ j.
          map (λ (input : ℕ). flat_map (flat_map (first_naming (pins j) (c.requires j) input)) (lists j)) (range_with_len 0 (count j)));
    }
