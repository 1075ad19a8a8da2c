use Rattle.std.proofs.Common.{◌≡◌, true, Some, sym, subst, rules}
use Rattle.std.specs.List.{list_all}
use Rattle.cell_machine.specs.CellData.{data_of}
use Rattle.cell_attributes.specs.Pins.{owners_of}
use Rattle.scan_cells.specs.Enables.{first_enable}
use Rattle.scan_cells.specs.Views.{is_among, numbers_of, same_outline, StandsBeside}
use Rattle.scan_cells.proofs.ViewReading.{beside}
use Rattle.scan_cells.proofs.functional.enabled_pins.Goals as goal

pub returns-clause-beside : goal.returns-clause-beside
returns-clause-beside c =
    let cell = data_of c.args.cell.now in
    let view = data_of c.args.view.now in
    let enable = c.in-Some.enable in
    let numbers : c.in_ok-numbers.numbers ≡ numbers_of cell.pins view.pins = search rules in
    let among : list_all (is_among cell.pins) view.pins ≡ true = search rules in
    let outline : same_outline cell view ≡ true = search rules in
    let found : first_enable (owners_of c.args.group.now) (numbers_of cell.pins view.pins) ≡ Some enable = search rules in
    subst (λ ns. StandsBeside cell (record { cell = view; pins = ns; enable = enable.pin; active = enable.active })) (sym numbers)
    (beside cell c.args.group.now view enable among outline found)
