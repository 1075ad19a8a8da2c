use Rattle.std.proofs.Common.{◌≡◌, ◌≤◌, ◌∙◌, length, ap, refl, arith}
use Rattle.cell_attributes.specs.Groups.{pin_groups}
use Rattle.cell_attributes.specs.Pins.{pins_of, owners_of}
use Rattle.cell_attributes.proofs.PinRules.{owners_count}
use Rattle.cell_timings.specs.declared.timings.CellTiming.{CellTiming}
use Rattle.cell_reader.specs.Parts.{subject_in}
use Rattle.cell_reader.proofs.Accepted.{timing_limits}
use Rattle.cell_reader.proofs.Reading.{keeps_rules, keeps_apart, accepted_few_pins}
use Rattle.cell_reader.proofs.read.make_cell.Goals as goal

pub invariant_of-cell : goal.invariant_of-cell
invariant_of-cell c =
    let cell = c.args.parts.cell.now in
    let taken = c.pins_and_timing-pins.ensures in
    let limits = timing_limits (subject_in c.args.parts) c.requires.unmet.0 cell c.requires.unmet.1 in
    let arcs = ap (λ (timing : CellTiming). timing.arcs) taken.timing ∙ c.requires.parts.of_timing.arcs limits.1 in
    record {
      sound =
          keeps_rules c.args.parts.unit cell c.args.made.name c.pins_and_timing-pins.result.0 c.args.made.groups c.args.made.outputs
          c.pins_and_timing-pins.result.1.checks c.pins_and_timing-pins.result.1.arcs c.requires.unmet c.requires.name
          (taken.pins ∙ c.requires.parts.of_cell) c.requires.groups c.requires.outputs
          (ap (λ (timing : CellTiming). timing.checks) taken.timing ∙ c.requires.parts.of_timing.checks limits.0) arcs;
      apart = keeps_apart c.args.parts.unit cell c.pins_and_timing-pins.result.1.arcs c.requires.unmet arcs;
    }

pub returns-clause-cell : goal.returns-clause-cell
returns-clause-cell c =
    let cell = c.args.parts.cell.now in
    let taken = c.pins_and_timing-pins.ensures in
    let limits = timing_limits (subject_in c.args.parts) c.requires.unmet.0 cell c.requires.unmet.1 in
    record {
      same_name = c.requires.name;
      same_number = refl;
      same_pins = taken.pins ∙ c.requires.parts.of_cell;
      same_groups = c.requires.groups;
      same_outputs = c.requires.outputs;
      same_checks = ap (λ (timing : CellTiming). timing.checks) taken.timing ∙ c.requires.parts.of_timing.checks limits.0;
      same_arcs = ap (λ (timing : CellTiming). timing.arcs) taken.timing ∙ c.requires.parts.of_timing.arcs limits.1;
    }

-- what is left out is listed, since there are few pins
pub returns-clause-left_out : goal.returns-clause-left_out
returns-clause-left_out c =
    let cell = c.args.parts.cell.now in
    let owners : length (owners_of cell) ≡ length (pins_of cell) = owners_count (pin_groups cell) in
    let few : length (pins_of cell) ≤ 64 = accepted_few_pins (subject_in c.args.parts) cell c.requires.unmet in
    let listed = c.requires.parts.of_timing.left_out (omega arith) in
    ap (λ (timing : CellTiming). timing.left_out) c.pins_and_timing-pins.ensures.timing ∙ listed
