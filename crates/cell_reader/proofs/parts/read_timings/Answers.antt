use Rattle.std.proofs.Common.{◌≡◌, ◌∙◌, List, length, map, sym, ap, subst}
use Rattle.std.specs.Prelude.{flat_map}
use Rattle.liberty_groups.specs.declared.tree.Group.{Group}
use Rattle.cell_machine.specs.declared.pins.Pin.{Pin}
use Rattle.timing_arcs.specs.declared.subject.Subject.{Subject}
use Rattle.cell_attributes.specs.Pins.{pin_names, pins_in, owners_in}
use Rattle.cell_attributes.proofs.PinRules.{owners_count}
use Rattle.cell_reader.specs.CellTexts.{subject_with}
use Rattle.cell_timings.specs.declared.timings.CellTiming.{CellTiming}
use Rattle.cell_timings.specs.Held.{cell_room}
use Rattle.cell_timings.specs.CellTimings.{timing_held, IsHeld}
use Rattle.cell_timings.proofs.Held.{is_held}
use Rattle.cell_reader.proofs.parts.read_timings.Goals as goal

pub returns-clause-pins : goal.returns-clause-pins
returns-clause-pins c = ap (λ (s : Subject). s.pins) c.in_ok-timing.ensures.cell ∙ c.requires.pins

pub returns-clause-timing : goal.returns-clause-timing
returns-clause-timing c =
    let groups : List Group = map (λ group. group.now) c.args.groups.now in
    let owners : List Group = flat_map owners_in groups in
    let pins : List Pin = flat_map pins_in groups in
    let subject : Subject = subject_with c.args.unit pins in
    let here : Subject = record { names = c.in_ok-names.names; pins = c.args.pins; place = 0; unit = c.args.unit } in
    let same : here ≡ subject = λ i. record {
      names = (c.in_ok-names.ensures ∙ ap pin_names (c.as_slice.ensures ∙ c.requires.pins)) i;
      pins = c.requires.pins i;
      place = 0;
      unit = c.args.unit;
    } in
    let count : length c.args.pins ≡ length owners = ap length c.requires.pins ∙ sym (owners_count groups) in
    let held : c.in_ok-timing.timing ≡ timing_held (cell_room (length owners)) subject owners =
    c.in_ok-timing.ensures.timing
    ∙ ap (λ n. timing_held (cell_room n) here owners) count
    ∙ ap (λ (s : Subject). timing_held (cell_room (length owners)) s owners) same in
    subst (λ (timing : CellTiming). IsHeld subject owners timing) (sym held) (is_held subject owners)
