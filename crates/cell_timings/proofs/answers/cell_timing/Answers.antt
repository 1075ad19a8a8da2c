use Rattle.std.proofs.Common.{◌≡◌, ◌∙◌, List, [], ◌+◌, ap, sym, map, drop, length, arith}
use Rattle.std.specs.Prelude.{flat_map}
use Rattle.std.specs.List.{fold}
use Rattle.std.proofs.lemmas.List.{drop_all}
use Rattle.std.proofs.lemmas.List.Sums.{fold-append}
use Rattle.liberty_groups.specs.declared.tree.Group.{Group}
use Rattle.timing_arcs.specs.declared.subject.Subject.{Subject}
use Rattle.timing_arcs.specs.GroupTexts.{cell_of}
use Rattle.cell_attributes.specs.Pins.{owners_in}
use Rattle.cell_timings.specs.declared.answers.TimingSoFar.{TimingSoFar}
use Rattle.cell_timings.specs.Held.{cell_room}
use Rattle.cell_timings.specs.CellTimings.{timing_told, with_pin}
use Rattle.cell_timings.proofs.Told.{pins_told, next_group}
use Rattle.cell_timings.proofs.answers.cell_timing.Goals as goal

pub loop-group-preserved : goal.loop-group-preserved
loop-group-preserved c =
    let owner : Group = c.group-item.result.now in
    let cell : Subject = cell_of c.args.subject.now in
    let rest : List Group = flat_map owners_in (map (λ group. group.now) (drop (c.loop-group.group-index + 1) c.args.groups.now)) in
    record {
      timing =
          ap (λ (before : TimingSoFar). fold (with_pin cell) before rest) (c.in_ok-add_group.ensures.timing
          ∙ ap (λ (at : Subject). fold (with_pin at) c.loop-group.held (owners_in owner)) c.loop-group.invariant.same_cell)
          ∙ sym (fold-append (with_pin cell) c.loop-group.held (owners_in owner) rest)
          ∙ ap (fold (with_pin cell) c.loop-group.held)
          (next_group (λ group. group.now) c.args.groups.now c.loop-group.group-index c.group-item.result c.loop-group-test.true c.group-item.is)
          ∙ c.loop-group.invariant.timing;
      same_cell = c.in_ok-add_group.ensures.cell ∙ c.loop-group.invariant.same_cell;
    }

pub returns-clause-timing : goal.returns-clause-timing
returns-clause-timing c =
    let cell : Subject = cell_of c.args.subject.now in
    let owners : List Group = flat_map owners_in (map (λ group. group.now) c.args.groups.now) in
    let first : TimingSoFar = record { timing = timing_told 0 [] []; pins = 0; room = cell_room (length c.args.subject.now.pins) } in
    let started : ◌≡◌ {A = TimingSoFar} (record { timing = c.new.result; pins = 0; room = c.cell_room.result }) first =
    λ i. record { timing = c.new.ensures i; pins = 0; room = (c.cell_room.ensures ∙ ap cell_room c.len.ensures) i } in
    let done : drop c.loop-group.group-index c.args.groups.now ≡ [] = drop_all c.loop-group.group-index c.args.groups.now (omega (arith, c.loop-group-test.false)) in
    ap (λ groups. (fold (with_pin cell) c.loop-group.held (flat_map owners_in (map (λ group. group.now) groups))).timing) (sym done)
    ∙ ap (λ (so_far : TimingSoFar). so_far.timing) c.loop-group.invariant.timing
    ∙ ap (λ (so_far : TimingSoFar). (fold (with_pin cell) so_far owners).timing) started
    ∙ pins_told cell first owners
