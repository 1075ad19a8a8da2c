use Rattle.std.proofs.Common.{◌<◌, ◌≤◌, ◌∙◌, sym, ap, length, arith}
use Rattle.std.specs.List.{list_all}
use Rattle.std.proofs.lemmas.List.{drop_all}
use Rattle.cell_machine.specs.Places.{entries_at}
use Rattle.cell_machine.specs.CellTrace.{is_quiet}
use Rattle.cell_machine.proofs.EntryPlaces.{entries-long, entries-get}
use Rattle.cell_machine.proofs.KeptValues.{all_go, all_stop}
use Rattle.cell_machine.proofs.delays.all_are_quiet.Goals as goal

pub returns-then-not-is_quiet-clause-quiet : goal.returns-then-not-is_quiet-clause-quiet
returns-then-not-is_quiet-clause-quiet c =
    let cell = c.args.arcs.now.cell.now in
    let places = c.args.places.now in
    let few : c.loop-i.i < length places = omega arith in
    let inside : c.loop-i.i < length (entries_at cell.arcs places) = omega (arith, few, entries-long cell.arcs places c.requires.below) in
    all_stop (is_quiet cell.pins c.args.arcs.now.inputs.now c.args.arc.now) (entries_at cell.arcs places) c.loop-i.i c.is_quiet.result inside
    (λ other e. c.is_quiet.ensures.quiet other (sym (entries-get cell.arcs places c.loop-i.i c.requires.below few) ∙ e))
    c.if-not-is_quiet.true c.loop-i.invariant.rest

pub loop-i-preserved : goal.loop-i-preserved
loop-i-preserved c =
    let cell = c.args.arcs.now.cell.now in
    let places = c.args.places.now in
    let few : c.loop-i.i < length places = omega arith in
    let inside : c.loop-i.i < length (entries_at cell.arcs places) = omega (arith, few, entries-long cell.arcs places c.requires.below) in
    record {
      rest =
          all_go (is_quiet cell.pins c.args.arcs.now.inputs.now c.args.arc.now) (entries_at cell.arcs places) c.loop-i.i c.is_quiet.result inside
          (λ other e. c.is_quiet.ensures.quiet other (sym (entries-get cell.arcs places c.loop-i.i c.requires.below few) ∙ e))
          c.if-not-is_quiet.false c.loop-i.invariant.rest;
      kept = c.is_quiet.ensures.kept;
    }

pub returns-clause-quiet : goal.returns-clause-quiet
returns-clause-quiet c =
    let cell = c.args.arcs.now.cell.now in
    let places = c.args.places.now in
    let few : length places ≤ c.loop-i.i = omega arith in
    let past : length (entries_at cell.arcs places) ≤ c.loop-i.i = omega (arith, few, entries-long cell.arcs places c.requires.below) in
    sym (ap (list_all (is_quiet cell.pins c.args.arcs.now.inputs.now c.args.arc.now)) (drop_all c.loop-i.i (entries_at cell.arcs places) past))
    ∙ c.loop-i.invariant.rest
