use Rattle.std.proofs.Common.{◌≡◌, ◌+◌, ◌<◌, ◌≤◌, ◌∙◌, ap, sym, length, drop, arith}
use Rattle.std.proofs.lemmas.List.{drop_all}
use Rattle.trit_cubes.specs.declared.trits.Trit.TheVariants.{Zero, One}
use Rattle.cell_machine.specs.declared.delays.Delays.{Delays}
use Rattle.cell_machine.specs.Places.{entries_at}
use Rattle.cell_machine.specs.ArcDelay.{least_of}
use Rattle.cell_machine.proofs.LeastLemmas.{lesser_none}
use Rattle.cell_machine.specs.Delay.{lesser}
use Rattle.cell_machine.proofs.ArcDelays.{some_at, least_of-more}
use Rattle.cell_machine.proofs.EntryPlaces.{entries-long, entries-get}
use Rattle.cell_machine.proofs.delays.least_delays.Goals as goal

pub loop-i-preserved : goal.loop-i-preserved
loop-i-preserved c =
    let cell = c.args.arcs.now.cell.now in
    let places = c.args.places.now in
    let pair = entries_at cell.arcs places in
    let few : c.loop-i.i < length places = omega arith in
    let inside : c.loop-i.i < length pair = omega (arith, few, entries-long cell.arcs places c.requires.below) in
    let here = some_at pair c.loop-i.i inside in
    let is = c.arc_delays.ensures.delays here.0 (sym (entries-get cell.arcs places c.loop-i.i c.requires.below few) ∙ here.1) in
    record {
      rise =
          ap (λ (d : Delays). lesser d.rise (least_of cell.pins pair c.args.arcs.now.inputs.now Zero One (drop (c.loop-i.i + 1) pair))) c.lesser-best.ensures
          ∙ least_of-more cell.pins pair c.args.arcs.now.inputs.now Zero One pair c.loop-i.i here.0 c.loop-i.best.rise c.arc_delays.result.rise
          here.1 (ap (λ (d : Delays). d.rise) is)
          ∙ c.loop-i.invariant.rise;
      fall =
          ap (λ (d : Delays). lesser d.fall (least_of cell.pins pair c.args.arcs.now.inputs.now One Zero (drop (c.loop-i.i + 1) pair))) c.lesser-best.ensures
          ∙ least_of-more cell.pins pair c.args.arcs.now.inputs.now One Zero pair c.loop-i.i here.0 c.loop-i.best.fall c.arc_delays.result.fall
          here.1 (ap (λ (d : Delays). d.fall) is)
          ∙ c.loop-i.invariant.fall;
      kept = c.arc_delays.ensures.kept;
    }

pub returns-clause-delays : goal.returns-clause-delays
returns-clause-delays c =
    let cell = c.args.arcs.now.cell.now in
    let places = c.args.places.now in
    let v = c.args.arcs.now.inputs.now in
    let pair = entries_at cell.arcs places in
    let best = c.loop-i.best in
    let few : length places ≤ c.loop-i.i = omega arith in
    let past : length pair ≤ c.loop-i.i = omega (arith, few, entries-long cell.arcs places c.requires.below) in
    let none = drop_all c.loop-i.i pair past in
    let rise : best.rise ≡ least_of cell.pins pair v Zero One pair
    = sym (lesser_none best.rise) ∙ sym (ap (λ some. lesser best.rise (least_of cell.pins pair v Zero One some)) none)
    ∙ c.loop-i.invariant.rise in
    let fall : best.fall ≡ least_of cell.pins pair v One Zero pair
    = sym (lesser_none best.fall) ∙ sym (ap (λ some. lesser best.fall (least_of cell.pins pair v One Zero some)) none)
    ∙ c.loop-i.invariant.fall in
    λ i. record { rise = rise i; fall = fall i }
