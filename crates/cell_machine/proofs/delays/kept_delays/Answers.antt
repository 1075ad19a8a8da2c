use Rattle.std.proofs.Common.{ap, ◌∙◌, sym, subst, get_or, length, None, arith}
use Rattle.cell_machine.specs.CellData.{data_of}
use Rattle.cell_machine.specs.CellTrace.{is_between}
use Rattle.cell_machine.specs.Places.{AreBelow}
use Rattle.cell_machine.specs.KeptArcs.{AreDelaysAt}
use Rattle.cell_machine.proofs.EntryPlaces.{places-below}
use Rattle.cell_machine.proofs.KeptValues.{kept_at, kept_set}
use Rattle.cell_machine.proofs.KeptPairs.{pair-delays, pair-found}
use Rattle.cell_machine.proofs.delays.kept_delays.Goals as goal

pub bounds : goal.bounds
bounds c = omega (arith, c.requires.inside, c.requires.kept.delays_are.0, ap length c.as_slice.ensures)

pub offset_bounds-as_slice-first : goal.offset_bounds-as_slice-first
offset_bounds-as_slice-first c =
    omega (arith, c.requires.inside, c.requires.kept.delays_are.0, ap length c.as_slice.ensures, c.as_slice.type_inv.1)

pub returns-in-Some-clause-delays : goal.returns-in-Some-clause-delays
returns-in-Some-clause-delays c =
    let cell = data_of c.args.arcs.now.cell.now in
    let v = c.args.arcs.now.inputs.now in
    pair-delays cell v c.args.places.now c.args.first c.in-Some.delays c.requires.pair c.requires.first
    (kept_at (AreDelaysAt cell v) _ c.args.kept.now.delays c.args.first None c.in-Some.delays c.requires.kept.delays_are c.requires.inside
    (ap (λ ks. get_or ks c.args.first None) (sym c.as_slice.ensures) ∙ c.in-Some.is))

pub least_delays-delays-requires-clause-below : goal.least_delays-delays-requires-clause-below
least_delays-delays-requires-clause-below c =
    let cell = data_of c.args.arcs.now.cell.now in
    let pair = c.requires.pair in
    subst (AreBelow (length cell.arcs)) (sym pair.are) (places-below (is_between cell.pins pair.input pair.output.pin) cell.arcs)

pub set-requires : goal.set-requires
set-requires c = omega (arith, c.requires.inside, c.requires.kept.delays_are.0)

pub returns-clause-kept : goal.returns-clause-kept
returns-clause-kept c =
    let cell = data_of c.args.arcs.now.cell.now in
    let v = c.args.arcs.now.inputs.now in
    record {
      conditions_are = c.least_delays-delays.ensures.kept;
      delays_are =
          kept_set (AreDelaysAt cell v) _ c.args.kept.now.delays c.args.first c.least_delays-delays.result c.set.new.self c.requires.kept.delays_are
          c.requires.inside
          (pair-found cell v c.args.places.now c.args.first c.least_delays-delays.result c.requires.pair c.requires.first
          c.least_delays-delays.ensures.delays)
          c.set.ensures;
    }
