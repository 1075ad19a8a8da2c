use Rattle.std.proofs.Common.{◌≡◌, map, take, length, sym, ap, ◌∙◌, arith}
use Rattle.std.proofs.lemmas.List.{take_all}
use Rattle.trit_cubes.specs.Filling.{trit_of}
use Rattle.cell_machine.specs.Machine.{forced, forced_at}
use Rattle.cell_machine.specs.CellData.{data_of}
use Rattle.cell_machine.specs.CellTrace.{step_at}
use Rattle.cell_tables.proofs.GroupLemmas.{res-known}
use Rattle.cell_tables.proofs.points.forced_value.Goals as goal

pub returns : goal.returns
returns c =
    let point = c.args.point.now in
    let step = step_at (data_of c.args.cell.now) c.args.group in
    let all : c.loop-i.i ≡ length point = omega (arith, c.loop-i-test.false, c.loop-i.auto.i-end) in
    let trits : take (length point) c.loop-i.trits ≡ map trit_of point
    = sym (ap (λ k. take k c.loop-i.trits) all) ∙ c.loop-i.invariant.front ∙ ap (λ k. map trit_of (take k point)) all
    ∙ ap (map trit_of) (take_all (length point) point (omega arith)) in
    c.forced.ensures ∙ ap (forced step) trits ∙ res-known (forced_at step) point
