use Rattle.std.proofs.Common.{not, ◌++◌, map, length, ◌∙◌, append_assoc}
use Rattle.std.specs.Prelude.{filter}
use Rattle.trit_cubes.specs.declared.trits.Trit.TheVariants.{Zero, One}
use Rattle.cell_machine.specs.CellData.{data_of}
use Rattle.cell_machine.specs.CellTrace.{support_at, step_at}
use Rattle.udp_tables.specs.Edges.{edge_cubes, is_paired, kept_or_one}
use Rattle.cell_tables.specs.Cubes.{giving_cube, keeping_cube}
use Rattle.cell_tables.proofs.change_cubes.add_cubes_of_input.Goals as goal

pub returns : goal.returns
returns c =
    let step = step_at (data_of c.args.steps.now.cell.now) c.args.steps.now.group in
    let n = length (support_at (data_of c.args.steps.now.cell.now) c.args.steps.now.group) in
    let make = giving_cube c.args.place in
    let keep = keeping_cube c.args.place in
    let ones = edge_cubes step n c.args.place One in
    let zeros = edge_cubes step n c.args.place Zero in
    c.in_ok-add_zeros.ensures
    ∙ (λ i. (c.in_ok-add_ones.ensures
    ∙ (λ j. c.args.cubes.now ++ map (kept_or_one make keep ((c.deref-4.ensures.value ∙ c.in_ok-zeros.ensures.list) j)) ((c.deref-3.ensures.value ∙ c.in_ok-ones.ensures.list) j))) i
    ++ map (make Zero) (filter (λ d. not (is_paired Zero One ((c.deref-6.ensures.value ∙ c.in_ok-ones.ensures.list) i) d)) ((c.deref-5.ensures.value ∙ c.in_ok-zeros.ensures.list) i)))
    ∙ append_assoc c.args.cubes.now (map (kept_or_one make keep zeros) ones) (map (make Zero) (filter (λ d. not (is_paired Zero One ones d)) zeros))
