use Rattle.std.proofs.Common.{◌^◌, ◌≤◌, suc, List, length, sym, ◌∙◌, ap, subst, arith}
use Rattle.std.specs.Prelude.{filter}
use Rattle.std.specs.List.{All}
use Rattle.std.proofs.lemmas.List.Elements.{All-filter}
use Rattle.trit_cubes.specs.declared.trits.Trit.{Trit}
use Rattle.trit_cubes.specs.Sets.{gives}
use Rattle.cell_machine.specs.Machine.{edge_value}
use Rattle.cell_machine.specs.CellData.{data_of}
use Rattle.cell_machine.specs.CellTrace.{step_at, support_at}
use Rattle.udp_tables.specs.Edges.{moves}
use Rattle.cell_tables.proofs.GroupPlaces.{places-counted, primes-over, primes-wide}
use Rattle.cell_tables.proofs.change_cubes.edge_cubes.Goals as goal

pub primes_where-requires-clause-entries : goal.primes_where-requires-clause-entries
primes_where-requires-clause-entries c =
    c.requires.values.entries ∙ ap (λ n. 2 ^ n) (sym (places-counted (data_of c.args.steps.now.cell.now) c.args.steps.now.group _ _ c.len-pins.ensures c.group.ensures.is))

pub moving_cubes-requires : goal.moving_cubes-requires
moving_cubes-requires c =
    let cell = data_of c.args.steps.now.cell.now in
    let f = edge_value (step_at cell c.args.steps.now.group) c.args.place in
    primes-wide 2 (suc (suc (length (support_at cell c.args.steps.now.group)))) (gives c.args.value f) _
    (c.deref.ensures.value
    ∙ primes-over _ _ f c.args.values.now c.args.value _ (places-counted cell c.args.steps.now.group _ _ c.len-pins.ensures c.group.ensures.is) c.requires.values c.in_ok-cubes.ensures)
    (omega arith)

pub returns-clause-list : goal.returns-clause-list
returns-clause-list c =
    c.in_ok-moving.ensures
    ∙ ap (filter moves)
    (c.deref.ensures.value
    ∙ primes-over _ _ (edge_value (step_at (data_of c.args.steps.now.cell.now) c.args.steps.now.group) c.args.place) c.args.values.now c.args.value _
    (places-counted (data_of c.args.steps.now.cell.now) c.args.steps.now.group _ _ c.len-pins.ensures c.group.ensures.is) c.requires.values c.in_ok-cubes.ensures)

pub returns-clause-wide : goal.returns-clause-wide
returns-clause-wide c =
    let cell = data_of c.args.steps.now.cell.now in
    let f = edge_value (step_at cell c.args.steps.now.group) c.args.place in
    let cubes =
    c.deref.ensures.value
    ∙ primes-over _ _ f c.args.values.now c.args.value _ (places-counted cell c.args.steps.now.group _ _ c.len-pins.ensures c.group.ensures.is) c.requires.values c.in_ok-cubes.ensures in
    subst (All (λ (cube : List Trit). 1 ≤ length cube)) (sym c.in_ok-moving.ensures)
    (All-filter moves (λ (cube : List Trit). 1 ≤ length cube) c.deref.result.now
    (primes-wide 1 (suc (suc (length (support_at cell c.args.steps.now.group)))) (gives c.args.value f) _ cubes (omega arith)))
