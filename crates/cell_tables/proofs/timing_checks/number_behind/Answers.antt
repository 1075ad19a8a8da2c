use Rattle.std.proofs.Common.{◌≡◌, map, length, arith}
use Rattle.std.proofs.lemmas.List.{length-map}
use Rattle.cell_tables.proofs.ConditionLemmas.{place-within}
use Rattle.cell_tables.proofs.timing_checks.number_behind.Goals as goal

pub overflow_add-result : goal.overflow_add-result
overflow_add-result c =
    let long : length (map (λ f. f.now) c.args.conditions.now) ≡ length c.args.conditions.now = length-map c.args.conditions.now (λ f. f.now) in
    omega (arith, place-within, long, c.condition_number.ensures)
