use Rattle.std.proofs.Common.{◌≡◌, ◌≤◌, length, map, arith}
use Rattle.std.proofs.lemmas.List.{length-map}
use Rattle.cell_machine.proofs.RuleLemmas.{few_groups}
use Rattle.cell_tables.proofs.ConditionLemmas.{place-within}
use Rattle.specify_blocks.proofs.timing.wire_of.Goals as goal

pub overflow_add-result : goal.overflow_add-result
overflow_add-result c =
    let few : length c.args.cell.now.groups ≤ 16 = few_groups c.args.cell.now in
    let within = place-within c.args.condition.now (map (λ f. f.now) c.args.conditions.now) in
    let long : length (map (λ f. f.now) c.args.conditions.now) ≡ length c.args.conditions.now = length-map c.args.conditions.now (λ f. f.now) in
    omega (arith, few, within, long, c.condition_number.ensures, c.len.ensures)
