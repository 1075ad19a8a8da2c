use Rattle.cell_reader.proofs.GroupsPast.{group_past}
use Rattle.cell_reader.proofs.limits.first_group_past.Goals as goal

pub returns-in-Some : goal.returns-in-Some
returns-in-Some c =
    let found = c.in-Some.ensures.lookup in
    group_past (λ group. group.now) c.args.groups.now c.args.limit c.in-Some.group.now found.3.0 found.1
