use Rattle.std.proofs.Common.{sym, ap, ◌∙◌, length}
use Rattle.std.specs.Option.{option_map_or}
use Rattle.model_traces.specs.Primitives.{primitive_next, next_state}
use Rattle.module_runs.proofs.WiringLemmas.{wired-table}
use Rattle.module_runs.proofs.primitives.next_state.Goals as goal

pub table-table-requires : goal.table-table-requires
table-table-requires c = sym c.in-Some.ensures.value

pub primitive_next-requires-clause-table : goal.primitive_next-requires-clause-table
primitive_next-requires-clause-table c =
    rw c.table-table.ensures
    (wired-table (length c.args.room.now) c.args.tables.now.model.now c.in-Primitive.number c.in-Some.udp.now c.requires.wired (sym c.in-Some.ensures.value))

pub returns-in-Some-clause-next : goal.returns-in-Some-clause-next
returns-in-Some-clause-next c =
    let m = c.args.tables.now.model.now in
    let inputs = c.args.inputs.now in
    let state = c.args.state in
    rw (c.ports.ensures, c.as_slice-nets.ensures, c.table-table.ensures) at c.primitive_next.ensures.next
    ∙ ap (λ o. option_map_or (primitive_next m.ports inputs c.args.notifier c.args.turn c.in-Primitive.nets state) o state)
    c.in-Some.ensures.value
    ∙ ap (λ x. next_state m inputs c.args.notifier c.args.turn x state) (sym c.in-Primitive.is)
