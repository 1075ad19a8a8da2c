use Rattle.std.proofs.Common.{◌≡◌, ◌+◌, ◌∙◌, List, map, drop, length, ap, refl, arith}
use Rattle.std.specs.Prelude.{ℕ}
use Rattle.liberty_groups.specs.declared.tree.Group.{Group}
use Rattle.timing_arcs.specs.declared.subject.Subject.{Subject}
use Rattle.core_groups.proofs.Turns.{map_turn}
use Rattle.three_state_cells.proofs.Turns.{refusal_turn, count_turn, same_turn}
use Rattle.three_state_cells.proofs.driver_refusals.driver_refusal.Goals as goal

pub overflow_add-next : goal.overflow_add-next
overflow_add-next c =
    let group : Group = c.group-item.result.now in
    let rest : List Group = map (λ group. group.now) (drop (c.loop-group.group-index + 1) c.args.groups.now) in
    let turn = map_turn (λ group. group.now) c.args.groups.now c.loop-group.group-index c.group-item.result c.loop-group-test.true c.group-item.is in
    let count = count_turn c.loop-group.core.place (c.loop-group.core.place + length group.arguments) group rest _ turn refl in
    let all = c.loop-group.invariant.number in
    let few = c.requires in
    let len = c.len.ensures in
    omega (arith, count, all, few, len)

pub loop-group-preserved : goal.loop-group-preserved
loop-group-preserved c =
    let group : Group = c.group-item.result.now in
    let rest : List Group = map (λ group. group.now) (drop (c.loop-group.group-index + 1) c.args.groups.now) in
    let turn = map_turn (λ group. group.now) c.args.groups.now c.loop-group.group-index c.group-item.result c.loop-group-test.true c.group-item.is in
    let place : c.move_to-in-loop-group.new.core.place ≡ c.loop-group.core.place + length group.arguments =
    ap (λ (subject : Subject). subject.place) c.move_to-in-loop-group.ensures ∙ ap (λ (n : ℕ). c.loop-group.core.place + n) c.len.ensures in
    record {
      so_far =
          refusal_turn c.args.core.now c.loop-group.core c.loop-group.found _ _ _ group rest _ turn c.loop-group.invariant.same
          c.in_ok-wrong_outputs.ensures c.first_of_two-found.ensures place
          ∙ c.loop-group.invariant.so_far;
      number = count_turn c.loop-group.core.place _ group rest _ turn place ∙ c.loop-group.invariant.number;
      same = same_turn c.args.core.now c.loop-group.core _ _ c.loop-group.invariant.same c.move_to-in-loop-group.ensures;
    }
