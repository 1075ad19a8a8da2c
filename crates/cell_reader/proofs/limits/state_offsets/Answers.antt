use Rattle.std.proofs.Common.{◌≡◌, ◌+◌, ◌∙◌, ◌∷◌, ◌++◌, ap, append_assoc, drop, flat_map, map, sym}
use Rattle.std.proofs.lemmas.List.{drop_more}
use Rattle.cell_attributes.specs.Limits.{state_at}
use Rattle.cell_reader.proofs.limits.state_offsets.Goals as goal

pub loop-group-preserved : goal.loop-group-preserved
loop-group-preserved c =
    let groups = c.args.groups.now in
    let at = c.loop-group.group-index in
    let group = c.group-item.result in
    let offsets = c.loop-group.offsets.items in
    let rest : drop at groups ≡ group ∷ drop (at + 1) groups =
    drop_more groups at group c.loop-group-test.true ∙ ap (λ x. x ∷ drop (at + 1) groups) (sym c.group-item.is) in
    ap (λ all. all ++ flat_map state_at (map (λ g. g.now) (drop (at + 1) groups))) c.in_ok-add_states.ensures
    ∙ append_assoc offsets (state_at group.now) (flat_map state_at (map (λ g. g.now) (drop (at + 1) groups)))
    ∙ sym (ap (λ left. offsets ++ flat_map state_at (map (λ g. g.now) left)) rest)
    ∙ c.loop-group.invariant
