use Rattle.std.proofs.Common.{◌≡◌, true, ◌&&◌, nat_eq, sym, ◌∙◌, ap, subst}
use Rattle.std.specs.List.{list_any}
use Rattle.trit_cubes.specs.declared.trits.Trit.TheVariants.{Unknown}
use Rattle.trit_cubes.specs.Filling.{same}
use Rattle.cell_machine.specs.Machine.{last}
use Rattle.udp_tables.specs.Edges.{same_cube, with_last}
use Rattle.udp_tables.specs.Pairs.{Ascends}
use Rattle.udp_tables.proofs.NumberLemmas.{paired-number}
use Rattle.udp_tables.proofs.cube_index.CubeIndex.pairs.Goals as goal

pub returns-then-has_state : goal.returns-then-has_state
returns-then-has_state c =
    λ cubes are.
    let twin = with_last c.args.other c.args.cube.now in
    let known : same c.args.state (last Unknown c.args.cube.now) ≡ true = sym c.has_state.ensures ∙ c.if-has_state.true in
    c.has_number.ensures (subst Ascends (sym c.deref.ensures.value) are.ascend)
    ∙ (λ i. list_any (nat_eq (c.number_with.ensures i)) (c.deref.ensures.value i))
    ∙ paired-number c.args.other cubes c.args.self.now.numbers.items c.args.cube.now are
    ∙ ap (λ b. b && list_any (same_cube twin) cubes) (sym known)
