use Rattle.std.proofs.Common.{length, ap, ◌∙◌, arith}
use Rattle.trit_cubes.proofs.PackLemmas.{fixed-behind, value-behind, trits-behind, length-behind}
use Rattle.trit_cubes.proofs.cubes.Cube.before.Goals as goal

pub invariant_of-result : goal.invariant_of-result
invariant_of-result c =
    let long = c.self.invariant.1 ∙ ap length c.self.view_is in
    let fixed = fixed-behind c.args.self c.args.last c.self.inside.len _ _ long c.requires c.words-fixed.ensures.fixed c.bits-fixed_bit.ensures.known in
    let values = value-behind c.args.self c.args.last c.self.inside.len _ _ long c.requires c.words-fixed.ensures.values c.bits-fixed_bit.ensures.one in
    rw (trits-behind c.args.self c.args.last c.self.inside.len _ _ long fixed values)
    (omega (arith, long, c.requires), length-behind c.args.self c.args.last _ long, fixed, values)

pub returns : goal.returns
returns c =
    let long = c.self.invariant.1 ∙ ap length c.self.view_is in
    let fixed = fixed-behind c.args.self c.args.last c.self.inside.len _ _ long c.requires c.words-fixed.ensures.fixed c.bits-fixed_bit.ensures.known in
    let values = value-behind c.args.self c.args.last c.self.inside.len _ _ long c.requires c.words-fixed.ensures.values c.bits-fixed_bit.ensures.one in
    trits-behind c.args.self c.args.last c.self.inside.len _ _ long fixed values
