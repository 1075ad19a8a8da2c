use Rattle.std.proofs.Common.{◌<◌, Some, None, sym, ◌∙◌, arith}
use Rattle.vhdl_grammar.proofs.NextPlaces.{only_number, none_found, zero_found, beyond_found, place_found}
use Rattle.vhdl_grammar.proofs.conditions.place_among.Goals as goal

pub returns-in-None : goal.returns-in-None
returns-in-None c =
    let only = only_number c.args.word.now c.args.token.now None c.in-None.ensures in
    sym (none_found c.args.word.now c.args.token.now c.args.most None c.ranges.most.fits only (λ n e above below its. cc))

pub returns-then-number-eq0 : goal.returns-then-number-eq0
returns-then-number-eq0 c =
    let only = only_number c.args.word.now c.args.token.now (Some c.in-Some.number) c.in-Some.ensures in
    sym (zero_found c.args.word.now c.args.token.now c.args.most c.in-Some.number c.ranges.most.fits only c.if-number-eq0.true)

pub returns-then-number-most : goal.returns-then-number-most
returns-then-number-most c =
    let only = only_number c.args.word.now c.args.token.now (Some c.in-Some.number) c.in-Some.ensures in
    sym (beyond_found c.args.word.now c.args.token.now c.args.most c.in-Some.number c.ranges.most.fits only c.if-number-most.true)

pub returns-else-number-most : goal.returns-else-number-most
returns-else-number-most c =
    let only = only_number c.args.word.now c.args.token.now (Some c.in-Some.number) c.in-Some.ensures in
    let above : 0 < c.in-Some.number = omega arith in
    c.place_at.ensures
    ∙ place_found c.args.word.now c.args.token.now c.args.most c.in-Some.number c.ranges.most.fits only above c.if-number-most.false
