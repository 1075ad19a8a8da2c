use Rattle.std.proofs.Common.{◌≡◌, ◌-◌, ◌++◌, filter, ap, ◌∙◌, arith}
use Rattle.std.specs.List.{range_with_len}
use Rattle.bool_functions.specs.Support.{support_of}
use Rattle.cell_machine.specs.Names.{has}
use Rattle.module_terminals.proofs.Names.{names-among, name-more, name-room, names-end}
use Rattle.module_terminals.proofs.supports.support_of.Goals as goal

pub loop-name-init : goal.loop-name-init
loop-name-init c =
    let f = c.args.condition.now in
    let all : c.args.bound - 0 ≡ c.args.bound = omega arith in
    ap (λ ns. ns ++ filter (has (support_of f)) (range_with_len 0 (c.args.bound - 0))) c.new-names.ensures
    ∙ ap (λ k. filter (has (support_of f)) (range_with_len 0 k)) all
    ∙ names-among f c.args.bound c.requires.bounded

pub add_name-requires : goal.add_name-requires
add_name-requires c =
    let f = c.args.condition.now in
    name-room (has (support_of f)) c.loop-name.name c.args.bound 10 c.loop-name.names (support_of f) (omega (arith, c.loop-name-test.true)) c.requires.few
    c.loop-name.invariant

pub loop-name-preserved : goal.loop-name-preserved
loop-name-preserved c =
    let f = c.args.condition.now in
    name-more (has (support_of f)) c.loop-name.name c.args.bound c.loop-name.names _ (support_of f) (omega (arith, c.loop-name-test.true))
    c.add_name.ensures c.loop-name.invariant

pub returns : goal.returns
returns c =
    let f = c.args.condition.now in
    names-end (has (support_of f)) c.loop-name.name c.args.bound c.loop-name.names (support_of f) (omega (arith, c.loop-name-test.false)) c.loop-name.invariant
