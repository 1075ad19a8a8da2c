use Rattle.std.proofs.Common.{◌≡◌, true, false, cond, [], ◌∷◌, ◌++◌, sym, ap, ◌∙◌, arith, append-nil}
use Rattle.bool_functions.specs.Support.{support_of}
use Rattle.cell_machine.specs.Names.{has}
use Rattle.module_terminals.proofs.Names.{name-test}
use Rattle.module_terminals.proofs.supports.add_name.Goals as goal

pub push-requires : goal.push-requires
push-requires c =
    (omega arith, c.requires (sym (name-test c.args.condition.now c.args.name c.has.result c.has.ensures) ∙ c.if-has.true))

pub returns-then-has : goal.returns-then-has
returns-then-has c =
    let is : has (support_of c.args.condition.now) c.args.name ≡ true
    = sym (name-test c.args.condition.now c.args.name c.has.result c.has.ensures) ∙ c.if-has.true in
    c.push.ensures ∙ ap (λ b. c.args.names.now ++ cond b (c.args.name ∷ []) []) (sym is)

pub returns-else-has : goal.returns-else-has
returns-else-has c =
    let is : has (support_of c.args.condition.now) c.args.name ≡ false
    = sym (name-test c.args.condition.now c.args.name c.has.result c.has.ensures) ∙ c.if-has.false in
    sym (append-nil c.args.names.now) ∙ ap (λ b. c.args.names.now ++ cond b (c.args.name ∷ []) []) (sym is)
