use Rattle.std.proofs.Common.{◌≡◌, ℕ, ◌≤◌, List, length, ap, subst, arith}
use Rattle.bool_functions.specs.NameList.{Adds}
use Rattle.vhdl_tokens.specs.Kept.{lowered}
use Rattle.vhdl_grammar.proofs.LoweredNames.{far_added}
use Rattle.vhdl_grammar.proofs.ports.far_with.Goals as goal

pub returns-clause-added : goal.returns-clause-added
returns-clause-added c =
    let many : 16 ≤ length c.args.ports.now = omega arith in
    far_added c.args.ports.now c.args.far c.add.new.self c.args.port.now c.in_ok-add.field-0 many c.requires.kept c.requires.named
    c.requires.fresh
    (subst (λ (x : List ℕ). Adds c.args.far (lowered x) c.in_ok-add.field-0 c.add.new.self) c.as_slice.ensures
    c.in_ok-add.ensures.added)
