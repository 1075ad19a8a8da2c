use Rattle.std.proofs.Common.{ap, sym, ◌∙◌, ◌+◌, ◌*◌, ◌%◌}
use Rattle.std.proofs.Math.Nat.{mod-add-mod}
use Rattle.std.proofs.lemmas.Nat.{mul-mod_second}
use Rattle.selftest_cells.proofs.draws.next.Goals as goal

pub returns-clause-value : goal.returns-clause-value
returns-clause-value c =
    sym (mod-add-mod (1103515245 * (c.args.x % 2147483648)) 2147483648 12345)
    ∙ ap (λ n. (n + 12345) % 2147483648) (mul-mod_second 1103515245 c.args.x 2147483648)
    ∙ mod-add-mod (1103515245 * c.args.x) 2147483648 12345
