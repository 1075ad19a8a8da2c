use Rattle.std.proofs.Common.{◌<◌, map, refl, arith}
use Rattle.std.specs.List.{range_with_len}
use Rattle.lexer.specs.Tokens as spec
use Rattle.lexer.proofs.ByteTables.{told}
use Rattle.lexer.proofs.classes.is_blank.Goals as goal

pub returns : goal.returns
returns c =
    let h : c.args.byte < 256 = omega (arith, c.ranges.byte.fits) in
    rw c.from.ensures (told spec.is_blank c.args.byte (map spec.is_blank (range_with_len 0 256)) _ refl refl h)
