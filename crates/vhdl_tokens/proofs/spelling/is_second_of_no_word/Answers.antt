use Rattle.std.proofs.Common.{◌<◌, map, refl, arith}
use Rattle.std.specs.List.{range_with_len}
use Rattle.vhdl_tokens.specs.SecondBytes as spec
use Rattle.lexer.proofs.ByteTables.{told}
use Rattle.vhdl_tokens.proofs.spelling.is_second_of_no_word.Goals as goal

pub returns : goal.returns
returns c =
    let h : c.args.byte < 256 = omega (arith, c.ranges.byte.fits) in
    rw c.from.ensures (told spec.is_second_of_no_word c.args.byte (map spec.is_second_of_no_word (range_with_len 0 256)) _ refl refl h)
