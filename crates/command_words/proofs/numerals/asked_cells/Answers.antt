use Rattle.std.proofs.Common.{◌≡◌, true, sym, ◌∙◌}
use Rattle.command_words.specs.Numerals.{is_numeral}
use Rattle.command_words.proofs.NumeralLemmas.{numeral_parses}
use Rattle.command_words.proofs.numerals.asked_cells.Goals as goal

pub returns-in-Err : goal.returns-in-Err
returns-in-Err c =
    let seen : is_numeral c.as_bytes.result.now ≡ true = sym c.if-not-is_numeral.ensures in
    let short : is_numeral c.args.word.now ≡ true = rw c.as_bytes.ensures.value at seen in
    let read = numeral_parses c.args.word.now c.parse.result c.parse.ensures.value.0 short in
    absurd (let no = sym c.in-Err.is ∙ read in cc)
