use Rattle.std.proofs.Common.{length, sym, ap, subst, ◌∙◌, arith, decimal, length-drop}
use Rattle.std.specs.Result.{result_ok}
use Rattle.std.specs.Str.{IsUtf8}
use Rattle.std.proofs.lemmas.Fmt.{decimal_nonempty, IsAscii-decimal, parse-decimal}
use Rattle.std.proofs.lemmas.Str.{IsUtf8-from_ascii}
use Rattle.vhdl_grammar.proofs.conditions.number_behind.Goals as goal

pub returns-then-token-word : goal.returns-then-token-word
returns-then-token-word c n h e =
    let some = decimal_nonempty n h in
    let none = length-drop (length c.args.word.now) c.args.token.now in
    let same = ap length e in
    absurd (omega (arith, some, none, same))

pub returns-in-Ok : goal.returns-in-Ok
returns-in-Ok c n h e = c.ok.ensures.value ∙ ap result_ok (parse-decimal 64 n c.in-Ok.digits.now c.parse.result h h (c.in-Ok.ensures.cases.0 ∙ c.split_at.ensures.back ∙ e) c.parse.ensures.value.0)

pub returns-in-Err : goal.returns-in-Err
returns-in-Err c n h e = absurd (c.in-Err.ensures.cases.0 (subst IsUtf8 (sym (c.split_at.ensures.back ∙ e)) (IsUtf8-from_ascii (decimal n) (IsAscii-decimal n h))))
