use Rattle.std.proofs.Common.{sym, ap, ◌∙◌, arith}
use Rattle.std.proofs.lemmas.Option.{slice_get_within}
use Rattle.std.specs.Option.{option_copied}
use Rattle.text_io.proofs.WordLemmas.{not_there, not_files, still_files, so_many}
use Rattle.text_io.proofs.asked.are_named.Goals as goal

pub returns-then-not-is_file_word : goal.returns-then-not-is_file_word
returns-then-not-is_file_word g c =
    not_files _ c.loop-place.place _ _ (sym c.word-in-loop-place.ensures ∙ ap option_copied c.in-Some.is) (sym c.is_file_word.ensures ∙ c.if-not-is_file_word.true) c.loop-place.invariant.same

pub loop-place-preserved : goal.loop-place-preserved
loop-place-preserved g c =
    let there = sym c.word-in-loop-place.ensures ∙ ap option_copied c.in-Some.is in
    record {
      there = omega (arith, slice_get_within (g.D.Desk.state c.args.desk.now).words c.loop-place.place _ there);
      same = still_files _ c.loop-place.place _ there (sym c.is_file_word.ensures ∙ c.if-not-is_file_word.false) ∙ c.loop-place.invariant.same;
    }

pub returns : goal.returns
returns g c = so_many _ c.loop-place.place _ (sym c.word.ensures ∙ ap option_copied (not_there c.word.result (sym c.is_some.ensures ∙ c.if-is_some.false))) c.loop-place.invariant.there c.loop-place-test.false c.loop-place.invariant.same
