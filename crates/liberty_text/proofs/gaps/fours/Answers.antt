use Rattle.std.proofs.Common.{◌≡◌, [], ◌∷◌, take, drop, sym, ap, ◌∙◌, rules}
use Rattle.liberty_text.proofs.Quiet.{four_spaces, more_blanks, within_behind}
use Rattle.liberty_text.proofs.gaps.fours.Goals as goal

pub loop-count-preserved : goal.loop-count-preserved
loop-count-preserved c =
    let spaces : c.in-Some.front.now ≡ 32 ∷ 32 ∷ 32 ∷ 32 ∷ [] = search rules in
    let front : take 4 (drop c.loop-count.count c.args.bytes.now) ≡ 32 ∷ 32 ∷ 32 ∷ 32 ∷ []
    = ap (take 4) (sym c.split_at.ensures.back) ∙ sym c.in-Some.ensures.cases.same ∙ spaces in
    record {
      within =
          within_behind c.args.bytes.now c.split_at.result.1.now c.loop-count.count 4 c.loop-count.invariant.within c.split_at.ensures.back c.in-Some.ensures.cases.enough;
      blank =
          more_blanks c.args.bytes.now c.loop-count.count 4 c.loop-count.invariant.within c.loop-count.invariant.blank
          (four_spaces (drop c.loop-count.count c.args.bytes.now) front);
    }
