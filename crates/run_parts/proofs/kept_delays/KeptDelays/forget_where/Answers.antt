use Rattle.trit_cubes.specs.declared.trits.Trit.TheVariants.{Zero, One}
use Rattle.run_parts.proofs.KeptDelayLemmas.{found-later, found-same}
use Rattle.run_parts.proofs.kept_delays.KeptDelays.forget_where.Goals as goal

pub returns-then-changed : goal.returns-then-changed
returns-then-changed c = λ before now are same.
    let kept = c.args.self.now in
    record {
      rises = found-later Zero One Zero One before now kept.turn _ kept.rises c.later-self.ensures are.rises;
      falls = found-later One Zero One Zero before now kept.turn _ kept.falls c.later-self.ensures are.falls;
    }

pub returns-else-changed : goal.returns-else-changed
returns-else-changed c = λ before now are same.
    let kept = c.args.self.now in
    record {
      rises = found-same Zero One before now kept.turn kept.rises (same c.if-changed.false) are.rises;
      falls = found-same One Zero before now kept.turn kept.falls (same c.if-changed.false) are.falls;
    }
