use Rattle.std.proofs.Common.{◌∙◌, sym, subst}
use Rattle.trit_cubes.specs.declared.trits.Trit.TheVariants.{Zero, One}
use Rattle.run_parts.specs.KeptDelays.{AreFound}
use Rattle.run_parts.proofs.KeptDelayLemmas.{least-rise, least-fall}
use Rattle.run_parts.proofs.kept_delays.KeptDelays.known.Goals as goal

pub returns-then-is_rise : goal.returns-then-is_rise
returns-then-is_rise c = λ paths delay are is.
    let rises = sym c.is_rise.ensures ∙ c.if-is_rise.true in
    let all = subst (AreFound Zero One paths c.args.self.now.turn) (sym c.as_slice.ensures) are.rises in
    c.known_in.ensures Zero One paths delay all is
    ∙ sym (least-rise c.args.change.from c.args.change.to (paths c.args.output c.args.change.input) rises)

pub returns-else-is_rise : goal.returns-else-is_rise
returns-else-is_rise c = λ paths delay are is.
    let rises = sym c.is_rise.ensures ∙ c.if-is_rise.false in
    let all = subst (AreFound One Zero paths c.args.self.now.turn) (sym c.as_slice-else-is_rise.ensures) are.falls in
    c.known_in-else-is_rise.ensures One Zero paths delay all is
    ∙ sym (least-fall c.args.change.from c.args.change.to (paths c.args.output c.args.change.input) rises)
