use Rattle.std.proofs.Common.{◌∙◌, sym}
use Rattle.trit_cubes.specs.declared.trits.Trit.TheVariants.{Zero, One}
use Rattle.run_parts.proofs.KeptDelayLemmas.{least-rise, least-fall}
use Rattle.run_parts.proofs.kept_delays.KeptDelays.keep.Goals as goal

pub returns-then-is_rise : goal.returns-then-is_rise
returns-then-is_rise c = λ paths are right.
    let rise = sym c.is_rise.ensures ∙ c.if-is_rise.true in
    let least = least-rise c.args.change.from c.args.change.to (paths c.args.output c.args.change.input) rise in
    record { rises = c.keep_in.ensures Zero One paths are.rises (right ∙ least); falls = are.falls }

pub returns-else-is_rise : goal.returns-else-is_rise
returns-else-is_rise c = λ paths are right.
    let fall = sym c.is_rise.ensures ∙ c.if-is_rise.false in
    let least = least-fall c.args.change.from c.args.change.to (paths c.args.output c.args.change.input) fall in
    record { rises = are.rises; falls = c.keep_in-else-is_rise.ensures One Zero paths are.falls (right ∙ least) }
