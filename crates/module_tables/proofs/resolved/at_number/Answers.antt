use Rattle.std.proofs.Common.{take, sym, ap, subst, ◌∙◌}
use Rattle.std.specs.Fn.{FnReturnsAt}
use Rattle.trit_cubes.specs.Sets.{point_of}
use Rattle.trit_cubes.proofs.PointLemmas.{take-point_of}
use Rattle.module_tables.proofs.resolved.at_number.Goals as goal

pub returns : goal.returns
returns g c = λ t e.
    subst (λ u. FnReturnsAt g.F.Fn c.args.function.now (point_of c.args.places c.args.number) u) (sym e)
    (record {
      shown = _;
      shows = ap (take c.args.places) c.point_of-point.ensures ∙ take-point_of c.args.places 10 c.args.number c.requires.few;
      says = record { met = c.function.ensures };
    })
