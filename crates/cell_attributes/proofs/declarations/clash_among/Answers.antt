use Rattle.std.proofs.Common.{◌∙◌, map, take, sym, subst}
use Rattle.cell_attributes.specs.KnownNames.{IsKnown}
use Rattle.cell_attributes.specs.Shown.{shown_name}
use Rattle.cell_attributes.proofs.Clashes.{clash_turn, clash_end, more_names}
use Rattle.cell_attributes.proofs.declarations.clash_among.Goals as goal

pub loop-later-preserved : goal.loop-later-preserved
loop-later-preserved c =
    let i = c.loop-later.later-index in
    let before = map shown_name (take i c.args.declared.now) in
    record {
      least =
          clash_turn c.args.declared.now i _ c.loop-later.found c.clash_at.result c.lesser-found.result c.loop-later-test.true
          (c.clash_at.ensures before c.loop-later.invariant.known) c.lesser-found.ensures
          ∙ c.loop-later.invariant.least;
      known =
          subst (λ names. IsKnown names c.add.new.known) (sym (more_names c.args.declared.now i _ c.loop-later-test.true))
          (c.in_ok-add.ensures before c.loop-later.invariant.known);
    }

pub returns : goal.returns
returns c =
    clash_end c.args.declared.now c.loop-later.later-index c.loop-later.found _ c.loop-later-test.false c.loop-later.invariant.least
