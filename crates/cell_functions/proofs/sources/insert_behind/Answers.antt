use Rattle.std.proofs.Common.{◌+◌, ◌*◌, ◌≡◌, false, nat_eq, eqb-true, ◌∙◌, inl, inr}
use Rattle.std.proofs.lemmas.Bool.{cases_Bool}
use Rattle.cell_attributes.proofs.Turns.{stands_turn}
use Rattle.cell_functions.proofs.sources.insert_behind.Goals as goal

pub loop-place-preserved : goal.loop-place-preserved
loop-place-preserved c =
    let other : nat_eq c.args.i (c.args.pins + 2 * c.loop-place.place + 1) ≡ false =
    elim (cases_Bool (nat_eq c.args.i (c.args.pins + 2 * c.loop-place.place + 1))) [
      | inl e ↦ absurd (c.if-i-name.false (eqb-true c.args.i (c.args.pins + 2 * c.loop-place.place + 1) e))
      | inr e ↦ e
    ] in (
      c.loop-place.invariant.0,
      stands_turn c.args.pins c.loop-place.place c.args.groups.now c.args.i c.loop-place-test.true other
          ∙ c.loop-place.invariant.1,
    )
