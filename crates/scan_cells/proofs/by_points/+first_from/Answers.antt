use Rattle.std.proofs.Common.{◌≡◌, suc, ◌+◌, ◌-◌, ◌^◌, sym, ap, ◌∙◌, ◌*◌, rules, arith}
use Rattle.std.specs.List.{range_with_len}
use Rattle.scan_cells.specs.Comparison.{or_else, first_some}
use Rattle.scan_cells.proofs.Halves.{none_with, first_alone, first_halves, half_whole, later_whole, half_few, none_behind}
use Rattle.scan_cells.proofs.by_points.+first_from.Goals as goal

pub returns-then-is_mixed : goal.returns-then-is_mixed
returns-then-is_mixed g t c =
    sym (none_with (g.P.Compared.at c.args.pair.now) c.args.point c.requires.whole.0 c.args.places c.requires.whole.1 c.requires.before
    (c.is_mixed.ensures c.if-is_mixed.true))

pub returns-then-places-eq0 : goal.returns-then-places-eq0
returns-then-places-eq0 g t c =
    c.difference_at.ensures ∙ sym (first_alone (g.P.Compared.at c.args.pair.now) c.args.point c.args.places c.if-places-eq0.true)

pub first_from-requires : goal.first_from-requires
first_from-requires g t c κs within =
    let rest = c.args.places - 1 in
    let e : c.args.places ≡ suc rest = omega (arith, c.if-places-eq0.false) in
    let count = c.requires.whole.0 in
    let whole = half_whole c.args.point c.args.places rest count e c.requires.whole.1 in
    let few = half_few c.args.point c.args.places rest (2 ^ 20) e c.requires.few in
    (omega (arith, c.decreases, e), (search rules, (omega (arith, c.requires.places), ((count + count, whole), (few.0, c.requires.before)))))

pub first_from-requires-in-None : goal.first_from-requires-in-None
first_from-requires-in-None g t c κs within =
    let rest = c.args.places - 1 in
    let e : c.args.places ≡ suc rest = omega (arith, c.if-places-eq0.false) in
    let count = c.requires.whole.0 in
    let f = g.P.Compared.at c.args.pair.now in
    let later = later_whole c.args.point c.args.places rest count e c.requires.whole.1 in
    let whole : c.args.point + c.weight.result ≡ (count + count + 1) * 2 ^ rest = omega (arith, later, c.weight.ensures) in
    let few = half_few c.args.point c.args.places rest (2 ^ 20) e c.requires.few in
    let none = none_behind f c.args.point (2 ^ rest) c.requires.before (sym c.first_from.ensures ∙ c.in-None.is) in (
      omega (arith, c.decreases, e),
      (
        search rules,
        (
          omega (arith, c.requires.places),
          (
            (count + count + 1, whole),
            (
              omega (arith, few.1, c.weight.ensures),
              λ p h. none p (omega (arith, h, c.weight.ensures)),
            ),
          ),
        ),
      ),
    )

pub returns-in-Some : goal.returns-in-Some
returns-in-Some g t c =
    let rest = c.args.places - 1 in
    let e : c.args.places ≡ suc rest = omega (arith, c.if-places-eq0.false) in
    let f = g.P.Compared.at c.args.pair.now in
    sym (first_halves f c.args.point c.args.places rest e
    ∙ ap (λ o. or_else o (first_some f (range_with_len (c.args.point + 2 ^ rest) (2 ^ rest)))) (sym c.first_from.ensures ∙ c.in-Some.is))

pub returns-in-None : goal.returns-in-None
returns-in-None g t c =
    let rest = c.args.places - 1 in
    let e : c.args.places ≡ suc rest = omega (arith, c.if-places-eq0.false) in
    let f = g.P.Compared.at c.args.pair.now in
    c.first_from-in-None.ensures
    ∙ ap (λ n. first_some f (range_with_len (c.args.point + n) (2 ^ rest))) c.weight.ensures
    ∙ sym (first_halves f c.args.point c.args.places rest e
    ∙ ap (λ o. or_else o (first_some f (range_with_len (c.args.point + 2 ^ rest) (2 ^ rest)))) (sym c.first_from.ensures ∙ c.in-None.is))
