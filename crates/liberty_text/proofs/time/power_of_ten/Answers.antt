use Rattle.std.proofs.Common.{◌≡◌, ℕ, ◌^◌, true, nat_eq, List, [], ◌∷◌, get_or, refl, arith}
use Rattle.std.proofs.lemmas.Bool.{agree_below, agree_below_at, eqb-true}
use Rattle.liberty_text.proofs.time.power_of_ten.Goals as goal

abbrev powers : List ℕ
powers =
    1 ∷ 10 ∷ 100 ∷ 1000 ∷ 10000 ∷ 100000 ∷ 1000000 ∷ 10000000 ∷ 100000000 ∷ 1000000000 ∷ 10000000000 ∷ 100000000000 ∷
    1000000000000 ∷ 10000000000000 ∷ 100000000000000 ∷ 1000000000000000 ∷ 10000000000000000 ∷ 100000000000000000 ∷
    1000000000000000000 ∷ []

-- each of them is its power
agree : agree_below (λ j. nat_eq (get_or powers j 0) (10 ^ j)) (λ j. true) 19 ≡ true
agree = refl

pub returns : goal.returns
returns c =
    eqb-true (get_or powers c.args.exponent 0) (10 ^ c.args.exponent)
    (agree_below_at (λ j. nat_eq (get_or powers j 0) (10 ^ j)) (λ j. true) 19 c.args.exponent agree (omega (arith, c.requires)))
