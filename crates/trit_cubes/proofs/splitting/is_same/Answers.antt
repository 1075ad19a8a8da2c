use Rattle.std.proofs.Common.{◌≡◌, Bool, true, false, List, [], ◌∷◌, refl, sym, ◌∙◌}
use Rattle.std.proofs.Math.Bool.{beq}
use Rattle.std.specs.Cmp.Lexicographic.{pointwise}
use Rattle.std.proofs.lemmas.Bool.{true≢false, and_parts}
use Rattle.trit_cubes.proofs.splitting.is_same.Goals as goal

same_value : (a b : Bool) → beq a b ≡ true → a ≡ b
same_value true true h = refl
same_value false false h = refl
same_value true false h = absurd (true≢false (sym h))
same_value false true h = absurd (true≢false (sym h))

same_values : (xs ys : List Bool) → pointwise beq xs ys ≡ true → xs ≡ ys
same_values [] [] h = refl
same_values [] (y ∷ ys) h = absurd (true≢false (sym h))
same_values (x ∷ xs) [] h = absurd (true≢false (sym h))
same_values (x ∷ xs) (y ∷ ys) h =
    let parts = and_parts (beq x y) (pointwise beq xs ys) h in
    λ i. same_value x y parts.0 i ∷ same_values xs ys parts.1 i

pub returns : goal.returns
returns c = λ h. same_values c.args.one.now c.args.other.now (sym c.eq.ensures ∙ h)
