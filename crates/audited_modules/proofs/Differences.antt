-- What the comparison answers where the tables differ.
use Rattle.std.proofs.Common.{◌≡◌, Bool, true, false, cond, List, [], ◌∷◌, inl, inr, refl, sym, ap, ◌∙◌, Option, Some, None}
use Rattle.std.specs.Prelude.{find}
use Rattle.trit_cubes.proofs.ListLemmas.{Among, among-contains}
use Rattle.model_traces.proofs.PlaceLemmas.{apart}
use Rattle.table_audit.specs.module_shapes.declared.shape.ShapeTest.{ShapeTest}
use Rattle.table_audit.specs.module_tables.declared.differences.Difference.{Difference}
use Rattle.table_audit.specs.declared.verdicts.Verdict.TheVariants.{Differs}
use Rattle.table_audit.specs.module_shapes.Shape.{shape_tests, first_amiss}
use Rattle.table_audit.specs.module_tables.Tables.{compared, is_unlike, first_difference}
use Rattle.table_audit.specs.Verdict.{by_tables, by_shape}
use Rattle.table_audit.proofs.ShapeLaws.{shape-from}
use Rattle.audited_modules.specs.Laws.{DifferencesAreUnlike}

-- the first entry that passes a test passes it and stands in the list
found-passes : {X : Type 0} (p : X → Bool) (xs : List X) (x : X) → find p xs ≡ Some x → (p x ≡ true) × Among x xs
found-passes p [] x e = absurd cc
found-passes p (y ∷ ys) x e = by (p y) refl e (λ rest. found-passes p ys x rest)
  where
    by :
        (b : Bool) → p y ≡ b → cond b (Some y) (find p ys) ≡ Some x → (find p ys ≡ Some x → (p x ≡ true) × Among x ys)
        → (p x ≡ true) × Among x (y ∷ ys)
    by true t found again = let same : y ≡ x = cc in (ap p (sym same) ∙ t, inl same)
    by false f found again = let rest = again found in (rest.0, inr rest.1)

differs-tables : (o : Option Difference) (c : Difference) → by_tables o ≡ Differs c → o ≡ Some c
differs-tables None c h = absurd cc
differs-tables (Some x) c h = let same : x ≡ c = cc in ap (λ y. Some y) same

differs-both :
    (t : Option ShapeTest) (o : Option Difference) (c : Difference)
    → by_shape t (by_tables o) ≡ Differs c → (t ≡ None) × (o ≡ Some c)
differs-both None o c h = (refl, differs-tables o c h)
differs-both (Some t) o c h = absurd cc

pub differences-unlike : DifferencesAreUnlike
differences-unlike d m c e =
    let parts = differs-both (first_amiss (shape_tests d m)) (first_difference (compared d m)) c e in
    let found = found-passes is_unlike (compared d m) c parts.1 in
    (shape-from d m parts.0, among-contains c (compared d m) found.1, apart c.of_cell c.of_model found.0)
