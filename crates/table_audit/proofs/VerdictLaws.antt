-- The verdict is Same exactly where the module matches the cell.
use Rattle.std.proofs.Common.{◌≡◌, Option, None, Some, refl, ◌∙◌, ap}
use Rattle.module_shapes.specs.declared.shape.ShapeTest.{ShapeTest}
use Rattle.module_tables.specs.declared.differences.Difference.{Difference}
use Rattle.table_audit.specs.declared.verdicts.Verdict.TheVariants.{Same}
use Rattle.module_shapes.specs.Shape.{shape_tests, first_amiss}
use Rattle.module_tables.specs.Tables.{compared, first_difference}
use Rattle.table_audit.specs.Verdict.{by_tables, by_shape}
use Rattle.table_audit.specs.Laws.{SameIsMatching}
use Rattle.module_shapes.proofs.ShapeLaws.{shape-from, from-shape}
use Rattle.module_tables.proofs.TableLaws.{tables-from, from-tables}

same-tables : (o : Option Difference) → by_tables o ≡ Same → o ≡ None
same-tables None h = refl
same-tables (Some c) h = absurd cc

same-both : (t : Option ShapeTest) (o : Option Difference) → by_shape t (by_tables o) ≡ Same → (t ≡ None) × (o ≡ None)
same-both None o h = (refl, same-tables o h)
same-both (Some t) o h = absurd cc

pub same_is_matching-lem : SameIsMatching
same_is_matching-lem d m = (
  λ h.
      let none = same-both (first_amiss (shape_tests d m)) (first_difference (compared d m)) h in
      record { shape = shape-from d m none.0; values = tables-from d m none.1 },
  λ h.
      ap (λ t. by_shape t (by_tables (first_difference (compared d m)))) (from-shape d m h.shape)
      ∙ ap by_tables (from-tables d m h.values),
)
