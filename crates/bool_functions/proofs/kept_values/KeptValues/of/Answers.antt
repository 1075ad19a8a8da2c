use Rattle.std.proofs.Common.{◌≡◌, ◌^◌, ◌∙◌, length, slice_get, EachIndex, Some, ap, subst, arith}
use Rattle.bool_functions.specs.Tree.{value_by}
use Rattle.bool_functions.specs.Point.{entry_of}
use Rattle.bool_functions.proofs.Forms.{values_of_names}
use Rattle.bool_functions.proofs.kept_values.KeptValues.of.Goals as goal

pub returns : goal.returns
returns c = record {
  names = c.in_ok-names.ensures;
  few = omega arith;
  values = values_of_names c.args.node.now _ _ _ c.deref.ensures.value c.in_ok-names.ensures c.in_ok-values.ensures.len c.in_ok-values.ensures.entries;
  count = c.in_ok-values.ensures.len ∙ ap (λ l. 2 ^ length l) c.deref.ensures.value;
  entries = subst (λ l. EachIndex c.in_ok-values.values.items (λ k. slice_get c.in_ok-values.values.items k ≡ Some (value_by (entry_of l k) c.args.node.now))) c.deref.ensures.value c.in_ok-values.ensures.entries;
}
