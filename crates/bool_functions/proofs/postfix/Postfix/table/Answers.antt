use Rattle.std.proofs.Common.{◌≡◌, ◌^◌, length, slice_get, EachIndex, Some, subst}
use Rattle.bool_functions.specs.Tree.{value_by}
use Rattle.bool_functions.specs.Point.{entry_of}
use Rattle.bool_functions.specs.Kept.{AreOfTree}
use Rattle.bool_functions.proofs.Tables.{IfOk-both}
use Rattle.bool_functions.proofs.Forms.{kept_len, kept_entries}
use Rattle.bool_functions.proofs.postfix.Postfix.table.Goals as goal

pub returns-then-are_over-clause-len : goal.returns-then-are_over-clause-len
returns-then-are_over-clause-len c =
    let of = subst (λ k. AreOfTree c.args.self.now k) c.in-Some.is (subst (λ f. AreOfTree f c.self.inside.kept) c.self.view_is c.self.invariant.1) in
    IfOk-both _ _ (λ v. length v.items ≡ 2 ^ length c.args.places.now)
    (λ v is _. kept_len c.args.self.now c.in-Some.kept of c.args.places.now v.items (c.are_over.ensures.0 c.if-are_over.true) is) c.list.result c.list.ensures c.list.ensures

pub returns-then-are_over-clause-entries : goal.returns-then-are_over-clause-entries
returns-then-are_over-clause-entries c =
    let of = subst (λ k. AreOfTree c.args.self.now k) c.in-Some.is (subst (λ f. AreOfTree f c.self.inside.kept) c.self.view_is c.self.invariant.1) in
    IfOk-both _ _ (λ v. EachIndex v.items (λ k. slice_get v.items k ≡ Some (value_by (entry_of c.args.places.now k) c.args.self.now)))
    (λ v is _. kept_entries c.args.self.now c.in-Some.kept of c.args.places.now v.items (c.are_over.ensures.0 c.if-are_over.true) is) c.list.result c.list.ensures c.list.ensures
