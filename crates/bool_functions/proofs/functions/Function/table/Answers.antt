use Rattle.std.proofs.Common.{◌∙◌, ap, sym, subst, IfOk}
use Rattle.bool_functions.specs.Point.{IsTable, HasValues}
use Rattle.bool_functions.specs.Form.{shown}
use Rattle.bool_functions.proofs.Tables.{entries_points, points_values, IfOk-both}
use Rattle.bool_functions.proofs.functions.Function.table.Goals as goal

pub returns-in-Short-clause-points : goal.returns-in-Short-clause-points
returns-in-Short-clause-points c =
    let points = subst (λ f. IfOk c.table.result (λ v. IsTable c.args.places.now f v.items)) (ap shown (sym c.in-Short.is) ∙ c.self.view_is)
    (IfOk-both _ _ _ (λ v len each. entries_points c.args.places.now c.in-Short.node v.items len each) c.table.result c.table.ensures.len c.table.ensures.entries) in
    points

pub returns-in-Short-clause-values : goal.returns-in-Short-clause-values
returns-in-Short-clause-values c =
    let points = subst (λ f. IfOk c.table.result (λ v. IsTable c.args.places.now f v.items)) (ap shown (sym c.in-Short.is) ∙ c.self.view_is)
    (IfOk-both _ _ _ (λ v len each. entries_points c.args.places.now c.in-Short.node v.items len each) c.table.result c.table.ensures.len c.table.ensures.entries) in
    IfOk-both _ _ (λ v. HasValues c.args.places.now c.args.self.now v.items)
    (λ v at _. points_values c.args.places.now c.args.self.now v.items c.requires.inside at) c.table.result points points

pub returns-in-Long-clause-points : goal.returns-in-Long-clause-points
returns-in-Long-clause-points c =
    let points = subst (λ f. IfOk c.table-in-Long.result (λ v. IsTable c.args.places.now f v.items)) (ap shown (sym c.in-Long.is) ∙ c.self.view_is)
    (IfOk-both _ _ _ (λ v len each. entries_points c.args.places.now c.in-Long.codes v.items len each) c.table-in-Long.result c.table-in-Long.ensures.len c.table-in-Long.ensures.entries) in
    points

pub returns-in-Long-clause-values : goal.returns-in-Long-clause-values
returns-in-Long-clause-values c =
    let points = subst (λ f. IfOk c.table-in-Long.result (λ v. IsTable c.args.places.now f v.items)) (ap shown (sym c.in-Long.is) ∙ c.self.view_is)
    (IfOk-both _ _ _ (λ v len each. entries_points c.args.places.now c.in-Long.codes v.items len each) c.table-in-Long.result c.table-in-Long.ensures.len c.table-in-Long.ensures.entries) in
    IfOk-both _ _ (λ v. HasValues c.args.places.now c.args.self.now v.items)
    (λ v at _. points_values c.args.places.now c.args.self.now v.items c.requires.inside at) c.table-in-Long.result points points
