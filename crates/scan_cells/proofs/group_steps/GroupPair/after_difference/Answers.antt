use Rattle.std.proofs.Common.{◌≡◌, Bool, true, cond, Option, None, List, length, sym, ap, ◌∙◌}
use Rattle.std.specs.List.{range_with_len}
use Rattle.cell_machine.specs.declared.outputs.Source.{Source}
use Rattle.cell_machine.specs.CellData.{data_of}
use Rattle.scan_cells.specs.Views.{view_data}
use Rattle.scan_cells.specs.Places.{changed_at, is_inactive}
use Rattle.scan_cells.specs.Comparison.{or_else, first_some, step_places, change_difference}
use Rattle.scan_cells.proofs.group_steps.GroupPair.after_difference.Goals as goal

-- the later answer, where the first is none
later : {A : Type 0} (b : Bool) (x y z : Option A) → b ≡ true → x ≡ None → z ≡ y → z ≡ cond b (or_else x y) None
later b x y z h k e = e ∙ ap (λ o. or_else o y) (sym k) ∙ ap (λ c. cond c (or_else x y) None) (sym h)

pub returns-in-None : goal.returns-in-None
returns-in-None c =
    let cell = data_of c.args.self.now.cell.now in
    let view = view_data c.args.self.now.over.view.now in
    let g = c.args.self.now.group in
    let idle : is_inactive view (step_places cell view g) c.args.after ≡ true =
    ap (λ xs. is_inactive view xs c.args.after) (sym c.args.self.now.are_places) ∙ sym c.is_inactive.ensures ∙ c.if-not-is_inactive.false in
    later (is_inactive view (step_places cell view g) c.args.after) (change_difference cell view g c.args.after c.args.after) _
    c.changed_difference.result idle (sym c.change_difference.ensures ∙ c.in-None.is)
    (c.changed_difference.ensures
    ∙ ap (λ (xs : List Source). first_some (λ k. change_difference cell view g c.args.after (changed_at c.args.after k)) (range_with_len 0 (length xs)))
    c.args.self.now.are_places)
