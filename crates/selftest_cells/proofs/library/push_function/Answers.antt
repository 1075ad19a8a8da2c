use Rattle.std.proofs.Common.{ℕ, List, ◌++◌, ap, ◌∙◌}
use Rattle.selftest_cells.proofs.CellTexts.{pushed_function}
use Rattle.selftest_cells.proofs.library.push_function.Goals as goal

pub returns : goal.returns
returns c =
    pushed_function c.args.number c.args.text.now.items c.extend_from_slice.new.self.items c.extend_from_slice-2.new.self.items
    c.extend_from_slice-3.new.self.items c.in_ok-extend_from_slice.ensures.items
    (c.in_ok-extend_from_slice-2.ensures.items
    ∙ ap (λ (t : List ℕ). c.extend_from_slice.new.self.items ++ t) (c.as_slice.ensures.value ∙ c.in_ok-function.ensures))
    c.in_ok-extend_from_slice-3.ensures.items
