use Rattle.std.proofs.Common.{sym, ap, ◌∙◌}
use Rattle.bool_functions.specs.Tree.{value_of}
use Rattle.cell_machine.specs.declared.groups.GroupKind.TheVariants as kind
use Rattle.cell_machine.specs.CellData.{data_of}
use Rattle.cell_machine.specs.Values.{written}
use Rattle.step_tables.proofs.ClockLemmas.{clock_at-is}
use Rattle.step_tables.proofs.group_points.clock_at.Goals as goal

pub returns-in-Ff : goal.returns-in-Ff
returns-in-Ff c =
    c.value.ensures
    ∙ ap (λ values. value_of values c.in-Ff.kind.clocked_on)
    (c.written-values.ensures ∙ (λ j. written (c.new.ensures j) (c.as_slice.ensures j) c.args.point.now))
    ∙ sym (clock_at-is (data_of c.args.cell.now) c.args.group c.group-group.result.now (kind.Ff c.in-Ff.kind) c.args.point.now
    c.group-group.ensures.is c.in-Ff.is)
