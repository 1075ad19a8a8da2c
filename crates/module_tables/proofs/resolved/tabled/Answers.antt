use Rattle.std.proofs.Common.{◌≡◌, ◌∙◌, rules, of_calls}
use Rattle.std.specs.Prelude.{slice_index_or}
use Rattle.trit_cubes.specs.declared.trits.Trit.TheVariants.{Unknown}
use Rattle.trit_cubes.specs.Filling.{number}
use Rattle.cell_machine.proofs.Tables.{filling_wide}
use Rattle.module_tables.proofs.resolved.tabled.Goals as goal

pub returns : goal.returns
returns c = λ f are.
    c.resolve.ensures f
    (record {
      at_filling = λ p filling v says.
          let is : v ≡ slice_index_or c.args.values.now (number p) Unknown = first_of (search (rules), search (of_calls), search (of_calls, rules)) in
          is ∙ are.values_at p (filling_wide c.args.places.now p filling);
    })
