use Rattle.std.proofs.Common.{◌<◌, [], ap, ◌∙◌, length, arith}
use Rattle.std.specs.Prelude.{unwrap_or}
use Rattle.std.proofs.lemmas.Option.{slice_get-get_or}
use Rattle.process_runs.proofs.entity_tables.EntityTables.fed_by.Goals as goal

pub returns : goal.returns
returns c =
    let fed = c.args.self.now.index.now.fed in
    let inside : c.args.input < length fed = omega (arith, c.requires, c.args.self.now.indexed.feeding.each_input) in
    let is = slice_get-get_or fed c.args.input [] inside in
    rw c.as_slice.ensures at c.places_at.ensures
    ∙ ap (λ o. unwrap_or o []) is
    ∙ c.args.self.now.indexed.feeding.fed_by_input c.args.input _ is
