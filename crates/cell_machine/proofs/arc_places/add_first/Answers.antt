use Rattle.std.proofs.Common.{◌≡◌, ℕ, List, [], ◌++◌, cond, ap, sym, subst, ◌∙◌}
use Rattle.std.specs.Prelude.{OnOk, option_copied}
use Rattle.cell_machine.proofs.EntryPlaces.{take-first}
use Rattle.cell_machine.proofs.arc_places.add_first.Goals as goal

pub returns : goal.returns
returns c =
    let places = c.args.places.now in
    let first = sym c.first.ensures.value ∙ ap option_copied c.in-Some.is in
    subst (λ (added : List ℕ). OnOk c.add_where.result (c.add_where.new.places ≡ c.args.firsts.now ++ added))
    (λ j. cond (c.any_names.ensures j) (sym (take-first places _ first) j) []) c.add_where.ensures
