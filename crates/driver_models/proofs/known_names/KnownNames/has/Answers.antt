use Rattle.std.proofs.Common.{◌≡◌, ℕ, List, ap, ◌∙◌}
use Rattle.std.specs.Option.{is_some}
use Rattle.bool_functions.specs.NameList.{number_of}
use Rattle.grammar_reader.specs.Words.{is_among}
use Rattle.driver_models.proofs.FoldedNames.{found_among}
use Rattle.driver_models.proofs.known_names.KnownNames.has.Goals as goal

pub returns : goal.returns
returns g c =
    let key : c.deref.result.now ≡ g.L.DriverLanguage.fold c.args.name.now = c.deref.ensures.value ∙ c.in_ok-folded.ensures in
    c.is_some.ensures ∙ ap is_some (c.number.ensures ∙ ap (number_of c.self.inside.folded) key)
    ∙ found_among g.L.DriverLanguage.fold g.L.Spelling.Language.is_name g.L.Spelling.Language.is_same g.met.L.DriverLanguage.same c.self.inside.folded c.self.inside.names
    c.args.name.now c.self.invariant c.requires
    ∙ ap (λ (names : List (List ℕ)). is_among g.L.Spelling.Language.is_same names c.args.name.now) c.self.view_is
