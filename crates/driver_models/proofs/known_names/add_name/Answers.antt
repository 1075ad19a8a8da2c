use Rattle.std.proofs.Common.{◌≡◌, ◌∷◌, ◌++◌, [], ℕ, List, sym, ap, subst, ◌∙◌}
use Rattle.bool_functions.specs.NameList.{Adds}
use Rattle.bool_functions.proofs.FoldedNames.{added_same}
use Rattle.driver_models.specs.Cores.{HaveSame}
use Rattle.driver_models.proofs.known_names.add_name.Goals as goal

pub returns-clause-same : goal.returns-clause-same
returns-clause-same g c =
    let key : c.deref.result.now ≡ g.L.DriverLanguage.fold c.args.name.now = c.deref.ensures.value ∙ c.in_ok-key.ensures in
    let added =
    added_same g.L.DriverLanguage.fold c.args.folded.now c.add.new.self c.args.names.now c.args.name.now c.in_ok-add.field-0
    (subst (λ (x : List ℕ). Adds c.args.folded.now x c.in_ok-add.field-0 c.add.new.self) key c.in_ok-add.ensures.added) c.requires in
    subst (HaveSame g.L.DriverLanguage.fold c.add.new.self)
    (sym (c.in_ok-push.ensures.ok ∙ ap (λ (item : List ℕ). c.args.names.now ++ item ∷ []) c.in_ok-from_slice.ensures)) added
