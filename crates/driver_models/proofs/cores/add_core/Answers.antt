use Rattle.std.proofs.Common.{◌≡◌, ℕ, List, length, map, sym, ap, subst, ◌∙◌}
use Rattle.std.proofs.lemmas.List.{length-map}
use Rattle.bool_functions.proofs.NameLists.{map-push}
use Rattle.driver_models.specs.declared.cores.Core.{Core}
use Rattle.driver_models.specs.Found.{core_of, AreFound}
use Rattle.driver_models.proofs.FoundCores.{added}
use Rattle.driver_models.proofs.cores.add_core.Goals as goal

pub returns-clause-found : goal.returns-clause-found
returns-clause-found g c =
    let fold : List ℕ → List ℕ = g.L.DriverLanguage.fold in
    let key : c.deref.result.now ≡ fold c.args.core.name.now = c.deref.ensures.value ∙ c.in_ok-key.ensures in
    let size : length c.as_slice.result.now ≡ length (map core_of c.args.cores.now.items) = ap (length {A = Core}) c.as_slice.ensures.value ∙ sym (length-map c.args.cores.now.items core_of) in
    let all = ap (map core_of) c.in_ok-push.ensures.items ∙ map-push core_of c.args.cores.now.items c.args.core in
    subst (AreFound fold c.add.new.self c.push_first.new.firsts) (sym all)
    (added fold c.args.folded.now c.add.new.self c.args.firsts.now c.push_first.new.firsts (map core_of c.args.cores.now.items) (core_of c.args.core)
    c.deref.result.now (length c.as_slice.result.now) c.in_ok-added.added c.requires c.in_ok-added.ensures.added key size c.in_ok-push_first.ensures)
