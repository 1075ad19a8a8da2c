use Rattle.std.proofs.Common.{◌≡◌, ℕ, List, map, Some, slice_get, sym, ap, ◌∙◌}
use Rattle.std.specs.List.{position_from}
use Rattle.std.specs.Option.{option_and_then}
use Rattle.std.specs.Str.{bytes_eq}
use Rattle.bool_functions.specs.NameList.{number_of}
use Rattle.driver_models.specs.Cores.{Core, ports_at, core_ports}
use Rattle.driver_models.specs.Found.{core_of}
use Rattle.driver_models.proofs.FoldedNames.{ports_found}
use Rattle.driver_models.proofs.cores.Cores.ports.Goals as goal

pub returns : goal.returns
returns g c =
    let fold : List ℕ → List ℕ = g.L.DriverLanguage.fold in
    let x : List ℕ = c.args.name.now in
    let cores : List Core = map core_of c.self.inside.cores.items in
    let n : ℕ = c.in-Some-get.first.now in
    let key : c.deref.result.now ≡ fold x = c.deref.ensures.value ∙ c.in_ok-folded.ensures in
    let number : number_of c.self.inside.folded (fold x) ≡ Some c.in-Some.number = ap (number_of c.self.inside.folded) (sym key) ∙ sym c.in-Some.ensures in
    let first : slice_get c.self.inside.firsts c.in-Some.number ≡ Some n = sym c.in-Some-get.ensures.value in
    let is : position_from (λ (core : Core). bytes_eq (fold x) (fold core.name)) 0 cores ≡ Some n =
    sym (c.self.invariant.first (fold x)) ∙ ap (option_and_then (slice_get c.self.inside.firsts)) number ∙ first in
    c.ports_at.ensures ∙ ap (λ (all : List Core). ports_at all n) (sym c.self.view_is)
    ∙ sym (ports_found fold g.L.Spelling.Language.is_name g.L.Spelling.Language.is_same g.met.L.DriverLanguage.same cores x c.requires ∙ ap (option_and_then (ports_at cores)) is)
    ∙ ap (λ (all : List Core). core_ports g.L.Spelling.Language.is_same all x) c.self.view_is
