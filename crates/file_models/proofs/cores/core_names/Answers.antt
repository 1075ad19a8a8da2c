use Rattle.std.proofs.Common.{◌≡◌, ℕ, List, ap, subst, ◌∙◌}
use Rattle.bool_functions.specs.NameList.{Adds}
use Rattle.driver_models.specs.Cores.{Core}
use Rattle.file_models.proofs.NewNames.{names_more}
use Rattle.file_models.proofs.cores.core_names.Goals as goal

pub loop-core-preserved : goal.loop-core-preserved
loop-core-preserved g c =
    let l = g.L.SectionLanguage.language in
    let fold = g.L.Drivers.DriverLanguage.fold in
    let named = ap (λ (core : Core). core.name) c.core.ensures ∙ ap (λ m. (l.core m).name) c.get.ensures in
    let same : c.deref.result.now ≡ fold (l.core c.core-item.result).name = c.deref.ensures.value ∙ c.in_ok-folded.ensures ∙ ap fold named in
    record {
      names = names_more (λ m. fold (l.core m).name) c.args.cores.now c.loop-core.core-index c.core-item.result _ _ _ c.loop-core-test.true c.core-item.is
          c.loop-core.invariant.names (subst (λ (name : List ℕ). Adds c.loop-core.names name c.in_ok-add.field-0 c.add.new.self) same c.in_ok-add.ensures.added);
    }
