use Rattle.std.proofs.Common.{◌≡◌, ℕ, ◌+◌, ◌<◌, List, [], ◌∷◌, ◌++◌, length, drop, sym, ap, subst, ◌∙◌, arith}
use Rattle.std.proofs.lemmas.List.{drop_more}
use Rattle.lexer.specs.declared.span.Span.{Span}
use Rattle.lexer.specs.Spans.{LieInside}
use Rattle.driver_models.specs.declared.model.DriverModel.{DriverModel}
use Rattle.sectioned_texts.specs.DrivenModels.{taken_names, more_drivers}
use Rattle.sectioned_texts.proofs.NextDrivers.{taken_more, next_driver}
use Rattle.sectioned_texts.proofs.drivers.push_drivers.Goals as goal

pub loop-section-preserved : goal.loop-section-preserved
loop-section-preserved g c =
    let l = g.L.SectionLanguage.language in
    let text : List ℕ = c.args.text.now in
    let models = c.args.models.now in
    let sections : List Span = c.args.sections.now in
    let i : ℕ = c.loop-section.section-index in
    let drivers : List DriverModel = c.loop-section.drivers in
    let driver : DriverModel = c.in-Ok.driver in
    let first : Span = record { at = 0; end = 0 } in
    let left : i < length sections = c.loop-section-test.true in
    let all : c.with_driver.new.drivers ≡ drivers ++ driver ∷ [] = c.in_ok-names-in-Ok.ensures.added in
    record {
      names = c.in_ok-names-in-Ok.ensures.named
          ∙ ap (λ (before : List (List ℕ)). before ++ driver.name ∷ []) c.loop-section.invariant.names ∙ sym (taken_more l text models drivers driver)
          ∙ ap (taken_names l models) (sym all);
      inside = (subst (LieInside text) (drop_more sections i first left) c.loop-section.invariant.inside).2;
      drivers = ap (λ (ds : List DriverModel). more_drivers l text models ds (drop (i + 1) sections)) all
          ∙ sym (next_driver l text models drivers c.loop-section.names _ sections i _ left c.loop-section.invariant.names c.requires.cores driver
          (sym c.in-Ok.is ∙ c.in_ok-driver.ensures))
          ∙ c.loop-section.invariant.drivers;
    }
