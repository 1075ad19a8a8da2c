use Rattle.std.proofs.Common.{◌≡◌, nat_le, drop}
use Rattle.std.specs.List.{filter}
use Rattle.sectioned_texts.specs.DrivenModels.{front_models}
use Rattle.sectioned_texts.proofs.fronts.first_front.Given as goal

abbrev pub invariant-loop-to : goal.invariant-loop-to
invariant-loop-to g l =
    front_models g.L.SectionLanguage.language.text l.text (filter (λ to. nat_le to l.last) (drop l.to-index l.ends))
    ≡ front_models g.L.SectionLanguage.language.text l.text (filter (λ to. nat_le to l.last) l.ends)
