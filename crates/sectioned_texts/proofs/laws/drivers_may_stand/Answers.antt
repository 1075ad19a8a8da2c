use Rattle.sectioned_texts.proofs.TextLaws.{drivers_stand}
use Rattle.sectioned_texts.proofs.laws.drivers_may_stand.Goals as goal

pub returns : goal.returns
returns g c = drivers_stand g.L.SectionLanguage.language g.met.L.SectionLanguage.hold c.args.text.now
