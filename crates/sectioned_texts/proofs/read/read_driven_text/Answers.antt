use Rattle.sectioned_texts.proofs.TextLaws.{read_drivers_stand}
use Rattle.sectioned_texts.proofs.read.read_driven_text.Goals as goal

pub returns-in-Ok-clause-drivers : goal.returns-in-Ok-clause-drivers
returns-in-Ok-clause-drivers g c =
    read_drivers_stand g.L.SectionLanguage.language g.met.L.SectionLanguage.hold c.args.text.now c.in-Ok.answer c.in-Ok.ensures
