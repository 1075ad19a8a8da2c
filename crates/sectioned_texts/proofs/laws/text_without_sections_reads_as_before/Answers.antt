use Rattle.sectioned_texts.proofs.TextLaws.{reads_as_before}
use Rattle.sectioned_texts.proofs.laws.text_without_sections_reads_as_before.Goals as goal

pub returns : goal.returns
returns g c = reads_as_before g.L.SectionLanguage.language c.args.text.now
