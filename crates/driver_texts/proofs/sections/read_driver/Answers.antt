use Rattle.std.proofs.Common.{arith}
use Rattle.driver_texts.proofs.SectionTexts.{text_of_read, read_is_sound}
use Rattle.driver_texts.proofs.sections.read_driver.Goals as goal

pub returns-in-None-clause-sound : goal.returns-in-None-clause-sound
returns-in-None-clause-sound g c =
    let grammar = g.L.DriverSections.grammar in
    let found = c.in-Ok-section.found in
    λ stand. read_is_sound grammar g.L.Spelling.Language.is_same c.args.names.now c.args.cores.now c.args.text.now found stand
    (text_of_read grammar c.args.names.now c.args.cores.now c.args.text.now c.in-Ok.field-0.tokens.items found
    c.section.new.cursor c.in-Ok.ensures.tokens (grind arith) (grind arith))
