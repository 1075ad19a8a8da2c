use Rattle.std.proofs.Common.{length}
use Rattle.cell_attributes.specs.Shown.{shown_vocabulary}
use Rattle.cell_attributes.proofs.Fits.{read_text_fits}
use Rattle.cell_functions.proofs.output_pins.OutputReader.output.Goals as goal

-- each name of the text has a number
pub pin-requires-clause-fits : goal.pin-requires-clause-fits
pin-requires-clause-fits c =
    read_text_fits (length c.args.self.now.to.now) (shown_vocabulary c.args.self.now.vocabulary.now) c.args.owner.now c.in_ok-text.text
    c.requires.numbered c.in_ok-text.ensures
