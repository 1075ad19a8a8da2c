use Rattle.std.proofs.Common.{◌≡◌, IfOk, length, subst}
use Rattle.cell_machine.specs.Delay.{least}
use Rattle.cell_attributes.specs.Limits.{wide_text}
use Rattle.cell_attributes.specs.Shown.{shown_vocabulary}
use Rattle.cell_attributes.proofs.Fits.{read_text_fits}
use Rattle.cell_functions.proofs.output_pins.OutputReader.wide_pin_text.Goals as goal

-- each name of the text has a number
pub wide_text-requires-clause-fits : goal.wide_text-requires-clause-fits
wide_text-requires-clause-fits c =
    read_text_fits (length c.args.self.now.to.now) (shown_vocabulary c.args.self.now.vocabulary.now) c.args.owner.now c.in_ok-text.text
    c.requires.numbered c.in_ok-text.ensures

pub returns : goal.returns
returns c =
    subst
    (λ t. IfOk c.wide_text.result (λ wide. wide ≡ least (wide_text c.args.self.now.pins c.args.self.now.groups.now c.args.self.now.to.now t)))
    c.in_ok-text.ensures c.wide_text.ensures
