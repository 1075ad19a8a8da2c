use Rattle.text_io.specs.declared.slots.InSlot.TheVariants.{Library}
use Rattle.text_io.specs.declared.slots.OutSlot.TheVariants.{VerilogText, VitalText}
use Rattle.text_io.specs.declared.slots.Slot.TheVariants.{Input, Output}
use Rattle.text_io.proofs.Wrote.{still_bound}
use Rattle.library_translation.proofs.TranslateLemmas.{prelude_stops, items_stop, finish_stops, finished}
use Rattle.library_translation.proofs.run.translate_from.Goals as goal

pub returns-in_err-write_prelude-clause-text : goal.returns-in_err-write_prelude-clause-text
returns-in_err-write_prelude-clause-text g c = prelude_stops _ _ _ _ c.in_err-write_prelude.ensures.text c.from_residual.ensures.0

pub returns-in_err-ending-clause-text : goal.returns-in_err-ending-clause-text
returns-in_err-ending-clause-text g c =
    items_stop _ _ _ _ _ _ _ c.in_ok-write_prelude.ensures.text.whole c.requires.fresh c.in_err-ending.ensures.text c.from_residual-in_err-ending.ensures.0

pub returns-in_err-finish-clause-text : goal.returns-in_err-finish-clause-text
returns-in_err-finish-clause-text g c =
    finish_stops _ _ _ _ _ _ _ _ _ c.in_ok-write_prelude.ensures.text.whole c.requires.fresh c.in_ok-ending.ensures.text c.in_err-finish.ensures.text c.from_residual-in_err-finish.ensures.0

pub returns-clause-text : goal.returns-clause-text
returns-clause-text g c =
    finished _ _ _ _ _ _ _ _ c.in_ok-write_prelude.ensures.text.whole c.requires.fresh c.in_ok-ending.ensures.text c.in_ok-finish.ensures.text

pub handle_items-requires : goal.handle_items-requires
handle_items-requires g c =
    let prelude = c.in_ok-write_prelude.ensures.text.whole in
    record {
      library = still_bound _ _ _ _ (Input Library) prelude c.requires.library;
      models = record {
        verilog = still_bound _ _ _ _ (Output VerilogText) prelude c.requires.models.verilog;
        vital = still_bound _ _ _ _ (Output VitalText) prelude c.requires.models.vital;
      };
      fresh = c.requires.fresh;
    }
