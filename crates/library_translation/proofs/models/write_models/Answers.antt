use Rattle.text_io.specs.declared.slots.OutSlot.TheVariants.{VitalText}
use Rattle.text_io.specs.declared.slots.Slot.TheVariants.{Output}
use Rattle.library_translation.specs.Cells.{models_written}
use Rattle.run_outcome.proofs.WrittenLaws.{stopped_before, all_stops, all_goes_on, still_bound_all}
use Rattle.library_translation.proofs.models.write_models.Goals as goal

pub returns-in_err-parts-clause-text : goal.returns-in_err-parts-clause-text
returns-in_err-parts-clause-text g c = stopped_before _ _ _ c.from_residual.ensures.0

pub write_vital-requires-clause-bound : goal.write_vital-requires-clause-bound
write_vital-requires-clause-bound g c = still_bound_all _ _ _ (Output VitalText) c.in_ok-write_verilog.ensures.text.whole c.requires.vital

pub returns-in_err-write_verilog-clause-text : goal.returns-in_err-write_verilog-clause-text
unfolding models_written
returns-in_err-write_verilog-clause-text g c =
    all_stops _ _ _ _ _ _ c.in_err-write_verilog.ensures.text c.from_residual-in_err-write_verilog.ensures.0

pub returns-clause-text : goal.returns-clause-text
unfolding models_written
returns-clause-text g c = all_goes_on _ _ _ _ _ _ c.in_ok-write_verilog.ensures.text.whole c.write_vital.ensures.text
