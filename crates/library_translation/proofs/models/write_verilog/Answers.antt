use Rattle.text_io.specs.declared.slots.OutSlot.TheVariants.{VerilogText}
use Rattle.text_io.specs.declared.slots.Slot.TheVariants.{Output}
use Rattle.library_translation.specs.Cells.{model_text}
use Rattle.run_outcome.specs.Written.{in_verilog}
use Rattle.run_outcome.proofs.WrittenLaws.{all_stops, all_goes_on, still_bound_all}
use Rattle.library_translation.proofs.ModelTexts.{verilog_of_core}
use Rattle.library_translation.proofs.models.write_verilog.Goals as goal

pub write_verilog_drivers-requires : goal.write_verilog_drivers-requires
write_verilog_drivers-requires g c = still_bound_all _ _ _ (Output VerilogText) c.in_ok-write_module.ensures.text.whole c.requires.bound

pub returns-in_err-write_module-clause-text : goal.returns-in_err-write_module-clause-text
unfolding model_text
returns-in_err-write_module-clause-text g c =
    verilog_of_core _ _ _ _ _ _ c.requires.core
    (all_stops _ _ (in_verilog _) (in_verilog _) _ _ c.in_err-write_module.ensures.text c.from_residual.ensures.0)

pub returns-clause-text : goal.returns-clause-text
unfolding model_text
returns-clause-text g c =
    verilog_of_core _ _ _ _ _ _ c.requires.core
    (all_goes_on _ _ _ (in_verilog _) (in_verilog _) _ c.in_ok-write_module.ensures.text.whole c.write_verilog_drivers.ensures.text)
