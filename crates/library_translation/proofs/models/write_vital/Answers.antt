use Rattle.text_io.specs.declared.slots.OutSlot.TheVariants.{VitalText}
use Rattle.text_io.specs.declared.slots.Slot.TheVariants.{Output}
use Rattle.library_translation.specs.Cells.{vital_text}
use Rattle.run_outcome.specs.Written.{in_vital}
use Rattle.run_outcome.proofs.WrittenLaws.{all_stops, all_goes_on, still_bound_all}
use Rattle.library_translation.proofs.models.write_vital.Goals as goal

pub write_vital_drivers-requires : goal.write_vital_drivers-requires
write_vital_drivers-requires g c = still_bound_all _ _ _ (Output VitalText) c.in_ok-write_core_entity.ensures.text.whole c.requires.bound

pub returns-in_err-write_core_entity-clause-text : goal.returns-in_err-write_core_entity-clause-text
unfolding vital_text
returns-in_err-write_core_entity-clause-text g c =
    all_stops _ _ (in_vital _) (in_vital _) _ _ c.in_err-write_core_entity.ensures.text c.from_residual.ensures.0

pub returns-clause-text : goal.returns-clause-text
unfolding vital_text
returns-clause-text g c = all_goes_on _ _ _ (in_vital _) (in_vital _) _ c.in_ok-write_core_entity.ensures.text.whole c.write_vital_drivers.ensures.text
