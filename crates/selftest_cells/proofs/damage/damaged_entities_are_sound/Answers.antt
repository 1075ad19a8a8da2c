use Rattle.selftest_cells.proofs.SoundEntities.{damaged_is_sound}
use Rattle.selftest_cells.proofs.damage.damaged_entities_are_sound.Goals as goal

pub returns : goal.returns
returns c = damaged_is_sound
