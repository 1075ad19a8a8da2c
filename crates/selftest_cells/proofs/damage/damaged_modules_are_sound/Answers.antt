use Rattle.selftest_cells.proofs.SoundModules.{damaged_is_sound}
use Rattle.selftest_cells.proofs.damage.damaged_modules_are_sound.Goals as goal

pub returns : goal.returns
returns c = damaged_is_sound
