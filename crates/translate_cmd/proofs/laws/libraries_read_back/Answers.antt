use Rattle.translate_cmd.proofs.ReadBack.{libraries-read-back}
use Rattle.translate_cmd.proofs.laws.libraries_read_back.Goals as goal

pub returns : goal.returns
returns c = libraries-read-back
