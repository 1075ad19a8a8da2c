use Rattle.written_modules.proofs.FileReading.{read_back}
use Rattle.written_modules.proofs.written_modules_read_back.Goals as goal

pub returns : goal.returns
returns c = λ ms h. read_back ms h
