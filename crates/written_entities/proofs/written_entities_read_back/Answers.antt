use Rattle.written_entities.proofs.EntityFile.{entities_read_back}
use Rattle.written_entities.proofs.written_entities_read_back.Goals as goal

pub returns : goal.returns
returns c = λ es h. entities_read_back es h
