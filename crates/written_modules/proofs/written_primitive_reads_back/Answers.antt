use Rattle.written_modules.proofs.PrimitiveText.{primitive_read_back}
use Rattle.written_modules.proofs.written_primitive_reads_back.Goals as goal

pub returns : goal.returns
returns c = λ udp w. primitive_read_back udp w
