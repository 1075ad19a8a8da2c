use Rattle.written_entities.proofs.TableText.{state_table_read_back}
use Rattle.written_entities.proofs.written_state_table_reads_back.Goals as goal

pub returns : goal.returns
returns c = λ state w all. state_table_read_back state w all
