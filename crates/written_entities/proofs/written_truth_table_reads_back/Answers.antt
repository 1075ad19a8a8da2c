use Rattle.written_entities.proofs.TableText.{truth_table_read_back}
use Rattle.written_entities.proofs.written_truth_table_reads_back.Goals as goal

pub returns : goal.returns
returns c = λ columns table some most all. truth_table_read_back columns table some most all
