use Rattle.cell_tables.proofs.TableLemmas.{primitive-combinational}
use Rattle.cell_tables.proofs.laws.primitive_is_combinational.Goals as goal

pub returns : goal.returns
returns c = primitive-combinational
