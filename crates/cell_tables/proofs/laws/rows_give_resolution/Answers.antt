use Rattle.cell_tables.proofs.TableLemmas.{function_rows-res}
use Rattle.cell_tables.proofs.laws.rows_give_resolution.Goals as goal

pub returns : goal.returns
returns c = function_rows-res
