use Rattle.std.proofs.Common.{false, slice_index_or}
use Rattle.bool_functions.proofs.Renamings.{value_by-renamed_by}
use Rattle.bool_functions.proofs.laws.renamed_values.Goals as goal

pub returns : goal.returns
returns c to bits f = value_by-renamed_by (λ i. slice_index_or bits i false) to f
